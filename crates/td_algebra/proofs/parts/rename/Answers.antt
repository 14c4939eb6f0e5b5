use Rattle.std.proofs.Common.{ap, ◌∙◌}
use Rattle.td_tuples.specs.Renamings.{renamed_columns}
use Rattle.td_algebra.proofs.Projections.{renamed_fit, renamed_made}
use Rattle.td_algebra.proofs.parts.rename.Goals as goal

pub from_tuples-requires : goal.from_tuples-requires
from_tuples-requires c =
    let items = c.args.items.now in
    renamed_fit c.args.r.now c.tuples.ensures.rows items c.in_ok-heading.heading (c.in_ok-heading.ensures ∙ ap (renamed_columns items) c.heading.ensures)
    c.tuples.result.now c.in_ok-tuples.tuples.items c.tuples.ensures.all c.in_ok-tuples.ensures

pub returns : goal.returns
returns c =
    let items = c.args.items.now in
    renamed_made c.args.r.now c.tuples.ensures.rows items c.in_ok-heading.heading (c.in_ok-heading.ensures ∙ ap (renamed_columns items) c.heading.ensures)
    c.tuples.result.now c.in_ok-tuples.tuples.items c.tuples.ensures.all c.in_ok-tuples.ensures c.from_tuples.result c.from_tuples.ensures
