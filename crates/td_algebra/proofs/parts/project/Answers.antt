use Rattle.std.proofs.Common.{ap, ◌∙◌}
use Rattle.td_tuples.specs.Parts.{columns_in}
use Rattle.td_algebra.proofs.Projections.{projected_fit, projected}
use Rattle.td_algebra.proofs.parts.project.Goals as goal

pub from_tuples-requires : goal.from_tuples-requires
from_tuples-requires c =
    let names = c.args.names.now in
    projected_fit c.args.r.now c.tuples.ensures.rows names c.in_ok-heading.heading (c.in_ok-heading.ensures ∙ ap (columns_in names) c.heading.ensures)
    c.tuples.result.now c.in_ok-tuples.tuples.items c.tuples.ensures.all c.in_ok-tuples.ensures

pub returns : goal.returns
returns c =
    let names = c.args.names.now in
    projected c.args.r.now c.tuples.ensures.rows names c.in_ok-heading.heading (c.in_ok-heading.ensures ∙ ap (columns_in names) c.heading.ensures)
    c.tuples.result.now c.in_ok-tuples.tuples.items c.tuples.ensures.all c.in_ok-tuples.ensures c.from_tuples.result c.from_tuples.ensures
