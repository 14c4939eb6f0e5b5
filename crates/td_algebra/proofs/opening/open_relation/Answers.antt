use Rattle.std.proofs.Common.{ap, ◌∙◌}
use Rattle.td_tuples.specs.Parts.{columns_out}
use Rattle.td_tuples.specs.Nestings.{inner_columns}
use Rattle.td_algebra.proofs.Openings.{opened_fit, opened_made}
use Rattle.td_algebra.proofs.opening.open_relation.Goals as goal

pub from_tuples-requires : goal.from_tuples-requires
from_tuples-requires c =
    opened_fit c.args.name.now c.args.r.now c.in_ok-tuples.ensures.rows c.in_ok-outer.outer c.in_ok-inner.inner
    (c.in_ok-outer.ensures ∙ (λ i. columns_out (c.from_ref.ensures.value i) (c.heading.ensures i)))
    (c.in_ok-inner.ensures ∙ ap (inner_columns c.args.name.now) c.heading-2.ensures)
    c.in_ok-tuples.tuples.items c.in_ok-tuples.ensures.opened c.in_ok-heading.heading c.in_ok-heading.ensures c.in_ok-tuples.ensures.fit

pub returns-clause-opened : goal.returns-clause-opened
returns-clause-opened c =
    opened_made c.args.name.now c.args.r.now c.in_ok-tuples.ensures.rows c.in_ok-outer.outer c.in_ok-inner.inner
    (c.in_ok-outer.ensures ∙ (λ i. columns_out (c.from_ref.ensures.value i) (c.heading.ensures i)))
    (c.in_ok-inner.ensures ∙ ap (inner_columns c.args.name.now) c.heading-2.ensures)
    c.in_ok-tuples.tuples.items c.in_ok-tuples.ensures.opened c.in_ok-heading.heading c.in_ok-heading.ensures c.from_tuples.result c.from_tuples.ensures
