use Rattle.std.proofs.Common.{ap, ◌∙◌}
use Rattle.td_values.specs.Data.{tuple_type}
use Rattle.td_values.specs.Headings.{header_fields}
use Rattle.td_tuples.specs.Parts.{columns_in, columns_out}
use Rattle.td_tuples.specs.Unions.{with_column}
use Rattle.td_algebra.proofs.Wrappings.{wrapped_fit, wrapped_made}
use Rattle.td_algebra.proofs.wraps.wrap.Goals as goal

pub from_tuples-requires : goal.from_tuples-requires
from_tuples-requires c =
    let names = c.args.names.now in
    wrapped_fit c.args.r.now c.tuples.ensures.rows names c.in_ok-inner.inner c.in_ok-outer.outer
    (c.in_ok-inner.ensures ∙ ap (columns_in names) c.heading.ensures) (c.in_ok-outer.ensures ∙ ap (columns_out names) c.heading-2.ensures)
    c.args.name.now c.in_ok-heading.heading (c.in_ok-heading.ensures ∙ ap (λ n. with_column n (tuple_type (header_fields c.in_ok-inner.inner)) c.in_ok-outer.outer) c.in_ok-copy.ensures)
    c.tuples.result.now c.in_ok-tuples.tuples.items c.tuples.ensures.all c.in_ok-tuples.ensures

pub returns : goal.returns
returns c =
    let names = c.args.names.now in
    wrapped_made c.args.r.now c.tuples.ensures.rows names c.in_ok-inner.inner c.in_ok-outer.outer
    (c.in_ok-inner.ensures ∙ ap (columns_in names) c.heading.ensures) (c.in_ok-outer.ensures ∙ ap (columns_out names) c.heading-2.ensures)
    c.args.name.now c.in_ok-heading.heading (c.in_ok-heading.ensures ∙ ap (λ n. with_column n (tuple_type (header_fields c.in_ok-inner.inner)) c.in_ok-outer.outer) c.in_ok-copy.ensures)
    c.tuples.result.now c.in_ok-tuples.tuples.items c.tuples.ensures.all c.in_ok-tuples.ensures c.from_tuples.result c.from_tuples.ensures
