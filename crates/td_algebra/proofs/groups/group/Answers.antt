use Rattle.std.proofs.Common.{ap, ◌∙◌}
use Rattle.td_values.specs.Data.{relation_type}
use Rattle.td_values.specs.Headings.{header_fields}
use Rattle.td_tuples.specs.Parts.{names_of, columns_in, columns_out}
use Rattle.td_tuples.specs.Unions.{with_column}
use Rattle.td_algebra.proofs.Grouping.{parts_fit, grouped_fit, grouped_made}
use Rattle.td_algebra.proofs.KeyGroups.{by_parts}
use Rattle.td_algebra.proofs.groups.group.Goals as goal

pub groups_of_runs-requires-clause-fit : goal.groups_of_runs-requires-clause-fit
groups_of_runs-requires-clause-fit c =
    let index = c.in_ok-index.ensures in
    parts_fit c.args.r.now index.rows c.args.names.now c.in_ok-inner.inner c.in_ok-outer.outer
    (c.in_ok-inner.ensures ∙ ap (columns_in c.args.names.now) c.heading.ensures) (c.in_ok-outer.ensures ∙ ap (columns_out c.args.names.now) c.heading-2.ensures)
    c.in_ok-index.index.tuples.items index.entries

pub groups_of_runs-requires-clause-by_parts : goal.groups_of_runs-requires-clause-by_parts
groups_of_runs-requires-clause-by_parts c = by_parts c.args.r.now (names_of c.in_ok-outer.outer) c.in_ok-index.index c.in_ok-index.ensures

pub from_tuples-requires : goal.from_tuples-requires
from_tuples-requires c =
    let inner = c.in_ok-inner.inner in
    let outer = c.in_ok-outer.outer in
    let i = c.in_ok-inner.ensures ∙ ap (columns_in c.args.names.now) c.heading.ensures in
    let o = c.in_ok-outer.ensures ∙ ap (columns_out c.args.names.now) c.heading-2.ensures in
    let index = c.in_ok-index.ensures in
    let e = c.in_ok-heading.ensures ∙ ap (λ n. with_column n (relation_type (header_fields inner)) outer) c.in_ok-copy.ensures in
    grouped_fit c.args.r.now index.rows c.args.names.now inner outer i o c.in_ok-index.index.tuples.items index.entries c.args.name.now c.in_ok-tuples.tuples.items c.in_ok-tuples.ensures c.in_ok-heading.heading e

pub returns : goal.returns
returns c =
    let inner = c.in_ok-inner.inner in
    let outer = c.in_ok-outer.outer in
    let i = c.in_ok-inner.ensures ∙ ap (columns_in c.args.names.now) c.heading.ensures in
    let o = c.in_ok-outer.ensures ∙ ap (columns_out c.args.names.now) c.heading-2.ensures in
    let index = c.in_ok-index.ensures in
    let e = c.in_ok-heading.ensures ∙ ap (λ n. with_column n (relation_type (header_fields inner)) outer) c.in_ok-copy.ensures in
    grouped_made c.args.r.now index.rows c.args.names.now inner outer i o c.in_ok-index.index.tuples.items index.entries c.args.name.now c.in_ok-tuples.tuples.items c.in_ok-tuples.ensures c.in_ok-heading.heading e c.from_tuples.result c.from_tuples.ensures
