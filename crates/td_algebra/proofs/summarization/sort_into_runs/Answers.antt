use Rattle.std.proofs.Common.{ap, ◌∙◌, sym, subst}
use Rattle.td_tuples.specs.Parts.{columns_in, names_of}
use Rattle.td_algebra.specs.ForProofs.Index.{IsIndex}
use Rattle.td_algebra.proofs.GroupParts.{parts_fit, parts_made}
use Rattle.td_algebra.proofs.KeyGroups.{by_parts}
use Rattle.td_algebra.proofs.summarization.sort_into_runs.Goals as goal

pub parts_of_runs-requires : goal.parts_of_runs-requires
parts_of_runs-requires c = by_parts c.args.relation.now (names_of c.in_ok-columns.columns) c.in_ok-index.index c.in_ok-index.ensures

pub from_tuples-per-requires : goal.from_tuples-per-requires
from_tuples-per-requires c =
    let names = c.args.names.now in
    let index = c.in_ok-index.ensures in
    parts_fit names c.args.relation.now index.rows c.in_ok-columns.columns (c.in_ok-columns.ensures ∙ ap (columns_in names) c.heading.ensures) c.in_ok-index.index.tuples.items index.entries c.in_ok-parts.parts.items c.in_ok-parts.ensures

pub returns-clause-parts : goal.returns-clause-parts
returns-clause-parts c =
    let names = c.args.names.now in
    let index = c.in_ok-index.ensures in
    parts_made names c.args.relation.now index.rows c.in_ok-columns.columns (c.in_ok-columns.ensures ∙ ap (columns_in names) c.heading.ensures) c.in_ok-index.index.tuples.items index.entries c.in_ok-parts.parts.items c.in_ok-parts.ensures
    c.from_tuples-per.result c.from_tuples-per.ensures

pub returns-clause-index : goal.returns-clause-index
returns-clause-index c =
    let r = c.args.relation.now in
    let per = c.from_tuples-per.result in
    let ns = names_of c.in_ok-columns.columns in
    subst (λ h. IsIndex r (names_of h) per (names_of per.heading) c.in_ok-index-2.index) (sym c.from_tuples-per.ensures.heading) (c.in_ok-index-2.ensures r ns r ns c.in_ok-index.ensures)
