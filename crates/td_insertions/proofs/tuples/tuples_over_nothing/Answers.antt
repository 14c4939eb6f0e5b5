use Rattle.std.proofs.Common.{slice_get, sym, ap, subst, ◌∙◌}
use Rattle.td_values.specs.Headings.{Header}
use Rattle.td_values.specs.declared.TypeKind.TheVariants as kind
use Rattle.td_syntax.specs.declared.tree.Named.{Named}
use Rattle.td_schema.specs.Schemas.{SchemaData}
use Rattle.std.specs.FinSet as set
use Rattle.td_relations.specs.Sets.{IsRelation}
use Rattle.td_insertions.proofs.Meaning.{emptied_bases, if_over_nothing, is_there, same_relvar}
use Rattle.td_insertions.proofs.tuples.tuples_over_nothing.Goals as goal

pub relation-requires-clause-kind : goal.relation-requires-clause-kind
relation-requires-clause-kind g c =
    let s = c.args.catalogue.now in
    let a = c.args.assignment.now in
    let v : Named Header = record { name = c.in-Some.field-0-0.now; value = c.in-Some.heading.now } in
    let at = ap (λ (z : SchemaData). slice_get z.relvars a.target) (sym c.schema.ensures.schema) ∙ c.in-Some.ensures in
    c.requires.assigned.1.kind_ ∙ ap (λ (w : Named Header). kind.Relation w.value) (same_relvar s a c.requires.assigned v at)

pub relation-requires-clause-bases : goal.relation-requires-clause-bases
relation-requires-clause-bases g c =
    let s = c.args.catalogue.now in
    let a = c.args.assignment.now in
    let v : Named Header = record { name = c.in-Some.field-0-0.now; value = c.in-Some.heading.now } in
    let at = ap (λ (z : SchemaData). slice_get z.relvars a.target) (sym c.schema.ensures.schema) ∙ c.in-Some.ensures in
    emptied_bases s (g.L.Lookup.relvars c.args.lookup.now) a.target v c.empty-nothing.result c.requires.stored at
    (subst (λ (h : Header). IsRelation h set.empty c.empty-nothing.result) c.in_ok-copy-in-Some.ensures c.empty-nothing.ensures)

pub unreachable-requires : goal.unreachable-requires
unreachable-requires g c =
    let a = c.args.assignment.now in
    is_there c.args.catalogue.now a c.requires.assigned (ap (λ (z : SchemaData). slice_get z.relvars a.target) (sym c.schema.ensures.schema) ∙ c.in-None.ensures {u = tt})

pub returns : goal.returns
returns g c =
    let s = c.args.catalogue.now in
    let a = c.args.assignment.now in
    let v : Named Header = record { name = c.in-Some.field-0-0.now; value = c.in-Some.heading.now } in
    let at = ap (λ (z : SchemaData). slice_get z.relvars a.target) (sym c.schema.ensures.schema) ∙ c.in-Some.ensures in
    if_over_nothing s (g.L.Lookup.relvars c.args.lookup.now) a v c.empty-nothing.result at
    (subst (λ (h : Header). IsRelation h set.empty c.empty-nothing.result) c.in_ok-copy-in-Some.ensures c.empty-nothing.ensures)
    c.relation.result c.relation.ensures.told c.relation.ensures.typed
