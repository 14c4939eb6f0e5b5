use Rattle.std.proofs.Common.{sym, subst, ◌∙◌}
use Rattle.std.specs.Prelude.{slice_get}
use Rattle.td_values.specs.declared.TypeKind.TheVariants as kind
use Rattle.td_headings.specs.Expressions.{IsTree, no_tuple, init_of}
use Rattle.td_headings.proofs.WellTyped.{init_tree}
use Rattle.td_headings.proofs.typed.init_expr.Goals as goal

pub whole-requires : goal.whole-requires
whole-requires c =
    let s = c.args.catalogue.now in
    let n = c.args.place in
    let known = (λ i. init_of (slice_get (sym c.origins.ensures i) n) (slice_get (sym c.schema.ensures.schema i).relvars n)) ∙ c.in-Some.ensures in
    subst (λ u. IsTree s no_tuple u (kind.Relation c.in_ok-copy-in-Some.field-0)) (sym c.in_ok-tree-in-Some.ensures)
    (subst (λ h. IsTree s no_tuple c.in-Some.tree.now (kind.Relation h)) (sym c.in_ok-copy-in-Some.ensures) (init_tree s c.schema.ensures.defined n (c.in-Some.tree.now, c.in-Some.heading.now) known))
