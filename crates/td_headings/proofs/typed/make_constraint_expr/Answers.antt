use Rattle.std.proofs.Common.{ap, sym, subst, ◌∙◌, slice_get}
use Rattle.td_values.specs.declared.TypeKind.TheVariants as kind
use Rattle.td_headings.specs.Expressions.{IsTree, no_tuple, constraint_of}
use Rattle.td_headings.proofs.WellTyped.{constraint_tree}
use Rattle.td_headings.proofs.typed.make_constraint_expr.Goals as goal

pub whole-requires : goal.whole-requires
whole-requires c =
    let known = c.tests.ensures in
    let is = ap (λ ts. constraint_of (slice_get ts c.args.place)) (sym known.tests) ∙ c.in-Some.ensures in
    subst (λ u. IsTree c.args.catalogue.now no_tuple u kind.Boolean) (sym c.in_ok-tree-in-Some.ensures) (constraint_tree c.args.catalogue.now known.defined c.args.place _ is)
