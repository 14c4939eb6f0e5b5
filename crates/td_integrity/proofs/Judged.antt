-- What a test that is judged asks for.
use Rattle.std.proofs.Common.{◌≡◌, ℕ, Bool, List, Some, Result, ap, sym, subst}
use Rattle.td_values.specs.Data.{no_attrs}
use Rattle.td_values.specs.declared.TypeKind.TheVariants as kind
use Rattle.td_schema.specs.Kinds.{Name}
use Rattle.td_typed_trees.specs.declared.expression.Expression.{Expression}
use Rattle.td_typed_trees.specs.declared.tree.Typed.{Typed}
use Rattle.td_algebra.specs.Raising.{and_then}
use Rattle.td_headings.specs.Catalogues.{CatalogueData}
use Rattle.td_headings.specs.Definitions.{Defined}
use Rattle.td_headings.specs.Expressions.{IsTree, IsClosedExpression, IsConstraint, no_tuple, constraint_at, constraint_of}
use Rattle.td_headings.specs.declared.defined.Test.TheVariants as test
use Rattle.td_headings.proofs.WellTyped.{constraint_tree}
use Rattle.td_meaning.specs.Mean.{Relvars}
use Rattle.td_operators.specs.Values.{truth_of}
use Rattle.td_type_soundness.specs.Meanings.{GivesRelation}
use Rattle.td_semantics.specs.Raises.{Tells}
use Rattle.td_semantics.specs.Trees.{AreBases, IsIn, tree_means}
use Rattle.td_semantics.specs.declared.failure.Failure.{Failure}
use Rattle.td_integrity.specs.ForProofs.Tested.{HasRelation, StandsAt}
use Rattle.td_semantics.specs.Stored.{AreStored}
use Rattle.td_semantics.specs.Tests.{judgement}
use Rattle.td_integrity.proofs.Tested.{has_relvar}

-- ---- what is stored
pub are_bases : (c : CatalogueData) (r : Relvars) → AreStored c r → AreBases c r
are_bases c r stored n v base at = let k = stored n v base at in subst (GivesRelation c.schema v.value) (sym k.1) k.2

pub has_relation : (c : CatalogueData) (r : Relvars) → Defined c → AreStored c r → (place n : ℕ) (key : List Name) → StandsAt c place (test.Key n key) → HasRelation (r n)
has_relation c r defined stored place n key at =
    let h = has_relvar c defined place (test.Key n key) at in
    let k = stored n h.0 h.2 h.1 in
    (k.0, k.1)

-- ---- constraints
placed : (c : CatalogueData) (n : ℕ) (x : Name) (u : Typed) → StandsAt c n (test.Constraint x u) → constraint_at c n ≡ Some u
placed c n x u at = ap constraint_of at

module _ (c : CatalogueData) (n : ℕ) (x : Name) (u : Typed) (e : Expression) (at : StandsAt c n (test.Constraint x u)) (is : IsConstraint c (constraint_at c n) e) where
  pub whole : IsClosedExpression c u kind.Boolean e
  whole = subst (λ o. IsConstraint c o e) (placed c n x u at) is

  pub within : Defined c → IsIn c e
  within defined = record {
    tree = subst (λ v. IsTree c no_tuple v e.kind) (sym whole.tree) (subst (IsTree c no_tuple u) (sym whole.kind_) (constraint_tree c defined n u (placed c n x u at)));
    attributes = whole.attributes;
    under = whole.under;
  }

  pub tells : (r : Relvars) (a : Result Bool Failure) → Tells a (and_then (tree_means c r e.tree no_attrs) truth_of) → Tells a (judgement c r (test.Constraint x u))
  tells r a h = subst (λ v. Tells a (and_then (tree_means c r v no_attrs) truth_of)) whole.tree h
