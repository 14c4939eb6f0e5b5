-- The laws of evaluation.
use Rattle.std.specs.Prelude.{◌≡◌, ℕ, Some, slice_get}
use Rattle.std.specs.List.{Contains}
use Rattle.td_values.specs.Data.{Attrs}
use Rattle.td_values.specs.Headings.{Header}
use Rattle.td_values.specs.declared.TypeKind.{TypeKind}
use Rattle.td_syntax.specs.declared.tree.Named.{Named}
use Rattle.td_typed_trees.specs.declared.tree.Typed.{Typed}
use Rattle.td_typed_trees.specs.declared.expression.Expression.{Expression}
use Rattle.td_typed_trees.specs.declared.expression.VirtualUnder.{VirtualUnder}
use Rattle.td_headings.specs.Catalogues.{CatalogueData}
use Rattle.td_headings.specs.Definitions.{Defined}
use Rattle.td_headings.specs.Expressions.{HasAllUnder, IsTree, IsTyped, reads}
use Rattle.td_meaning.specs.Mean.{Relvars, mean, rows_in}
use Rattle.td_meaning.specs.Selections.{selection}
use Rattle.td_type_soundness.specs.Meanings.{GivesValue, GivesRelation, IsTupleOver}
use Rattle.td_semantics.specs.Meanings.{means, no_names, relvars_under}
use Rattle.td_semantics.specs.Trees.{AreBases, all_relvars, tree_means}

-- relvars that agree on what an expression reads give it the same meaning
abbrev pub MeaningByReads : Type 0
MeaningByReads = (x : Expression) (r s : Relvars) (t : Attrs) → IsTyped x → ((n : ℕ) → Contains (reads x) n → r n ≡ s n) → means x r t ≡ means x s t

-- a virtual relvar means its expression over the same relvars, with no tuple in scope
abbrev pub VirtualsMeanTheirExpressions : Type 0
VirtualsMeanTheirExpressions = (x : Expression) (r : Relvars) (v : VirtualUnder) → IsTyped x → Contains x.virtuals v → relvars_under x r v.place ≡ rows_in (mean (relvars_under x r) (selection x.selectors) v.tree) no_names

-- and the base relvars that an expression reads have what they have
abbrev pub BasesStay : Type 0
BasesStay = (x : Expression) (r : Relvars) (n : ℕ) → IsTyped x → Contains (reads x) n → relvars_under x r n ≡ r n

-- an expression means what its tree does where all of its catalogue is there
abbrev pub MeansItsTree : Type 0
MeansItsTree = (c : CatalogueData) (x : Expression) (r : Relvars) (t : Attrs) → Defined c → IsTree c x.attributes x.tree x.kind → HasAllUnder c x → means x r t ≡ tree_means c r x.tree t

-- and that is a value of its type, or one of the errors of the language
abbrev pub TreesHaveValues : Type 0
TreesHaveValues = (c : CatalogueData) (h : Header) (u : Typed) (k : TypeKind) (r : Relvars) (t : Attrs) → Defined c → IsTree c h u k → AreBases c r → IsTupleOver c.schema h t → GivesValue c.schema k (tree_means c r u t)

-- each relvar, virtual ones too, has a relation of its heading, or raises one of these errors
abbrev pub RelvarsHaveRelations : Type 0
RelvarsHaveRelations = (c : CatalogueData) (r : Relvars) (n : ℕ) (v : Named Header) → Defined c → AreBases c r → slice_get c.schema.relvars n ≡ Some v → GivesRelation c.schema v.value (all_relvars c r n)
