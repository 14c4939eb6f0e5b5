-- A typed expression with all that evaluating it wants.
use Rattle.std.specs.Prelude.{◌≡◌, ℕ, List, map, Option, Some, None, slice_get}
use Rattle.std.specs.FinMap as by_name
use Rattle.std.specs.List.{filter_map}
use Rattle.td_values.specs.Headings.{Header}
use Rattle.td_values.specs.declared.TypeKind.{TypeKind}
use Rattle.td_values.specs.declared.TypeKind.TheVariants as kind
use Rattle.td_syntax.specs.declared.tree.Expr.{Expr}
use Rattle.td_syntax.specs.declared.tree.Named.{Named}
use Rattle.td_schema.specs.Scopes.{within_tuple, relvars_of}
use Rattle.td_schema.specs.Written.{names}
use Rattle.td_schema.specs.declared.schema.Representation.{Representation}
use Rattle.td_typing.specs.Types.{Types}
use Rattle.td_typed_trees.specs.declared.tree.Typed.{Typed}
use Rattle.td_headings.specs.Catalogues.{CatalogueData}
use Rattle.td_headings.specs.Definitions.{Defined}
use Rattle.td_headings.specs.Reached.{IsReached, IsSelected, AreThose}
use Rattle.td_headings.specs.declared.defined.Origin.{Origin}
use Rattle.td_headings.specs.declared.defined.Origin.TheVariants as origin
use Rattle.td_headings.specs.declared.defined.Test.{Test}
use Rattle.td_headings.specs.declared.defined.Test.TheVariants as test
use Rattle.td_typed_trees.specs.declared.expression.BaseUnder.{BaseUnder}
use Rattle.td_typed_trees.specs.declared.expression.Expression.{Expression}
use Rattle.td_typed_trees.specs.declared.expression.VirtualUnder.{VirtualUnder}
use Rattle.td_typed_trees.specs.declared.expression.Selector.{Selector}

-- the base relvar at a place, with its heading
abbrev pub base_of : ℕ → Option Origin → Option (Named Header) → Option BaseUnder
base_of n (Some (origin.Base ks u)) (Some r) = Some (record { place = n; heading = r.value })
base_of n _ _ = None

abbrev pub base_at : CatalogueData → ℕ → Option BaseUnder
base_at c n = base_of n (slice_get c.origins n) (slice_get c.schema.relvars n)

-- the virtual relvar at a place, with its expression
abbrev pub virtual_of : ℕ → Option Origin → Option VirtualUnder
virtual_of n (Some (origin.Virtual u)) = Some (record { place = n; tree = u })
virtual_of n _ = None

abbrev pub virtual_at : CatalogueData → ℕ → Option VirtualUnder
virtual_at c n = virtual_of n (slice_get c.origins n)

-- the possrep at a place, with the names of its components and its CONSTRAINT
abbrev pub selector_of : ℕ → Option Representation → Option (Option Typed) → Option Selector
selector_of n (Some r) (Some u) = Some (record { place = n; possrep = r.possrep; components = names r.components; limit = u })
selector_of n _ _ = None

abbrev pub selector_at : CatalogueData → ℕ → Option Selector
selector_at c n = selector_of n (slice_get c.schema.possreps n) (slice_get c.limits n)

-- what stands beside the tree of x is all that is under it, each once
pub record HasAllUnder (c : CatalogueData) (x : Expression) : Type 0 where
  pub relvars : List ℕ
  pub reached : AreThose (IsReached c.origins x.tree) relvars
  pub bases : x.bases ≡ filter_map (base_at c) relvars
  pub virtuals : x.virtuals ≡ filter_map (virtual_at c) relvars
  pub possreps : List ℕ
  pub selected : AreThose (IsSelected c.origins c.limits x.tree relvars) possreps
  pub selectors : x.selectors ≡ filter_map (selector_at c) possreps

-- the tree is that of some expression of this kind, within a tuple of the heading
pub record IsTree (c : CatalogueData) (h : Header) (u : Typed) (k : TypeKind) : Type 0 where
  pub expr : Expr
  pub types : Types c.schema (within_tuple h (relvars_of c.schema)) expr u k

-- x is the expression e within a tuple of the heading, with all that is under it
pub record IsExpression (c : CatalogueData) (h : Header) (e : Expr) (x : Expression) : Type 0 where
  pub types : Types c.schema (within_tuple h (relvars_of c.schema)) e x.tree x.kind
  pub attributes : x.attributes ≡ h
  pub under : HasAllUnder c x

-- no tuple is in scope
abbrev pub no_tuple : Header
no_tuple = by_name.empty

-- x is the tree, in which no tuple is in scope, with all that is under it
pub record IsClosedExpression (c : CatalogueData) (u : Typed) (k : TypeKind) (x : Expression) : Type 0 where
  pub tree : x.tree ≡ u
  pub kind_ : x.kind ≡ k
  pub attributes : x.attributes ≡ no_tuple
  pub under : HasAllUnder c x

-- x is an expression of some catalogue, with all that is under it
pub record IsTyped (x : Expression) : Type 0 where
  pub catalogue : CatalogueData
  pub defined : Defined catalogue
  pub tree : IsTree catalogue x.attributes x.tree x.kind
  pub under : HasAllUnder catalogue x

-- the tree of a constraint
abbrev pub constraint_of : Option Test → Option Typed
constraint_of (Some (test.Constraint n u)) = Some u
constraint_of _ = None

abbrev pub constraint_at : CatalogueData → ℕ → Option Typed
constraint_at c n = constraint_of (slice_get c.tests n)

-- the tree of what a base relvar holds at first, and its heading
abbrev pub init_of : Option Origin → Option (Named Header) → Option (Typed × Header)
init_of (Some (origin.Base ks (Some u))) (Some r) = Some (u, r.value)
init_of _ _ = None

abbrev pub init_at : CatalogueData → ℕ → Option (Typed × Header)
init_at c n = init_of (slice_get c.origins n) (slice_get c.schema.relvars n)

-- x is that tree, a truth value, with all that is under it
abbrev pub IsConstraint : CatalogueData → Option Typed → Expression → Type 0
IsConstraint c None x = ⊥
IsConstraint c (Some u) x = IsClosedExpression c u kind.Boolean x

-- x is that tree, of that heading, with all that is under it
abbrev pub IsInit : CatalogueData → Option (Typed × Header) → Expression → Type 0
IsInit c None x = ⊥
IsInit c (Some v) x = IsClosedExpression c v.0 (kind.Relation v.1) x

-- the places of the base relvars that an expression reads
abbrev pub places_of : List BaseUnder → List ℕ
places_of bs = map (λ (b : BaseUnder). b.place) bs

abbrev pub reads : Expression → List ℕ
reads x = places_of x.bases
