-- The places that a statement names, while they are gathered.
use Rattle.std.specs.Prelude.{◌≡◌, ◌↔◌, ◌++◌, ℕ, List, [], Option, None, Some}
use Rattle.std.specs.List.{Contains}
use Rattle.td_headings.specs.Catalogues.{CatalogueData}
use Rattle.td_headings.specs.Expressions.{constraint_at, reads}
use Rattle.td_headings.specs.Reached.{AreThose, ReadsRelvar}
use Rattle.td_headings.specs.declared.defined.Test.{Test}
use Rattle.td_typed_trees.specs.declared.expression.Expression.{Expression}
use Rattle.td_typed_trees.specs.declared.tree.Typed.{Typed}
use Rattle.td_semantics.specs.Footprints.{IsInFootprint, IsTargetOfText, TestReads}
use Rattle.td_assign.specs.declared.names.NamedRelvars.{NamedRelvars}

-- the test reads one of the targets, and this place
abbrev pub ReadsWith : CatalogueData → List ℕ → Test → ℕ → Type 0
ReadsWith c targets t n = (m : ℕ) × TestReads c t m × Contains targets m × TestReads c t n

-- the constraint at the place, if one stands there, reads none of the targets
abbrev pub ReadsNoTarget : CatalogueData → List ℕ → ℕ → Type 0
ReadsNoTarget c targets place = (u : Typed) → constraint_at c place ≡ Some u → (n : ℕ) → Contains targets n → ReadsRelvar c.origins u n → ⊥

-- behind the old places stand those with the property
abbrev pub HasMore : (ℕ → Type 0) → List ℕ → List ℕ → Type 0
HasMore P old new = (more : List ℕ) × (new ≡ old ++ more) × ((n : ℕ) → Contains more n ↔ P n)

-- what a condition reads, if there is one
abbrev pub condition_reads : Option Expression → List ℕ
condition_reads None = []
condition_reads (Some u) = reads u

-- the places are those of each of these
abbrev pub Gathers : {A : Type 0} → (A → ℕ → Type 0) → List A → List ℕ → Type 0
Gathers {A} P xs places = (n : ℕ) → Contains places n ↔ ((x : A) × Contains xs x × P x n)

-- the names are those of the text
pub record AreNames (c : CatalogueData) (dialect : ℕ) (text : List ℕ) (x : NamedRelvars) : Type 0 where
  pub targets : AreThose (IsTargetOfText c dialect text) x.targets.items
  pub footprint : AreThose (IsInFootprint c dialect text) x.footprint.items
