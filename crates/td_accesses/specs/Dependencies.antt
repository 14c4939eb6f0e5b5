-- What is kept of a catalogue: by which other relvars its constraints judge what is inserted into a relvar.
use Rattle.std.specs.Prelude.{◌≡◌, ◌⊎◌, ℕ, List, Some, slice_get, true}
use Rattle.std.specs.List.{Contains}
use Rattle.td_headings.specs.Catalogues.{CatalogueData}
use Rattle.td_headings.specs.declared.defined.Test.TheVariants as test
use Rattle.td_typed_trees.specs.declared.tree.Typed.{Typed}
use Rattle.td_incremental.specs.Growth.{IsUnread, IsWatched}
use Rattle.td_incremental.specs.References.{RefersBy}
use Rattle.td_incremental.specs.Safety.{IsSafe}
use Rattle.td_incremental.specs.declared.references.Reference.{Reference}
use Rattle.td_accesses.specs.declared.dependencies.RelvarDependencies.{RelvarDependencies}

-- r tells that by u the relvar at m refers to the one at n
pub record IsReference (c : CatalogueData) (m n : ℕ) (u : Typed) (r : Reference) : Type 0 where
  pub relvar : r.relvar ≡ n
  pub refers : RefersBy c n m r.names.items u

-- n is among the bound ones, or u is one of the references to it
abbrev pub DependsOn : CatalogueData → ℕ → ℕ → Typed → RelvarDependencies → Type 0
DependsOn c m n u x = Contains x.bound.items n ⊎ ((r : Reference) × Contains x.references.items r × IsReference c m n u r)

-- u does not judge what is inserted into the relvar at m by the one at n, or that is told
abbrev pub TellsDependency : CatalogueData → ℕ → ℕ → Typed → RelvarDependencies → Type 0
TellsDependency c m n u x = IsUnread c n u ⊎ (IsSafe c m u ⊎ (IsWatched c m u × DependsOn c m n u x))

-- where the relvar at m is told to be suited, u judges what is inserted by that alone or is not broken by it, and on
-- which others it depends by u is told
pub record TellsDependencies (c : CatalogueData) (m : ℕ) (u : Typed) (x : RelvarDependencies) : Type 0 where
  pub judges : x.is_suited ≡ true → IsWatched c m u ⊎ IsSafe c m u
  pub told : x.is_suited ≡ true → (n : ℕ) → (m ≡ n → ⊥) → TellsDependency c m n u x

-- these are the dependencies of the relvars of a catalogue
abbrev pub AreDependencies : CatalogueData → List RelvarDependencies → Type 0
AreDependencies c xs = (m : ℕ) (x : RelvarDependencies) → slice_get xs m ≡ Some x → (y : List ℕ) (u : Typed) → Contains c.tests (test.Constraint y u) → TellsDependencies c m u x
