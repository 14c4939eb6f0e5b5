-- Dependencies that are gathered, constraint by constraint.
use Rattle.std.specs.Prelude.{◌≡◌, ℕ, List, Some, slice_get, true}
use Rattle.std.specs.List.{Contains}
use Rattle.td_headings.specs.Catalogues.{CatalogueData}
use Rattle.td_headings.specs.declared.defined.Test.{Test}
use Rattle.td_headings.specs.declared.defined.Test.TheVariants as test
use Rattle.td_typed_trees.specs.declared.tree.Typed.{Typed}
use Rattle.td_incremental.specs.declared.references.Reference.{Reference}
use Rattle.td_accesses.specs.Dependencies.{DependsOn, TellsDependencies}
use Rattle.td_accesses.specs.declared.dependencies.RelvarDependencies.{RelvarDependencies}

-- y has the dependencies of x, and is not suited where x is not
pub record IsGrown (x y : RelvarDependencies) : Type 0 where
  pub suited : y.is_suited ≡ true → x.is_suited ≡ true
  pub references : (r : Reference) → Contains x.references.items r → Contains y.references.items r
  pub bound : (n : ℕ) → Contains x.bound.items n → Contains y.bound.items n

-- so is it at each place
pub record AreAllGrown (xs ys : List RelvarDependencies) : Type 0 where
  pub from : (m : ℕ) (y : RelvarDependencies) → slice_get ys m ≡ Some y → (x : RelvarDependencies) × (slice_get xs m ≡ Some x) × IsGrown x y

-- by u the relvar at m depends on the one at n as is told, if that is another one
pub record DependsOnOther (c : CatalogueData) (m : ℕ) (u : Typed) (x : RelvarDependencies) (n : ℕ) : Type 0 where
  pub depends : (m ≡ n → ⊥) → DependsOn c m n u x

-- the dependencies of the relvar at m go by u
pub record TellsAll (c : CatalogueData) (u : Typed) (xs : List RelvarDependencies) (m : ℕ) : Type 0 where
  pub tells : (x : RelvarDependencies) → slice_get xs m ≡ Some x → TellsDependencies c m u x

-- the dependencies of each relvar go by the test, if that is a constraint
pub record TellsTest (c : CatalogueData) (xs : List RelvarDependencies) (t : Test) : Type 0 where
  pub tells : (y : List ℕ) (u : Typed) → t ≡ test.Constraint y u → (m : ℕ) → TellsAll c u xs m
