-- What is known of one test of relvars that were changed.
use Rattle.std.specs.Prelude.{◌≡◌, ◌==◌, ℕ, Bool, true, if◌then◌else◌, List, [], ◌∷◌, Option, None, Some, Ok}
use Rattle.std.specs.List.{Contains, list_any}
use Rattle.td_values.specs.Data.{no_attrs}
use Rattle.td_values.specs.Rows.{RowsData}
use Rattle.td_relations.specs.Deltas.{DeltaData}
use Rattle.td_typed_trees.specs.declared.expression.Expression.{Expression}
use Rattle.td_algebra.specs.Raising.{and_then}
use Rattle.td_operators.specs.Values.{truth_of}
use Rattle.td_headings.specs.Catalogues.{CatalogueData}
use Rattle.td_headings.specs.Expressions.{constraint_at, reads}
use Rattle.td_headings.specs.Reached.{ReadsRelvar}
use Rattle.td_typed_trees.specs.declared.tree.Typed.{Typed}
use Rattle.td_meaning.specs.Mean.{Relvars}
use Rattle.td_semantics.specs.Differences.{LeadOver}
use Rattle.td_semantics.specs.Tests.{is_key}
use Rattle.td_semantics.specs.Trees.{tree_means}

abbrev pub Changes : Type 0
Changes = List (ℕ × DeltaData)

-- the relvar is among those that were changed
abbrev pub IsChanged : Changes → ℕ → Type 0
IsChanged changes n = (d : DeltaData) × Contains changes (n, d)

abbrev pub is_changed : Changes → ℕ → Bool
is_changed changes n = list_any (λ (p : ℕ × DeltaData). p.0 == n) changes

-- its change, if it was changed
abbrev pub change_to : Changes → ℕ → Option DeltaData
change_to [] n = None
change_to (p ∷ ps) n = if p.0 == n then Some p.1 else change_to ps n

-- the expression reads nothing that was changed
abbrev pub IsUntouched : Changes → Expression → Type 0
IsUntouched changes x = (n : ℕ) → Contains (reads x) n → IsChanged changes n → ⊥

-- the constraint at the place, if one stands there, reads nothing that was changed
abbrev pub ReadsNone : CatalogueData → Changes → ℕ → Type 0
ReadsNone c changes place = (u : Typed) → constraint_at c place ≡ Some u → (n : ℕ) → ReadsRelvar c.origins u n → IsChanged changes n → ⊥

-- the test of the key was true of the relvar before
pub record KeyBefore (now : Relvars) (changes : Changes) (n : ℕ) (key : List (List ℕ)) : Type 0 where
  pub before : Relvars
  pub held : and_then (before n) (λ r. Ok (is_key key r.tuples)) ≡ Ok true
  pub lead : LeadOver before now changes

-- the test of the key was true before of the relvar that has this relation now
pub record KeyOf (changes : Changes) (n : ℕ) (key : List (List ℕ)) (r : RowsData) : Type 0 where
  pub now : Relvars
  pub is : now n ≡ Ok r
  pub known : KeyBefore now changes n key

-- the constraint was true before
pub record ConstraintBefore (c : CatalogueData) (now : Relvars) (changes : Changes) (x : Expression) : Type 0 where
  pub before : Relvars
  pub held : and_then (tree_means c before x.tree no_attrs) truth_of ≡ Ok true
  pub lead : LeadOver before now changes
