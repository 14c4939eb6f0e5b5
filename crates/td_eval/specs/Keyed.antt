-- A base relvar's tuples by a key.
use Rattle.std.specs.Prelude.{◌≡◌, ℕ, true, List, Option, None, Some, Result, Ok, Err}
use Rattle.std.specs.List.{All, Contains}
use Rattle.td_values.specs.Data.{Attrs}
use Rattle.td_values.specs.Rows.{RowsData}
use Rattle.td_relations.specs.Sets.{IsRelationOf}
use Rattle.td_tuples.specs.Parts.{Fits}
use Rattle.td_algebra.specs.declared.errors.Fault.{Fault}
use Rattle.td_algebra.specs.declared.errors.Fault.TheVariants.{Raised, OutOfMemory, Wanting}
use Rattle.td_algebra.specs.declared.errors.Stop.{Stop}
use Rattle.td_algebra.specs.KeyIndexes.{KeyIndexData, IsKeyIndex, has_named, key_names, tuple_names}

-- x has the tuples of this relvar, which has a relation, by the key of these names
abbrev pub IsByKey : Result RowsData Stop → List (List ℕ) → KeyIndexData → Type 0
IsByKey m key x = (r : RowsData) × (m ≡ Ok r) × IsKeyIndex key r x

-- each of these has its tuples, by a key
abbrev pub AreByKeys : Result RowsData Stop → List KeyIndexData → Type 0
AreByKeys m xs = All (λ (x : KeyIndexData). IsByKey m x.key x) xs

-- s has the tuples of r, which fit its heading, with t's values of the key of these names, which are t's names
pub record HasThoseOf (key : List (List ℕ)) (r : RowsData) (t : Attrs) (s : RowsData) : Type 0 where
  pub fit : All (Fits r.heading) r.tuples
  pub names : tuple_names t ≡ key_names r.heading key
  pub tuples : IsRelationOf r.heading (λ u. Contains r.tuples u × (has_named key t u ≡ true)) s

-- what is found by a key: nothing where t's names are not those of the key
abbrev pub IsFound : List (List ℕ) → RowsData → Attrs → Option RowsData → Type 0
IsFound key r t None = tuple_names t ≡ key_names r.heading key → ⊥
IsFound key r t (Some s) = HasThoseOf key r t s

-- what is found of a relvar that has a relation, by its first key if it has one
abbrev pub TellsFound : Result RowsData Stop → Option (List (List ℕ)) → Attrs → Option RowsData → Type 0
TellsFound (Ok r) (Some key) t o = IsFound key r t o
TellsFound (Ok r) None t o = o ≡ None
TellsFound (Err e) key t o = ⊥

-- that, or the error of a relvar that has no relation
abbrev pub TellsKeyed : {W : Type 0} → Result RowsData Stop → Option (List (List ℕ)) → Attrs → Result (Option RowsData) (Fault W) → Type 0
TellsKeyed m key t (Ok o) = TellsFound m key t o
TellsKeyed m key t (Err (Raised e)) = m ≡ Err e
TellsKeyed m key t (Err OutOfMemory) = Unit {0}
TellsKeyed m key t (Err (Wanting w)) = Unit {0}
