-- The laws of gains.
use Rattle.std.specs.Prelude.{◌≡◌, ◌==◌, ℕ, Bool, true, List, Ok, length, slice_get}
use Rattle.td_values.specs.Data.{Attrs}
use Rattle.td_values.specs.Rows.{RowsData}
use Rattle.td_tuples.specs.Parts.{cut}
use Rattle.td_relations.specs.Sets.{Has}
use Rattle.td_relations.specs.Deltas.{DeltaData}
use Rattle.td_typed_trees.specs.declared.tree.Typed.{Typed}
use Rattle.td_algebra.specs.Functions.{matching_of, not_matching_of}
use Rattle.td_headings.specs.Catalogues.{CatalogueData}
use Rattle.td_headings.specs.Reached.{is_base}
use Rattle.td_headings.specs.declared.defined.Test.TheVariants as test
use Rattle.td_meaning.specs.Mean.{Relvars}
use Rattle.td_semantics.specs.Differences.{ChangesBy}
use Rattle.td_semantics.specs.Stored.{AreStored}
use Rattle.td_semantics.specs.Tests.{judgement}
use Rattle.td_incremental.specs.Growth.{AgreeBeside, AgreeOn, Gains, Grows, IsWatched, narrowed}
use Rattle.td_incremental.specs.References.{AreHeaded, GivesUp, HasRows, KeepsParts, Refers, RefersBy}
use Rattle.td_incremental.specs.Safety.{IsSafe}

-- it has no tuple
abbrev pub has_none : RowsData → Bool
has_none r = length r.tuples == 0

-- a watched constraint that was true is now what it is over what the relvar gained: true, false, or an error
abbrev pub WatchedByInserts : Type 0
WatchedByInserts =
    (c : CatalogueData) (old now : Relvars) (n : ℕ) (i : RowsData) (x : List ℕ) (u : Typed)
    → is_base (slice_get c.origins n) ≡ true → AgreeBeside c u n old now → Gains old now n i → IsWatched c n u
    → judgement c old (test.Constraint x u) ≡ Ok true → judgement c now (test.Constraint x u) ≡ judgement c (narrowed n i now) (test.Constraint x u)

-- where the relvar lost tuples and gained none it stays true
abbrev pub LossesKeepWatched : Type 0
LossesKeepWatched =
    (c : CatalogueData) (old now : Relvars) (n : ℕ) (x : List ℕ) (u : Typed)
    → is_base (slice_get c.origins n) ≡ true → AgreeBeside c u n old now → Grows now old n → IsWatched c n u
    → judgement c old (test.Constraint x u) ≡ Ok true → judgement c now (test.Constraint x u) ≡ Ok true

-- a safe constraint stays true where the relvar lost no tuple
abbrev pub GrowthKeepsSafe : Type 0
GrowthKeepsSafe =
    (c : CatalogueData) (old now : Relvars) (n : ℕ) (x : List ℕ) (u : Typed)
    → is_base (slice_get c.origins n) ≡ true → AgreeBeside c u n old now → Grows old now n → IsSafe c n u
    → judgement c old (test.Constraint x u) ≡ Ok true → judgement c now (test.Constraint x u) ≡ Ok true

-- a reference stays true where each tuple that the relvar had has one with its part at the names by which it is
-- referred to
abbrev pub KeptPartsKeepReferences : Type 0
KeptPartsKeepReferences =
    (c : CatalogueData) (old now : Relvars) (n : ℕ) (names : List (List ℕ)) (x : List ℕ) (u : Typed)
    → is_base (slice_get c.origins n) ≡ true → AgreeBeside c u n old now → AreHeaded c now → KeepsParts old now n names → Refers c n names u
    → judgement c old (test.Constraint x u) ≡ Ok true → judgement c now (test.Constraint x u) ≡ Ok true

-- a reference of one base relvar that was true is now whether none of its tuples has a part that was given up and
-- stands in no tuple now
abbrev pub LostPartsAreJudged : Type 0
LostPartsAreJudged =
    (c : CatalogueData) (old now : Relvars) (n m : ℕ) (names : List (List ℕ)) (parts r s : RowsData) (x : List ℕ) (u : Typed)
    → is_base (slice_get c.origins n) ≡ true → AgreeBeside c u n old now → AreStored c now → GivesUp old now n names parts → RefersBy c n m names u
    → now m ≡ Ok r → now n ≡ Ok s
    → judgement c old (test.Constraint x u) ≡ Ok true → judgement c now (test.Constraint x u) ≡ Ok (has_none (matching_of (not_matching_of parts s) r))

-- a reference of one base relvar is judged as it was, where the relvar to which it refers lost no tuple, and gained none
-- to which one of r refers
abbrev pub UnmatchedGainsKeepReferences : Type 0
UnmatchedGainsKeepReferences =
    (c : CatalogueData) (old now : Relvars) (n m : ℕ) (names : List (List ℕ)) (r s t : RowsData) (x : List ℕ) (u : Typed)
    → is_base (slice_get c.origins n) ≡ true → AgreeBeside c u n old now → RefersBy c n m names u
    → HasRows c now m r → HasRows c old n s → HasRows c now n t
    → ((a : Attrs) → Has s a → Has t a) → ((a b : Attrs) → Has r a → Has t b → cut names a ≡ cut names b → Has s b)
    → judgement c now (test.Constraint x u) ≡ judgement c old (test.Constraint x u)

-- relvars that agree on what it reads give a constraint one judgement
abbrev pub JudgedByReads : Type 0
JudgedByReads = (c : CatalogueData) (r s : Relvars) (x : List ℕ) (u : Typed) → AgreeOn c u r s → judgement c r (test.Constraint x u) ≡ judgement c s (test.Constraint x u)

-- a relvar that changed gained what is inserted; it lost no tuple where none is deleted, and the other way round
pub record DifferencesAreGains : Type 0 where
  pub gains : (old now : Relvars) (n : ℕ) (d : DeltaData) → ChangesBy old now n d → Gains old now n d.inserted
  pub grows : (old now : Relvars) (n : ℕ) (d : DeltaData) → ChangesBy old now n d → ((t : Attrs) → Has d.deleted t → ⊥) → Grows old now n
  pub shrinks : (old now : Relvars) (n : ℕ) (d : DeltaData) → ChangesBy old now n d → ((t : Attrs) → Has d.inserted t → ⊥) → Grows now old n

-- where the relvars have their headings they have them with what one gained alone, too
abbrev pub NarrowedIsStored : Type 0
NarrowedIsStored = (c : CatalogueData) (old now : Relvars) (n : ℕ) (i : RowsData) → AreStored c now → Gains old now n i → AreStored c (narrowed n i now)
