-- What is asked of a machine's steps. A step leads from a state to a state and leaves a record of what it did.
use Rattle.std.specs.Prelude.{◌≡◌, ◌↔◌, ℕ, List}
use Rattle.std.specs.List.{Contains}
use Rattle.td_stamps.specs.declared.entry.Entry.{Entry}
use Rattle.td_stamps.specs.declared.entry.Stamp.{Stamp}
use Rattle.td_stamps.specs.History.{History}
use Rattle.td_rollback.specs.Touched.{IsTargetOf}

-- the state is sound, and began with o
abbrev pub SoundFrom : {S : Type 0} → (S → Type 0) → (S → S) → S → S → Type 0
SoundFrom Sound origin o s = Sound s × (origin s ≡ o)

-- a sound state of the same origin as the other one, from which the entries lead there, with these records
pub record Begins {S R : Type 0} (Sound : S → Type 0) (origin : S → S) (Step : S → Entry → R → S → Type 0) (o : S) (es : List Entry) (log : List (Stamp × R)) (s : S) : Type 0 where
  pub sound : Sound o
  pub origin_is : origin o ≡ origin s
  pub history : History Step o es log s

-- the states are alike at each place that is no target of these entries
abbrev pub AreAlikeBut : {S : Type 0} → (S → S → ℕ → Type 0) → (Entry → ℕ → Type 0) → List Entry → S → S → Type 0
AreAlikeBut Alike Target es s t = (n : ℕ) → (IsTargetOf Target es n → ⊥) → Alike s t n

-- Entries depend on what they may change. Sound states stay sound. A step changes its targets alone, and goes by its
-- footprint: from states that are alike there it has one record. Two steps of one record keep states alike where they
-- are alike. Records name footprint and targets.
pub record GoByRecords {S R : Type 0} (Sound : S → Type 0) (Step : S → Entry → R → S → Type 0) (Alike : S → S → ℕ → Type 0) (Footprint Target : Entry → ℕ → Type 0) (footprint_in targets_in : R → List ℕ) : Type 0 where
  pub hang_on_targets : (e : Entry) (n : ℕ) → Target e n → Footprint e n
  pub stay_sound : (s t : S) (e : Entry) (r : R) → Sound s → Step s e r t → Sound t
  pub change_targets : (s t : S) (e : Entry) (r : R) (n : ℕ) → Sound s → Step s e r t → (Target e n → ⊥) → Alike s t n
  pub by_footprint : (s t u : S) (e : Entry) (r : R) → Sound s → Sound u → ((n : ℕ) → Footprint e n → Alike s u n) → Step s e r t → (v : S) × Step u e r v
  pub go_alike : (s t u v : S) (e : Entry) (r : R) (n : ℕ) → Sound s → Sound u → Step s e r t → Step u e r v → Alike s u n → Alike t v n
  pub name_footprint : (s t : S) (e : Entry) (r : R) → Sound s → Step s e r t → (n : ℕ) → Contains (footprint_in r) n ↔ Footprint e n
  pub name_targets : (s t : S) (e : Entry) (r : R) → Sound s → Step s e r t → (n : ℕ) → Contains (targets_in r) n ↔ Target e n
  pub alike_self : (s : S) (n : ℕ) → Alike s s n
  pub alike_back : (s t : S) (n : ℕ) → Alike s t n → Alike t s n
  pub alike_through : (s t u : S) (n : ℕ) → Alike s t n → Alike t u n → Alike s u n
