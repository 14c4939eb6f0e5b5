-- Conditions that begin with the values of a key.
use Rattle.std.specs.Prelude.{◌≡◌, ℕ, Bool, true, false, length, slice_get, List, map, Option, Some, Result, Ok}
use Rattle.std.specs.List.{All}
use Rattle.std.specs.Option.{option_map}
use Rattle.td_values.specs.Attributes.{attribute_of}
use Rattle.td_values.specs.Data.{Datum, Attrs}
use Rattle.td_values.specs.Headings.{Header}
use Rattle.td_values.specs.Rows.{RowsData}
use Rattle.td_tuples.specs.Parts.{Fits, attributes}
use Rattle.td_algebra.specs.declared.errors.Stop.{Stop}
use Rattle.td_algebra.specs.Functions.{restricted}
use Rattle.td_meaning.specs.declared.conditions.Check.{Check}
use Rattle.td_meaning.specs.ForProofs.Checks.{all_hold, check_holds}
use Rattle.td_meaning.specs.ForProofs.Over.{Means}
use Rattle.td_meaning.specs.Mean.{Names}

abbrev pub placed : Attrs → ℕ → Option Datum
placed t p = option_map (λ a. a.1) (slice_get (attributes t) p)

-- of tuples with so many attributes the check says whether the value at the place is this one, and raises nothing
abbrev pub Equals : Check → ℕ → ℕ → Datum → Type 0
Equals c width p d = (t : Attrs) → length (attributes t) ≡ width → (b : Bool) × (b ≡ true → placed t p ≡ Some d) × ((m : Means) (names : Names) → check_holds m names t c ≡ Ok b)

-- the condition is false of tuples with another value
abbrev pub FailsBut : List Check → Attrs → Option Datum → Datum → Type 0
FailsBut cs t v d = (v ≡ Some d → ⊥) → (m : Means) (names : Names) → all_hold m names t cs ≡ Ok false

-- at the place
abbrev pub PinsAt : List Check → ℕ → ℕ → Datum → Type 0
PinsAt cs width p d = (t : Attrs) → length (attributes t) ≡ width → FailsBut cs t (placed t p) d

-- at the name
abbrev pub Pins : Header → List Check → List ℕ × Datum → Type 0
Pins h cs f = (t : Attrs) → Fits h t → FailsBut cs t (attribute_of f.0 t) f.1

-- these are the key's names with such values
pub record ArePinned (h : Header) (cs : List Check) (key : List (List ℕ)) (fs : List (List ℕ × Datum)) : Type 0 where
  pub names : map (λ f. f.0) fs ≡ key
  pub pins : All (Pins h cs) fs

-- s has each tuple of r at which the condition is not simply false
pub record Narrows (r : RowsData) (cs : List Check) (s : RowsData) : Type 0 where
  pub heading : s.heading ≡ r.heading
  pub same : (m : Means) (names : Names) (q : Attrs → Result Bool Stop) → ((t : Attrs) → Fits r.heading t → q t ≡ all_hold m names t cs) → restricted q s ≡ restricted q r
