-- What may be taken back and made again, and what is there where memory was wanting.
use Rattle.std.specs.Prelude.{◌≡◌, ◌⊎◌, ℕ, List}
use Rattle.std.specs.List.{AllPairs, Contains}
use Rattle.td_relations.specs.Deltas.{DeltaData}
use Rattle.td_semantics.specs.Databases.{DatabaseData, Stored, stored_relvars}
use Rattle.td_relvars.specs.Changed.{CanChange, inverses}

-- no relvar is changed twice
abbrev pub AreOnce : List (ℕ × DeltaData) → Type 0
AreOnce ds = AllPairs (λ (p q : ℕ × DeltaData). p.0 ≡ q.0 → ⊥) ds

-- each change can be made
abbrev pub CanRedo : DatabaseData → List (ℕ × DeltaData) → Type 0
CanRedo d ds = (p : ℕ × DeltaData) → Contains ds p → CanChange d p.0 p.1

-- each can be taken back
abbrev pub CanUndo : DatabaseData → List (ℕ × DeltaData) → Type 0
CanUndo d ds = CanRedo d (inverses ds)

-- each relvar has what it had before, or what it is to have after
abbrev pub HasEither : Stored → Stored → Stored → ℕ → Type 0
HasEither before after stored n =
    (stored_relvars stored n ≡ stored_relvars before n) ⊎ (stored_relvars stored n ≡ stored_relvars after n)

pub record IsBetween (before : DatabaseData) (after : Stored) (d : DatabaseData) : Type 0 where
  pub catalogue : d.catalogue ≡ before.catalogue
  pub each : (n : ℕ) → HasEither before.stored after d.stored n
