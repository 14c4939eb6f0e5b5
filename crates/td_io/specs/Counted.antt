-- A device, and how it counts its failures.
use Rattle.std.specs.Prelude.{◌≡◌, ℕ, Bool, ◌+◌, ◌-◌, ◌^◌, min, Result, MatchResult}

-- a device is seen as what it wraps, how many failures it has counted, and whether all that was written has been
-- handed on
pub record DeviceData (D : Type 0) : Type 0 where
  pub inner : D
  pub failures : ℕ
  pub is_flushed : Bool

-- the last value of the count, at which it stays
abbrev pub last_count : ℕ
last_count = 2 ^ 64 - 1

-- the count after one failure more
abbrev pub counted : ℕ → ℕ
counted n = min (n + 1) last_count

-- of one call: the count stays at Ok, and at Err one failure more is counted
abbrev pub Counts : {T E : Type 0} → ℕ → ℕ → Result T E → Type 0
Counts old new r = MatchResult r (λ _. new ≡ old) (λ _. new ≡ counted old)
