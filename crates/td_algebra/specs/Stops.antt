-- Why there is no value, and the order of these reasons.
use Rattle.std.specs.Prelude.{ℕ, nat_le, if◌then◌else◌}
use Rattle.td_values.specs.Raises.{raise_number}
use Rattle.td_algebra.specs.declared.errors.Stop.{Stop}
use Rattle.td_algebra.specs.declared.errors.Stop.TheVariants.{Untyped, Error}

-- a stop's number: an error's, or 0 where there is no meaning
abbrev pub stop_number : Stop → ℕ
stop_number Untyped = 0
stop_number (Error e) = raise_number e

-- the one of the lesser number
abbrev pub lesser : Stop → Stop → Stop
lesser e f = if nat_le (stop_number e) (stop_number f) then e else f
