-- The errors that expressions raise, and their order.
use Rattle.std.specs.Prelude.{ℕ, nat_le, if◌then◌else◌}
use Rattle.td_values.specs.declared.raises.Raise.{Raise}
use Rattle.td_values.specs.declared.raises.Raise.TheVariants.{Overflow, Divide, Empty, Selector, Cardinality}

-- an error's number
abbrev pub raise_number : Raise → ℕ
raise_number Overflow = 1
raise_number Divide = 2
raise_number Empty = 3
raise_number Selector = 4
raise_number Cardinality = 5

-- the one of the lesser number
abbrev pub lesser_raise : Raise → Raise → Raise
lesser_raise e f = if nat_le (raise_number e) (raise_number f) then e else f
