-- Which integers are written as numbers.
use Rattle.std.specs.Prelude.{◌^◌, ℤ, pos, negsuc, ◌-◌, ◌≤ℤ◌}

-- a program that reads numbers as doubles tells it from all others
abbrev pub IsExact : ℤ → Type 0
IsExact n = (negsuc (2 ^ 53 - 1) ≤ℤ n) × (n ≤ℤ pos (2 ^ 53))
