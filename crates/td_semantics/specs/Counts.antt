-- Counting.
use Rattle.std.specs.Prelude.{ℕ, ◌+◌, nat_lt, if◌then◌else◌}

-- one more, up to the greatest number of 64 bits
abbrev pub one_more : ℕ → ℕ
one_more n = if nat_lt n 18446744073709551615 then n + 1 else n
