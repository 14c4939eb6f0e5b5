-- What a statement gives to its targets.
use Rattle.std.specs.Prelude.{ℕ, zero, suc, ◌==◌, if◌then◌else◌, [], ◌∷◌, Option, None, Some, Result, Ok}
use Rattle.td_values.specs.Rows.{RowsData}
use Rattle.td_algebra.specs.declared.errors.Stop.{Stop}
use Rattle.td_meaning.specs.Mean.{Relvars}
use Rattle.td_semantics.specs.Databases.{Stored}

-- the relation that each relvar is given, if any, by its place
abbrev pub Given : Type 0
Given = ℕ → Option RowsData

abbrev pub nothing_given : Given
nothing_given n = None

-- a later assignment to a target replaces what an earlier one gave it
abbrev pub gives : ℕ → RowsData → Given → Given
gives n r g m = if n == m then Some r else g m

abbrev pub or_old : Option RowsData → Result RowsData Stop → Result RowsData Stop
or_old None old = old
or_old (Some r) old = Ok r

-- what a source sees: the old relvars, but its own target with what an earlier assignment gave it
abbrev pub seen : Given → ℕ → Relvars → Relvars
seen g target relvars n = if target == n then or_old (g n) (relvars n) else relvars n

-- the relvars with all targets replaced
abbrev pub replaced : Given → Relvars → Relvars
replaced g relvars n = or_old (g n) (relvars n)

abbrev pub or_stored : Option RowsData → Option RowsData → Option RowsData
or_stored None old = old
or_stored (Some r) old = Some r

-- what is stored, with all targets replaced, place by place
abbrev pub with_given : Given → Stored → Stored
with_given g [] = []
with_given g (x ∷ xs) = or_stored (g zero) x ∷ with_given (λ n. g (suc n)) xs
