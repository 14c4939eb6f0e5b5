use Rattle.std.proofs.Common.{◌≡◌, ℕ, List, take, ◌++◌}
use Rattle.std.specs.FinMap as by_name
use Rattle.td_values.specs.Data.{Ty}
use Rattle.td_tuples.proofs.headings.add_columns.Given as goal

abbrev pub invariant-loop-name : goal.invariant-loop-name
invariant-loop-name l = (es : List (List ℕ × Ty)) → l.initial.heading ≡ by_name.from_entries es → l.heading ≡ by_name.from_entries (es ++ take l.name-index l.columns)
