use Rattle.std.proofs.Common.{◌≡◌, ℕ, List, take, ◌++◌}
use Rattle.std.specs.FinMap as by_name
use Rattle.td_values.specs.Data.{Datum}
use Rattle.td_tuples.proofs.tuples.add_attributes.Given as goal

abbrev pub invariant-loop-name : goal.invariant-loop-name
invariant-loop-name l = (es : List (List ℕ × Datum)) → l.initial.builder ≡ by_name.from_entries es → l.builder ≡ by_name.from_entries (es ++ take l.name-index l.attributes)
