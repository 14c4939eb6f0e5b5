use Rattle.std.proofs.Common.{◌≡◌}
use Rattle.std.specs.FinMap as by_name
use Rattle.td_tuples.proofs.tuples.tuple_of.Given as goal

abbrev pub invariant-loop-name : goal.invariant-loop-name
invariant-loop-name l = l.builder ≡ by_name.from_entries l.yielded
