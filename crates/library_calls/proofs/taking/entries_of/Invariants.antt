use Rattle.std.proofs.Common.{◌≡◌, length}
use Rattle.library_calls.proofs.taking.entries_of.Given as goal

abbrev pub invariant-loop-before : goal.invariant-loop-before
invariant-loop-before l = length l.entries.items ≡ l.before
