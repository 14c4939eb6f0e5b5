use Rattle.std.proofs.Common.{◌≡◌, ◌++◌, take}
use Rattle.td_stamps.proofs.merge.push_copies.Given as goal

abbrev pub invariant-loop-entry : goal.invariant-loop-entry
invariant-loop-entry l = l.to.items ≡ l.fn.to.items ++ take l.entry-index l.entries
