use Rattle.std.proofs.Common.{◌≡◌, take}
use Rattle.td_stamps.specs.Vectors.{after_vector}
use Rattle.td_stamps.proofs.vector.Vector.lacking.Given as goal

abbrev pub invariant-loop-entry : goal.invariant-loop-entry
invariant-loop-entry l = l.after.items ≡ after_vector l.self (take l.entry-index l.entries)
