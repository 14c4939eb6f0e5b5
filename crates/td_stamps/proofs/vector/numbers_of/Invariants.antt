use Rattle.std.proofs.Common.{◌≤◌, take, length}
use Rattle.td_stamps.specs.ForProofs.{AreNumbers}
use Rattle.td_stamps.proofs.vector.numbers_of.Given as goal

abbrev pub invariant-loop-entry : goal.invariant-loop-entry
invariant-loop-entry l = record {
  numbers : AreNumbers (take l.entry-index l.entries) l.numbers.items;
  few : length l.numbers.items ≤ 65536;
}
