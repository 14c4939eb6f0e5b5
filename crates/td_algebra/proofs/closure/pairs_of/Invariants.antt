use Rattle.std.proofs.Common.{◌≡◌, length, false}
use Rattle.std.specs.Prelude.{replicate}
use Rattle.td_algebra.specs.ForProofs.Ends.{ArePairs}
use Rattle.td_algebra.proofs.closure.pairs_of.Given as goal

abbrev pub invariant-loop-from : goal.invariant-loop-from
invariant-loop-from l = record {
  pairs : ArePairs l.first l.second l.ends l.links l.from l.pairs.items;
  unmarked : l.marks.items ≡ replicate (length l.links) false;
}
