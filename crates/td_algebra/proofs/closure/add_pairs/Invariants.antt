use Rattle.std.proofs.Common.{◌≡◌, ◌++◌, take}
use Rattle.std.specs.List.{flat_map}
use Rattle.td_algebra.specs.ForProofs.Ends.{pair_at}
use Rattle.td_algebra.proofs.closure.add_pairs.Given as goal

abbrev pub invariant-loop-place : goal.invariant-loop-place
invariant-loop-place l = l.out.items ≡ l.initial.out.items ++ flat_map (pair_at l.first l.second l.ends l.from) (take l.place-index l.places)
