use Rattle.std.proofs.Common.{All, take}
use Rattle.std.specs.List.{Contains}
use Rattle.td_accesses.specs.ForProofs.Growing.{AreIn}
use Rattle.td_accesses.proofs.places.add_places.Given as goal

abbrev pub invariant-loop-place : goal.invariant-loop-place
invariant-loop-place l = record {
  kept : AreIn l.initial.all.items l.all.items;
  added : All (Contains l.all.items) (take l.place-index l.places);
}
