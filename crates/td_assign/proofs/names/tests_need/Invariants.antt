use Rattle.std.proofs.Common.{take}
use Rattle.td_assign.specs.ForProofs.Names.{Gathers, ReadsWith}
use Rattle.td_assign.proofs.names.tests_need.Given as goal

abbrev pub invariant-loop-place : goal.invariant-loop-place
invariant-loop-place l = Gathers (ReadsWith l.catalogue l.targets) (take l.place l.tests) l.places.items
