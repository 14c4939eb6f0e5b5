use Rattle.std.proofs.Common.{take}
use Rattle.td_algebra.specs.ForProofs.Checking.{AreNew}
use Rattle.td_algebra.proofs.extension.names_are_new.Given as goal

abbrev pub invariant-loop-item : goal.invariant-loop-item
invariant-loop-item g l = AreNew l.heading (take l.item-index l.items)
