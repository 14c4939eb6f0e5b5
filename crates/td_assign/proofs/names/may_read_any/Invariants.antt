use Rattle.std.proofs.Common.{take}
use Rattle.td_assign.specs.ForProofs.Names.{ReadsNoTarget}
use Rattle.td_assign.proofs.names.may_read_any.Given as goal

abbrev pub invariant-loop-target : goal.invariant-loop-target
invariant-loop-target l = ReadsNoTarget l.catalogue (take l.target-index l.targets) l.place
