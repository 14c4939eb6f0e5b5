use Rattle.std.proofs.Common.{take}
use Rattle.td_integrity.specs.ForProofs.Changed.{ReadsNone}
use Rattle.td_integrity.proofs.judging.reads_none_of.Given as goal

abbrev pub invariant-loop-change : goal.invariant-loop-change
invariant-loop-change l = ReadsNone l.catalogue (take l.change-index l.changes) l.place
