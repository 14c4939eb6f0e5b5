use Rattle.std.proofs.Common.{All, take}
use Rattle.td_accesses.specs.ForProofs.Accessed.{IsClearOf}
use Rattle.td_accesses.proofs.accesses.all_are_clear.Given as goal

abbrev pub invariant-loop-insertions : goal.invariant-loop-insertions
invariant-loop-insertions l = All (IsClearOf l.reads l.writes) (take l.insertions-index l.all)
