use Rattle.std.proofs.Common.{All, take}
use Rattle.td_accesses.specs.ForProofs.Accessed.{DiffersFrom}
use Rattle.td_accesses.proofs.accesses.all_differ_from.Given as goal

abbrev pub invariant-loop-insertions : goal.invariant-loop-insertions
invariant-loop-insertions l = All (DiffersFrom l.dependencies.relvars.items l.reads l.writes l.relvar l.relation) (take l.insertions-index l.all)
