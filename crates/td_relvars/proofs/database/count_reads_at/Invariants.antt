use Rattle.std.proofs.Common.{◌≡◌}
use Rattle.td_relvars.proofs.database.count_reads_at.Given as goal

abbrev pub invariant-loop-relvar : goal.invariant-loop-relvar
invariant-loop-relvar l = l.stored.items ≡ l.initial.stored.items
