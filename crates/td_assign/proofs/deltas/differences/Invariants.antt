use Rattle.std.proofs.Common.{drop}
use Rattle.td_semantics.specs.Databases.{stored_relvars}
use Rattle.td_assign.proofs.Differing.{Found}
use Rattle.td_assign.proofs.deltas.differences.Given as goal

abbrev pub invariant-loop-change : goal.invariant-loop-change
invariant-loop-change l = Found (stored_relvars l.database.stored) l.changes (drop l.change-index l.changes) l.found.items
