use Rattle.td_incremental.specs.ForProofs.Deciding.{AreGrowths}
use Rattle.td_incremental.proofs.watching.virtual_growths.Given as goal

abbrev pub invariant-loop-under : goal.invariant-loop-under
invariant-loop-under l = AreGrowths l.catalogue l.relvar l.known.items
