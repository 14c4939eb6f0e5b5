use Rattle.td_incremental.specs.ForProofs.Deciding.{AreWide}
use Rattle.td_incremental.proofs.safety.wide_virtuals.Given as goal

abbrev pub invariant-loop-under : goal.invariant-loop-under
invariant-loop-under l = AreWide l.catalogue l.relvar l.wide.items
