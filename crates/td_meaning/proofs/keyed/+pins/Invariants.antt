use Rattle.std.proofs.Common.{length}
use Rattle.td_meaning.proofs.keyed.+pins.Given as goal

abbrev pub decreases-pinned_value : goal.decreases-pinned_value
decreases-pinned_value l = length l.checks.now
