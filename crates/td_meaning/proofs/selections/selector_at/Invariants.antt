use Rattle.std.proofs.Common.{length}
use Rattle.td_meaning.specs.ForProofs.Found.{IsRest}
use Rattle.td_meaning.proofs.selections.selector_at.Given as goal

abbrev pub invariant-loop-last : goal.invariant-loop-last
invariant-loop-last l = IsRest l.selectors l.place l.rest

abbrev pub decreases-loop-last : goal.decreases-loop-last
decreases-loop-last l = length l.rest
