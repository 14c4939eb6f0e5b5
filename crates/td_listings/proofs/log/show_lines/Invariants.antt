use Rattle.std.proofs.Common.{◌≡◌, ◌++◌, ◌-◌, drop, length, string_bytes}
use Rattle.td_listings.specs.Texts as spec
use Rattle.td_listings.proofs.log.show_lines.Given as goal

abbrev pub invariant-loop-at : goal.invariant-loop-at
invariant-loop-at l = string_bytes l.out ++ spec.log_of (drop l.at l.entries) (drop l.at l.outcomes) ≡ string_bytes l.initial.out ++ spec.log_of l.entries l.outcomes

abbrev pub decreases-loop-at : goal.decreases-loop-at
decreases-loop-at l = length l.entries - l.at
