use Rattle.std.proofs.Common.{◌≡◌, take}
use Rattle.td_comparison.specs.ForProofs.{sites_unequal}
use Rattle.td_comparison.proofs.differing.unequal_sites.Given as goal

abbrev pub invariant-loop-at : goal.invariant-loop-at
invariant-loop-at l = l.sites.items ≡ sites_unequal l.are_answers (take l.at l.own) (take l.at l.others)
