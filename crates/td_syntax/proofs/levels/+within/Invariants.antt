use Rattle.std.proofs.Common.{◌≡◌, ◌+◌, ◌*◌, nat_le, drop}
use Rattle.td_syntax.specs.Levels.{named_levels}
use Rattle.td_syntax.specs.ForProofs.Parts.{list_levels, summaries_levels}
use Rattle.td_syntax.proofs.levels.+within.Given as goal

abbrev pub decreases-within : goal.decreases-within
decreases-within l = 3 * l.most

abbrev pub decreases-list_within : goal.decreases-list_within
decreases-list_within l = 3 * l.most + 1

abbrev pub decreases-named_within : goal.decreases-named_within
decreases-named_within l = 3 * l.most + 1

abbrev pub decreases-summary_within : goal.decreases-summary_within
decreases-summary_within l = 3 * l.most + 1

abbrev pub decreases-summaries_within : goal.decreases-summaries_within
decreases-summaries_within l = 3 * l.most + 2

abbrev pub decreases-groups_within : goal.decreases-groups_within
decreases-groups_within l = 3 * l.most + 1

abbrev pub invariant-list_within-loop-a : goal.invariant-list_within-loop-a
invariant-list_within-loop-a l = nat_le (list_levels l.all) l.most ≡ nat_le (list_levels (drop l.a-index l.all)) l.most

abbrev pub invariant-named_within-loop-a : goal.invariant-named_within-loop-a
invariant-named_within-loop-a l = nat_le (named_levels l.all) l.most ≡ nat_le (named_levels (drop l.a-index l.all)) l.most

abbrev pub invariant-summaries_within-loop-a : goal.invariant-summaries_within-loop-a
invariant-summaries_within-loop-a l = nat_le (summaries_levels l.all) l.most ≡ nat_le (summaries_levels (drop l.a-index l.all)) l.most
