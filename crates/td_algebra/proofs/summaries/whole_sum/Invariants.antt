use Rattle.std.proofs.Common.{◌≡◌, ◌*◌, ◌^◌, drop, pos, neg_ℤ, ◌+ℤ◌, ◌≤ℤ◌}
use Rattle.td_algebra.specs.Summaries.{whole_sum}
use Rattle.td_algebra.proofs.summaries.whole_sum.Given as goal

abbrev pub invariant-loop-value : goal.invariant-loop-value
invariant-loop-value l =
    (l.sum +ℤ whole_sum (drop l.value-index l.values) ≡ whole_sum l.values)
    × (neg_ℤ (pos (l.value-index * 2 ^ 63)) ≤ℤ l.sum) × (l.sum ≤ℤ pos (l.value-index * 2 ^ 63))
