use Rattle.std.proofs.Common.{◌≡◌, drop}
use Rattle.std.specs.List.{All}
use Rattle.td_algebra.specs.Raising.{all_of}
use Rattle.td_algebra.specs.ForProofs.Checking.{both, checked, least_so_far}
use Rattle.td_algebra.specs.Extending.{TermMeaning, Means, extended_at}
use Rattle.td_algebra.proofs.extension.check_all.Given as goal

abbrev pub invariant-loop-tuple : goal.invariant-loop-tuple
invariant-loop-tuple g l =
    (m : TermMeaning _) → All (λ t. All (λ i. Means (λ p q. g.F.Fn.post l.f (p, (q, tt))) m i.term t) l.items) l.tuples
    → both (least_so_far l.least.error) (checked (all_of (extended_at m l.items) (drop l.tuple-index l.tuples))) ≡ checked (all_of (extended_at m l.items) l.tuples)
