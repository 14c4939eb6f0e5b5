use Rattle.std.proofs.Common.{◌≡◌, drop}
use Rattle.std.specs.List.{All}
use Rattle.td_algebra.specs.Raising.{all_of}
use Rattle.td_algebra.specs.ForProofs.Checking.{both, checked, least_so_far}
use Rattle.td_algebra.specs.Extending.{TermMeaning, Means, field_at}
use Rattle.td_algebra.proofs.extension.check_at.Given as goal

abbrev pub invariant-loop-item : goal.invariant-loop-item
invariant-loop-item g l =
    (m : TermMeaning _) → All (λ i. Means (λ p q. g.F.Fn.post l.f (p, (q, tt))) m i.term l.tuple) l.items
    → both (least_so_far l.least.error) (checked (all_of (field_at m l.tuple) (drop l.item-index l.items))) ≡ checked (all_of (field_at m l.tuple) l.items)
