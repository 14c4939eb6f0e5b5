use Rattle.std.proofs.Common.{◌≡◌, drop}
use Rattle.std.specs.List.{All}
use Rattle.td_algebra.specs.Raising.{and_all, all_of}
use Rattle.td_algebra.specs.ForProofs.Gathered.{so_far}
use Rattle.td_algebra.specs.Extending.{TermMeaning, Means}
use Rattle.td_algebra.proofs.summaries.values_at.Given as goal

abbrev pub invariant-loop-tuple : goal.invariant-loop-tuple
invariant-loop-tuple g l =
    (m : TermMeaning _) → All (Means (λ p q. g.F.Fn.post l.f (p, (q, tt))) m l.term) l.tuples → and_all (so_far l.gathered.answers.items l.gathered.least) (all_of (m l.term) (drop l.tuple-index l.tuples)) ≡ all_of (m l.term) l.tuples
