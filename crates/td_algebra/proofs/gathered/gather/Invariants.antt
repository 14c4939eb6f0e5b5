use Rattle.std.proofs.Common.{◌≡◌, drop, Result}
use Rattle.std.specs.Fn.{FnReturnsAt}
use Rattle.std.specs.List.{All}
use Rattle.td_algebra.specs.declared.errors.Stop.{Stop}
use Rattle.td_values.specs.Data.{Attrs}
use Rattle.td_algebra.specs.Raising.{Answers, and_all, all_of}
use Rattle.td_algebra.specs.ForProofs.Gathered.{so_far}
use Rattle.td_algebra.proofs.gathered.gather.Given as goal

abbrev pub invariant-loop-tuple : goal.invariant-loop-tuple
invariant-loop-tuple g l =
    (m : Attrs → Result _ Stop) → All (λ t. (r : _) → FnReturnsAt g.F.Fn l.f t r → Answers r (m t)) l.tuples → and_all (so_far l.gathered.answers.items l.gathered.least) (all_of m (drop l.tuple-index l.tuples)) ≡ all_of m l.tuples
