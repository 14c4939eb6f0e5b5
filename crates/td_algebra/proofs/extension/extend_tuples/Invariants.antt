use Rattle.std.proofs.Common.{◌≡◌, drop, IfOk}
use Rattle.std.specs.List.{All}
use Rattle.td_values.specs.Headings.{Header}
use Rattle.td_tuples.specs.Parts.{Fits}
use Rattle.td_algebra.specs.Raising.{and_all, all_of}
use Rattle.td_algebra.specs.ForProofs.Gathered.{so_far}
use Rattle.td_tuples.specs.Items.{extended_columns}
use Rattle.td_algebra.specs.Extending.{TermMeaning, Means, extended_at}
use Rattle.td_algebra.proofs.extension.extend_tuples.Given as goal

abbrev pub invariant-loop-tuple : goal.invariant-loop-tuple
invariant-loop-tuple g l =
    ((m : TermMeaning _) → All (λ t. All (λ i. Means (λ p q. g.F.Fn.post l.f (p, (q, tt))) m i.term t) l.items) l.tuples → and_all (so_far l.gathered.answers.items l.gathered.least) (all_of (extended_at m l.items) (drop l.tuple-index l.tuples)) ≡ all_of (extended_at m l.items) l.tuples)
    × ((h : Header) → All (Fits h) l.tuples → IfOk (so_far l.gathered.answers.items l.gathered.least) (λ us. All (Fits (extended_columns l.items h)) us))
