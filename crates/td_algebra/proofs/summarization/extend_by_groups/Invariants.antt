use Rattle.std.proofs.Common.{◌≡◌, drop, IfOk}
use Rattle.std.specs.List.{All}
use Rattle.td_values.specs.Headings.{Header}
use Rattle.td_tuples.specs.Parts.{Fits}
use Rattle.td_tuples.specs.Items.{extended_columns}
use Rattle.td_algebra.specs.Raising.{and_all, all_of}
use Rattle.td_algebra.specs.ForProofs.Gathered.{so_far}
use Rattle.td_algebra.specs.ForProofs.Index.{found}
use Rattle.td_algebra.specs.Extending.{TermMeaning, Means, extended_at}
use Rattle.td_algebra.specs.Summaries.{OfTerm, summary_over}
use Rattle.td_algebra.proofs.summarization.extend_by_groups.Given as goal

abbrev pub invariant-loop-tuple : goal.invariant-loop-tuple
invariant-loop-tuple g l =
    ((m : TermMeaning _) → All (λ t. All (λ i. OfTerm (λ e. Means (λ p q. g.F.Fn.post l.f (p, (q, tt))) m e t) i.term) l.items) l.groups.tuples.items → and_all (so_far l.gathered.answers.items l.gathered.least) (all_of (λ t. extended_at (λ s u. summary_over m (found l.groups t) s) l.items t) (drop l.tuple-index l.tuples)) ≡ all_of (λ t. extended_at (λ s u. summary_over m (found l.groups t) s) l.items t) l.tuples)
    × ((h : Header) → All (Fits h) l.tuples → IfOk (so_far l.gathered.answers.items l.gathered.least) (λ us. All (Fits (extended_columns l.items h)) us))
