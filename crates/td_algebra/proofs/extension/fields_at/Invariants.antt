use Rattle.std.proofs.Common.{◌≡◌, drop, take, map, IfOk}
use Rattle.std.specs.List.{All}
use Rattle.td_values.specs.Whole.{type_of}
use Rattle.td_algebra.specs.Raising.{and_all, all_of}
use Rattle.td_algebra.specs.ForProofs.Gathered.{so_far}
use Rattle.td_tuples.specs.Items.{column_of}
use Rattle.td_algebra.specs.Extending.{TermMeaning, Means, field_at, fields_at}
use Rattle.td_algebra.proofs.extension.fields_at.Given as goal

abbrev pub invariant-loop-item : goal.invariant-loop-item
invariant-loop-item g l =
    ((m : TermMeaning _) → All (λ i. Means (λ p q. g.F.Fn.post l.f (p, (q, tt))) m i.term l.tuple) l.items → and_all (so_far l.gathered.answers.items l.gathered.least) (all_of (field_at m l.tuple) (drop l.item-index l.items)) ≡ fields_at m l.items l.tuple)
    × (IfOk (so_far l.gathered.answers.items l.gathered.least) (λ xs. map (λ x. (x.0, type_of x.1)) xs ≡ map column_of (take l.item-index l.items)))
