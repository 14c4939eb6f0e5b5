use Rattle.std.proofs.Common.{ℕ, ◌<◌}
use Rattle.td_algebra.specs.ForProofs.Index.{RepeatsAt}
use Rattle.td_algebra.proofs.uniqueness.has_repeats.Given as goal

abbrev pub invariant-loop-at : goal.invariant-loop-at
invariant-loop-at l = (i : ℕ) → i < l.at → RepeatsAt l.index.places.items l.index.tuples.items i → ⊥
