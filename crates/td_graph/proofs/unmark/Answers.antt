use Rattle.std.proofs.Common.{◌≤◌, ℕ, [], length, false, ap, ◌∙◌, subst, arith}
use Rattle.std.specs.List.{Contains}
use Rattle.std.specs.Prelude.{replicate}
use Rattle.std.proofs.lemmas.List.{drop_all}
use Rattle.td_graph.proofs.Walks.{none_left}
use Rattle.td_graph.proofs.unmark.Goals as goal

pub returns : goal.returns
returns c =
    let places = c.args.places.now in
    let ended : length places ≤ c.loop-place.place-index = omega arith in
    none_left c.loop-place.marks.items (λ v e. nothing v (subst (λ ps. Contains ps v) (drop_all c.loop-place.place-index places ended) (c.loop-place.invariant.left v e)))
    ∙ ap (λ n. replicate n false) c.loop-place.invariant.many
  where
    nothing : (v : ℕ) → Contains [] v → ⊥
    nothing v there = absurd (omega (arith, there.1))
