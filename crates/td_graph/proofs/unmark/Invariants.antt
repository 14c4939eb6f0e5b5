use Rattle.std.proofs.Common.{◌≡◌, ℕ, length, get_or, drop, true, false}
use Rattle.std.specs.List.{Contains}
use Rattle.td_graph.proofs.unmark.Given as goal

abbrev pub invariant-loop-place : goal.invariant-loop-place
invariant-loop-place l = record {
  many : length l.marks.items ≡ length l.initial.marks.items;
  left : (v : ℕ) → get_or l.marks.items v false ≡ true → Contains (drop l.place-index l.places) v;
}
