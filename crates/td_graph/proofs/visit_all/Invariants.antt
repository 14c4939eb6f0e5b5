use Rattle.std.proofs.Common.{◌≡◌, take, vec_len}
use Rattle.td_graph.specs.ForProofs.{IsMarked, Visits}
use Rattle.td_graph.proofs.visit_all.Given as goal

abbrev pub invariant-loop-place : goal.invariant-loop-place
invariant-loop-place l = record {
  marked : IsMarked l.marks.items l.places.items;
  len : vec_len l.marks ≡ vec_len l.initial.marks;
  visits : Visits (vec_len l.initial.marks) l.initial.places.items (take l.place-index l.more) l.places.items;
}
