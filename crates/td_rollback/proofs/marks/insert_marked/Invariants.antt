use Rattle.std.proofs.Common.{◌≡◌, ◌≤◌, ◌+◌, ◌++◌, List, drop, length, take, vec_capacity}
use Rattle.td_rollback.specs.Parts.{interleaved}
use Rattle.td_rollback.proofs.Placing.{Placed}
use Rattle.td_rollback.proofs.marks.insert_marked.Given as goal

abbrev pub invariant-loop-place : goal.invariant-loop-place
invariant-loop-place g l = record {
  placed : (ys : List g.row.X.Denot) × (l.all.items ≡ take l.kept l.initial.all.items ++ ys) × Placed l.marks (interleaved l.marks l.fn.items.items (drop l.kept l.initial.all.items)) ys l.items.rest.items l.place;
  front : length (take l.kept l.initial.all.items) ≡ l.kept;
  room : length l.all.items + length l.items.rest.items ≤ vec_capacity l.all;
}
