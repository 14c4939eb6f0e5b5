use Rattle.std.proofs.Common.{◌≡◌, ◌+◌, ◌≤◌, ◌++◌, length}
use Rattle.std.specs.Vec.{vec_len, vec_capacity}
use Rattle.std.specs.Vec.Iter.{into_iter_items}
use Rattle.td_relations.proofs.abbreviations.without_abbreviations.Given as goal

abbrev pub invariant-loop-entry : goal.invariant-loop-entry
invariant-loop-entry l = record {
  seen : l.fn.beside.items ≡ l.yielded ++ into_iter_items l.entry-iterator;
  room : vec_len l.tuples + length (into_iter_items l.entry-iterator) ≤ vec_capacity l.tuples;
  same : l.tuples.items ≡ l.yielded;
}
