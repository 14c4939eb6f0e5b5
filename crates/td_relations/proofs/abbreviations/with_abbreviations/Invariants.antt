use Rattle.std.proofs.Common.{◌≡◌, ◌+◌, ◌≤◌, ◌++◌, length}
use Rattle.std.specs.List.{All}
use Rattle.std.specs.Vec.{vec_len, vec_capacity}
use Rattle.std.specs.Vec.Iter.{into_iter_items}
use Rattle.td_relations.specs.ForProofs.Abbreviations.{BeginsInBytes}
use Rattle.td_relations.proofs.abbreviations.with_abbreviations.Given as goal

abbrev pub invariant-loop-tuple : goal.invariant-loop-tuple
invariant-loop-tuple l = record {
  seen : l.fn.tuples.items ≡ l.yielded ++ into_iter_items l.tuple-iterator;
  room : vec_len l.beside + length (into_iter_items l.tuple-iterator) ≤ vec_capacity l.beside;
  same : l.beside.items ≡ l.yielded;
  bytes : All BeginsInBytes l.yielded;
}
