use Rattle.std.proofs.Common.{All, take}
use Rattle.td_accesses.specs.ForProofs.Growing.{AreIndexesGrown, IsKeptFor}
use Rattle.td_accesses.proofs.by_keys.keep_by_keys.Given as goal

abbrev pub invariant-loop-test : goal.invariant-loop-test
invariant-loop-test l = record {
  kept : AreIndexesGrown l.initial.indexes.items l.indexes.items;
  there : All (IsKeptFor l.relvar l.relation l.indexes.items) (take l.test-index l.tests);
}
