use Rattle.std.proofs.Common.{◌≡◌}
use Rattle.td_bases.specs.ForProofs.Keyed.{IsBeyond, IsLeft}
use Rattle.td_bases.proofs.by_keys.lose.Given as goal

abbrev pub invariant-loop-tuple : goal.invariant-loop-tuple
invariant-loop-tuple l = record {
  beyond : IsBeyond l.relation (IsLeft l.tuple-index l.tuple-items) l.index;
  key : l.index.key ≡ l.initial.index.key;
}
