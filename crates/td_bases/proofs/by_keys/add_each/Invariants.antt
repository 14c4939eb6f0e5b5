use Rattle.std.proofs.Common.{◌≡◌, ◌<◌, length, All}
use Rattle.td_bases.specs.ForProofs.Keyed.{IsIndexOf, first_key}
use Rattle.td_bases.proofs.by_keys.add_each.Given as goal

abbrev pub invariant-loop-key : goal.invariant-loop-key
invariant-loop-key l = record {
  some : 0 < length l.indexes.items;
  each : All (IsIndexOf l.relation) l.indexes.items;
  first : first_key l.indexes.items ≡ first_key l.initial.indexes.items;
}
