use Rattle.std.proofs.Common.{◌≡◌, take}
use Rattle.td_bases.proofs.by_keys.copy_each.Given as goal

abbrev pub invariant-loop-index : goal.invariant-loop-index
invariant-loop-index l = l.copies.items ≡ take l.index-index l.indexes
