use Rattle.std.proofs.Common.{All, take}
use Rattle.td_accesses.specs.ForProofs.Growing.{LacksParts}
use Rattle.td_accesses.proofs.by_keys.all_differ.Given as goal

abbrev pub invariant-loop-index : goal.invariant-loop-index
invariant-loop-index l = All (LacksParts l.relation) (take l.index-index l.indexes)
