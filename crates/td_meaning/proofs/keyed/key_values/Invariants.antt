use Rattle.std.proofs.Common.{take}
use Rattle.td_meaning.specs.ForProofs.Pinned.{ArePinned}
use Rattle.td_meaning.proofs.keyed.key_values.Given as goal

abbrev pub invariant-loop-name : goal.invariant-loop-name
invariant-loop-name l = ArePinned l.heading l.checks (take l.name-index l.key) l.values.items
