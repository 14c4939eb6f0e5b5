use Rattle.std.proofs.Common.{◌≡◌, take}
use Rattle.td_schema.proofs.lists.copies.Given as goal

abbrev pub invariant-loop-name : goal.invariant-loop-name
invariant-loop-name l = l.copies ≡ take l.name-index l.names
