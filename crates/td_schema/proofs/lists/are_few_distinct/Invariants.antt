use Rattle.std.proofs.Common.{◌≡◌, drop}
use Rattle.td_schema.specs.Lists.{are_distinct}
use Rattle.td_schema.proofs.lists.are_few_distinct.Given as goal

abbrev pub invariant-loop-at : goal.invariant-loop-at
invariant-loop-at l = are_distinct l.names ≡ are_distinct (drop l.at l.names)
