use Rattle.std.proofs.Common.{◌≡◌, [], drop}
use Rattle.td_schema.proofs.Distinct.{distinct_after}
use Rattle.td_schema.proofs.lists.are_many_distinct.Given as goal

abbrev pub invariant-loop-name : goal.invariant-loop-name
invariant-loop-name l = distinct_after [] l.names ≡ distinct_after l.seen.keys (drop l.name-index l.names)
