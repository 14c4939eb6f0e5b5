use Rattle.std.proofs.Common.{◌≡◌, take, map}
use Rattle.td_schema.proofs.lists.old_names.Given as goal

abbrev pub invariant-loop-old : goal.invariant-loop-old
invariant-loop-old l = l.names.items ≡ map (λ i. i.0) (take l.old-index l.items)
