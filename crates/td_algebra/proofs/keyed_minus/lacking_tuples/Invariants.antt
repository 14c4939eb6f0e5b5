use Rattle.std.proofs.Common.{◌≡◌, not, take}
use Rattle.std.specs.FinSet as set
use Rattle.std.specs.List.{filter}
use Rattle.td_relations.specs.Sets.{body}
use Rattle.td_algebra.proofs.keyed_minus.lacking_tuples.Given as goal

abbrev pub invariant-loop-tuple : goal.invariant-loop-tuple
invariant-loop-tuple l = l.lacking.items ≡ filter (λ t. not (set.contains (body l.b) t)) (take l.tuple-index l.tuple-items)
