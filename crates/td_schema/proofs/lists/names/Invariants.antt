use Rattle.std.proofs.Common.{◌≡◌, take, map}
use Rattle.td_schema.proofs.lists.names.Given as goal

abbrev pub invariant-loop-part : goal.invariant-loop-part
invariant-loop-part g l = l.found.items ≡ map (λ x. x.name) (take l.part-index l.parts)
