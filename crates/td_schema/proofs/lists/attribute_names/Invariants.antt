use Rattle.std.proofs.Common.{◌≡◌, take, map}
use Rattle.td_schema.proofs.lists.attribute_names.Given as goal

abbrev pub invariant-loop-name : goal.invariant-loop-name
invariant-loop-name l = l.found ≡ map (λ e. e.0) (take l.name-index l.name-items)
