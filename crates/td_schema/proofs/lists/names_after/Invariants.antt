use Rattle.std.proofs.Common.{◌≡◌, take, map}
use Rattle.td_tuples.specs.Renamings.{name_after}
use Rattle.td_schema.proofs.lists.names_after.Given as goal

abbrev pub invariant-loop-name : goal.invariant-loop-name
invariant-loop-name l = l.names.items ≡ map (name_after l.items) (map (λ e. e.0) (take l.name-index l.name-items))
