use Rattle.std.proofs.Common.{◌≡◌, take, map}
use Rattle.std.specs.FinMap as by_name
use Rattle.td_tuples.specs.Renamings.{with_new_name}
use Rattle.td_tuples.proofs.tuples.renamed.Given as goal

abbrev pub invariant-loop-name : goal.invariant-loop-name
invariant-loop-name l = l.builder ≡ by_name.from_entries (map (with_new_name l.items) (take l.name-index l.name-items))
