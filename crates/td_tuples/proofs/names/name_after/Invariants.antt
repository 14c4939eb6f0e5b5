use Rattle.std.proofs.Common.{◌≡◌, drop}
use Rattle.std.specs.FinMap as by_name
use Rattle.td_values.specs.Order.{text_cmp}
use Rattle.td_tuples.proofs.names.name_after.Given as goal

abbrev pub invariant-loop-old : goal.invariant-loop-old
invariant-loop-old l = by_name.find text_cmp l.name l.items ≡ by_name.find text_cmp l.name (drop l.old-index l.items)
