use Rattle.std.proofs.Common.{◌≡◌, take, map}
use Rattle.std.specs.FinMap as by_name
use Rattle.td_tuples.specs.Items.{column_of}
use Rattle.td_tuples.proofs.items.columns_of.Given as goal

abbrev pub invariant-loop-item : goal.invariant-loop-item
invariant-loop-item g l = l.columns ≡ by_name.from_entries (map column_of (take l.item-index l.items))
