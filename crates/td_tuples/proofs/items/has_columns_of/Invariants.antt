use Rattle.std.proofs.Common.{◌≡◌, take}
use Rattle.td_tuples.specs.Items.{extended_columns}
use Rattle.td_tuples.proofs.items.has_columns_of.Given as goal

abbrev pub invariant-loop-item : goal.invariant-loop-item
invariant-loop-item g l = extended_columns (take l.item-index l.items) l.heading ≡ l.heading
