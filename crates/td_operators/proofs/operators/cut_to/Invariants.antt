use Rattle.std.proofs.Common.{◌≡◌, take}
use Rattle.std.specs.FinMap.Entries.{where_key}
use Rattle.td_values.specs.Order.{text_cmp}
use Rattle.td_tuples.specs.Parts.{is_in}
use Rattle.td_operators.proofs.operators.cut_to.Given as goal

abbrev pub invariant-loop-name : goal.invariant-loop-name
invariant-loop-name l = l.attributes.items ≡ where_key text_cmp (is_in l.names) (take l.name-index l.name-items)
