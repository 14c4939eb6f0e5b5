use Rattle.std.proofs.Common.{◌≡◌, take}
use Rattle.std.specs.FinMap as by_name
use Rattle.std.specs.FinMap.Entries.{where_key}
use Rattle.td_values.specs.Order.{text_cmp}
use Rattle.td_tuples.specs.Parts.{is_out}
use Rattle.td_tuples.proofs.headings.columns_apart.Given as goal

abbrev pub invariant-loop-name : goal.invariant-loop-name
invariant-loop-name l = l.part ≡ by_name.from_entries (where_key text_cmp (is_out l.names) (take l.name-index l.name-items))
