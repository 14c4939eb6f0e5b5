use Rattle.std.proofs.Common.{ap, ◌∙◌}
use Rattle.std.specs.FinMap as map
use Rattle.td_values.specs.Order.{text_cmp}
use Rattle.td_values.specs.Data.{Datum}
use Rattle.td_values.proofs.Entries.{none_seen}
use Rattle.td_values.proofs.builders.TupleBuilder.new.Goals as goal

pub returns : goal.returns
returns c = ap (map.from_sorted {R = text_cmp}) c.new.ensures.items ∙ none_seen Datum
