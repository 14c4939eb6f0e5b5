use Rattle.std.proofs.Common.{◌∙◌}
use Rattle.std.specs.Ordering.{eq_by_cmp}
use Rattle.indexmap.proofs.CallerLemmas.{insert_entry-new}
use Rattle.td_values.specs.Order.{text_cmp}
use Rattle.td_schema.proofs.schema.add_entry.Goals as goal

pub returns-in-Ok-clause-ok : goal.returns-in-Ok-clause-ok
returns-in-Ok-clause-ok g c = c.in-Ok.ensures.entries ∙ insert_entry-new (eq_by_cmp text_cmp) c.args.entries.now c.args.name c.args.value c.requires
