use Rattle.std.proofs.Common.{is_some, sym, ap, ◌∙◌}
use Rattle.td_tuples.proofs.Lists.{in_keys}
use Rattle.td_tuples.proofs.Steps.{some_copied}
use Rattle.td_incremental.proofs.references.has_name.Goals as goal

pub returns : goal.returns
returns c = c.is_some.ensures ∙ some_copied c.type_of.result ∙ ap is_some c.type_of.ensures ∙ sym (in_keys c.args.heading.now c.args.name.now)
