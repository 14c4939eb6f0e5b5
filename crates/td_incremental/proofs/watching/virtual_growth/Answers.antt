use Rattle.std.proofs.Common.{Some, ap, sym, ◌∙◌}
use Rattle.std.specs.Option.{option_copied}
use Rattle.td_incremental.proofs.Deciding.{told_virtual}
use Rattle.td_incremental.proofs.watching.virtual_growth.Goals as goal

pub returns-in-Some-Virtual : goal.returns-in-Some-Virtual
returns-in-Some-Virtual c =
    told_virtual c.args.catalogue.now c.args.relvar c.args.place c.in-Some-Virtual.tree c.get.result.now c.tree_growth.result
    (sym c.origin.ensures ∙ ap option_copied c.in-Some-Virtual.is ∙ ap Some c.in-Some-Virtual.field-0-is) c.get.ensures c.tree_growth.ensures
