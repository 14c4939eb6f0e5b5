use Rattle.td_incremental.proofs.Naming.{names_part, whole_part}
use Rattle.td_incremental.proofs.references.part_at.Goals as goal

pub returns-then-is_relvar : goal.returns-then-is_relvar
returns-then-is_relvar c = whole_part c.args.place c.args.heading.now c.in_ok-names_in.field-0.items c.args.tree.now (c.is_relvar.ensures c.if-is_relvar.true) c.in_ok-names_in.ensures

pub returns : goal.returns
returns c = names_part c.args.place c.args.heading.now c.in_ok-copy_names.field-0.items c.args.tree.now c.in-Some.names.now c.in-Some.ensures c.in_ok-copy_names.ensures
