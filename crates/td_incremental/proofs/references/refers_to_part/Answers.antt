use Rattle.td_incremental.proofs.Naming.{refers_part}
use Rattle.td_incremental.proofs.references.refers_to_part.Goals as goal

pub returns-in_ok-copy_names : goal.returns-in_ok-copy_names
returns-in_ok-copy_names c =
    refers_part c.args.catalogue.now c.args.relvar c.args.tree.now c.in-Some.pair.0.now c.in-Some.pair.1.now c.in-Some-part_names.names.now c.in_ok-copy_names.field-0.items
    c.in-Some.ensures c.in-Some-part_names.ensures (c.in_ok-is_unread.ensures c.if-branch.true) c.in_ok-copy_names.ensures
