use Rattle.std.proofs.Common.{ap, ◌∙◌}
use Rattle.td_values.specs.Proving.Total.{attrs_order_total, attrs_tied}
use Rattle.td_relations.specs.Sets.{tuple_set}
use Rattle.td_relations.proofs.Sorted.{body_remove, remove_absent, sorted_remove}
use Rattle.td_relations.proofs.places.take_out.Goals as goal

pub returns-in-Ok-clause-ascending : goal.returns-in-Ok-clause-ascending
returns-in-Ok-clause-ascending c = rw c.remove.ensures.items (sorted_remove attrs_order_total c.args.tuples.now.items c.in-Ok.at c.requires)

pub returns-in-Ok-clause-members : goal.returns-in-Ok-clause-members
returns-in-Ok-clause-members c =
    let at = rw c.deref.ensures.value at c.in-Ok.ensures.found in
    ap tuple_set c.remove.ensures.items ∙ body_remove attrs_order_total attrs_tied c.args.tuples.now.items c.in-Ok.at c.args.tuple.now c.requires at.in_range at.is

pub returns-in-Err-clause-members : goal.returns-in-Err-clause-members
returns-in-Err-clause-members c =
    let gap = rw c.deref.ensures.value at c.in-Err.ensures.absent in
    remove_absent attrs_order_total attrs_tied (tuple_set c.args.tuples.now.items) c.args.tuple.now gap.absent
