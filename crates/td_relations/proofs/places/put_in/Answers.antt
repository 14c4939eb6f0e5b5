use Rattle.std.proofs.Common.{ap, ◌∙◌}
use Rattle.td_values.specs.Proving.Total.{attrs_order_total, attrs_tied}
use Rattle.td_relations.specs.Sets.{tuple_set}
use Rattle.td_relations.proofs.Sorted.{body_insert, insert_there, sorted_insert}
use Rattle.td_relations.proofs.places.put_in.Goals as goal

pub returns-in-Ok-insert_at-clause-ascending : goal.returns-in-Ok-insert_at-clause-ascending
returns-in-Ok-insert_at-clause-ascending c =
    let gap = rw c.deref.ensures.value at c.in-Err.ensures.absent in
    rw c.in-Ok-insert_at.ensures.items (sorted_insert attrs_order_total c.args.tuples.now.items c.in-Err.at c.args.tuple c.requires.ascends gap.in_range gap.smaller_before gap.greater_after)

pub returns-in-Ok-insert_at-clause-members : goal.returns-in-Ok-insert_at-clause-members
returns-in-Ok-insert_at-clause-members c = ap tuple_set c.in-Ok-insert_at.ensures.items ∙ body_insert attrs_order_total attrs_tied c.args.tuples.now.items c.in-Err.at c.args.tuple

pub returns-in-Ok-clause-members : goal.returns-in-Ok-clause-members
returns-in-Ok-clause-members c =
    let at = rw c.deref.ensures.value at c.in-Ok.ensures.found in
    insert_there attrs_order_total attrs_tied (tuple_set c.args.tuples.now.items) c.args.tuple at.there
