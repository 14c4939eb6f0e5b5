use Rattle.std.proofs.Common.{sym, ◌∙◌}
use Rattle.td_relations.proofs.Merging.{difference_apart}
use Rattle.td_relations.proofs.deltas.difference.Goals as goal

pub invariant_of-result : goal.invariant_of-result
invariant_of-result c =
    let inserted = c.in_ok-deleted.ensures.1 in
    let deleted = c.in_ok-deleted.ensures.0 in
    record {
      heading = inserted.heading ∙ sym deleted.heading;
      apart = difference_apart c.args.old.now c.args.new.now c.in_ok-deleted.inserted c.in_ok-deleted.deleted inserted.members deleted.members;
    }
