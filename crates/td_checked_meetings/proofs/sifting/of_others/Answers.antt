use Rattle.std.specs.Vec.Iter.{into_iter_items}
use Rattle.td_checked_meetings.proofs.Sequences.{others_more}
use Rattle.td_checked_meetings.proofs.sifting.of_others.Goals as goal

pub loop-entry-preserved : goal.loop-entry-preserved
loop-entry-preserved c =
    others_more c.args.scope.now.left_out.items c.args.entries.items (into_iter_items c.loop-entry.entry-iterator) (into_iter_items c.next.new.self) c.loop-entry.others.items c.add_other.new.others.items c.in-Some.entry
    c.in-Some.ensures.steps.0 c.in_ok-add_other.ensures c.loop-entry.invariant
