use Rattle.std.specs.Vec.Iter.{into_iter_items}
use Rattle.td_checked_meetings.specs.ForProofs.{IsSequenced}
use Rattle.td_checked_meetings.proofs.sifting.in_sequence.Given as goal

abbrev pub invariant-loop-entry : goal.invariant-loop-entry
invariant-loop-entry l = IsSequenced l.vector l.fn.entries.items (into_iter_items l.entry-iterator) l.numbers l.following.items l.beyond
