use Rattle.std.proofs.Common.{◌≡◌, ◌++◌}
use Rattle.std.specs.Vec.Iter.{into_iter_items}
use Rattle.td_checked_meetings.specs.Scopes.{of_others}
use Rattle.td_checked_meetings.proofs.sifting.of_others.Given as goal

abbrev pub invariant-loop-entry : goal.invariant-loop-entry
invariant-loop-entry l = l.others.items ++ of_others l.scope.left_out.items (into_iter_items l.entry-iterator) ≡ of_others l.scope.left_out.items l.fn.entries.items
