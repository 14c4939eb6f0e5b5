use Rattle.td_rollback.proofs.Conflicting.{MarkFront}
use Rattle.td_rollback.proofs.marks.mark_conflicting.Given as goal

abbrev pub invariant-loop-at : goal.invariant-loop-at
invariant-loop-at g l =
    let m = g.M.Machine in
    let o = m.origin l.machine in
    MarkFront (m.commute o) (m.covers o l.initial.accesses) (m.covers o l.accesses) l.marks.items l.at l.old
