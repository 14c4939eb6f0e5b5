use Rattle.std.proofs.Common.{IfSome, subst}
use Rattle.td_insertions.specs.ForProofs.Written.{IsWritten}
use Rattle.td_insertions.proofs.Meaning.{its_assignment, over_nothing}
use Rattle.td_insertions.proofs.tuples.inserted_tuples.Goals as goal

pub tuples_over_nothing-requires-clause-assigned :
    goal.tuples_over_nothing-requires-clause-assigned
tuples_over_nothing-requires-clause-assigned g c =
    its_assignment c.args.catalogue.now c.args.statement.now c.in-Some-sole_assignment.assignment.now c.requires.typed c.in-Some-sole_assignment.ensures

pub returns-in-Ok : goal.returns-in-Ok
returns-in-Ok g c =
    let x = c.args.statement.now in
    let w = c.in-Some.written in
    let written = subst (λ o. IfSome o (λ v. IsWritten x v.target v.many)) c.in-Some.is c.in_ok-written.ensures in
    over_nothing c.args.catalogue.now x w.target w.many c.was_defined.ensures c.requires.typed written (g.L.Lookup.relvars c.args.lookup.now)
    c.in-Some-sole_assignment.assignment.now c.in-Ok.tuples c.in-Some-sole_assignment.ensures c.in-Ok.ensures c.rows_fit.ensures
