use Rattle.std.proofs.Common.{◌∙◌}
use Rattle.std.proofs.lemmas.Result.{on_ok_weaker}
use Rattle.td_accesses.proofs.Depending.{all_read, constraint_tells, is_closed, tells_test}
use Rattle.td_accesses.proofs.dependencies.add_test.Goals as goal

pub add_constraint-requires : goal.add_constraint-requires
add_constraint-requires c =
    let z = c.args.catalogue.now in
    let e = c.in-Some.expr in
    let closed = is_closed z c.args.place c.args.test.now _ _ c.requires c.in-Constraint.is c.in_ok-expr-in-Constraint.field-0 e c.in-Some.is c.in_ok-expr-in-Constraint.ensures in
    all_read z e closed.under c.was_defined.ensures c.deref.result.now (c.deref.ensures.value ∙ c.in_ok-relvars-in-Some.ensures)

pub returns-in_ok-relvars-in-Some-clause-told : goal.returns-in_ok-relvars-in-Some-clause-told
returns-in_ok-relvars-in-Some-clause-told c =
    let z = c.args.catalogue.now in
    let e = c.in-Some.expr in
    let xs = c.add_constraint.new.all.items in
    let closed = is_closed z c.args.place c.args.test.now _ _ c.requires c.in-Constraint.is c.in_ok-expr-in-Constraint.field-0 e c.in-Some.is c.in_ok-expr-in-Constraint.ensures in
    let read = all_read z e closed.under c.was_defined.ensures c.deref.result.now (c.deref.ensures.value ∙ c.in_ok-relvars-in-Some.ensures) in
    on_ok_weaker c.add_constraint.result (λ all. tells_test z xs c.args.test.now _ _ e.tree c.in-Constraint.is closed.tree (constraint_tells z xs e.tree c.deref.result.now read all)) c.add_constraint.ensures.told
