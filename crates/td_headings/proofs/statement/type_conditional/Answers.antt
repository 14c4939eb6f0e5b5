use Rattle.td_headings.specs.Statements.{types_conditional}
use Rattle.td_headings.proofs.ConditionLemmas.{its_condition, its_first, its_second}
use Rattle.td_headings.proofs.StatementLemmas.{same_error}
use Rattle.td_headings.proofs.statement.type_conditional.Goals as goal

pub returns-in-Err-clause-refused : goal.returns-in-Err-clause-refused
returns-in-Err-clause-refused c = λ e x h.
    let i = its_condition c.args.catalogue.now c.args.expr.now c.args.actions.now c.args.others.now x h in
    c.in-Err.ensures.refused (same_error c.in-Err.error e) i.0 i.1

pub returns-in-Err-type_assignments-clause-refused : goal.returns-in-Err-type_assignments-clause-refused
returns-in-Err-type_assignments-clause-refused c = λ e x h.
    let xs = its_first c.args.catalogue.now c.args.expr.now c.args.actions.now c.args.others.now x h in
    c.in-Err-type_assignments.ensures.refused (same_error c.in-Err-type_assignments.error e) xs.0 xs.1

pub returns-in-Ok-type_assignments-2-clause-typed : goal.returns-in-Ok-type_assignments-2-clause-typed
returns-in-Ok-type_assignments-2-clause-typed c = types_conditional c.in-Ok.ensures.typed c.in-Ok-type_assignments.ensures.typed c.in-Ok-type_assignments-2.ensures.typed

pub returns-in-Err-type_assignments-2-clause-refused : goal.returns-in-Err-type_assignments-2-clause-refused
returns-in-Err-type_assignments-2-clause-refused c = λ e x h.
    let ys = its_second c.args.catalogue.now c.args.expr.now c.args.actions.now c.args.others.now x h in
    c.in-Err-type_assignments-2.ensures.refused (same_error c.in-Err-type_assignments-2.error e) ys.0 ys.1
