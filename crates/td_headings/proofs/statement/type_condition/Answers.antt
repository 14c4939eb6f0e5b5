use Rattle.std.proofs.Common.{◌≡◌, Some, subst}
use Rattle.td_schema.specs.Results.{Fails}
use Rattle.td_schema.specs.Schemas.{SchemaData}
use Rattle.td_headings.specs.ForProofs.After.{condition_after}
use Rattle.td_headings.proofs.ConditionLemmas.{condition_refused, condition_tree, found_condition}
use Rattle.td_headings.proofs.statement.type_condition.Goals as goal

pub returns-in-Err-clause-refused : goal.returns-in-Err-clause-refused
returns-in-Err-clause-refused c =
    let a = c.args.expr.now in
    condition_refused c.args.catalogue.now a c.in-Err.error (subst (λ (s : SchemaData). Fails c.in-Err.error (condition_after s a)) c.schema.ensures.schema c.in-Err.ensures)

pub whole-requires : goal.whole-requires
whole-requires c =
    let s = c.args.catalogue.now in
    let a = c.args.expr.now in
    let u = c.in-Ok.tree in
    (condition_tree s a u (subst (λ (z : SchemaData). condition_after z a ≡ Some u) c.schema.ensures.schema c.in-Ok.ensures))

pub returns-clause-typed : goal.returns-clause-typed
returns-clause-typed c =
    let s = c.args.catalogue.now in
    let a = c.args.expr.now in
    let u = c.in-Ok.tree in
    let x = c.in_ok-expression.expression in
    found_condition s a u x (subst (λ (z : SchemaData). condition_after z a ≡ Some u) c.schema.ensures.schema c.in-Ok.ensures)
    c.in_ok-expression.ensures
