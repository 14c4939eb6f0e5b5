use Rattle.std.proofs.Common.{sym, subst, ◌∙◌}
use Rattle.td_schema.specs.Results.{Fails}
use Rattle.td_headings.specs.Expressions.{IsTree, IsClosedExpression, no_tuple}
use Rattle.td_headings.proofs.StatementLemmas.{found_one, refused_by, same_assigned, source_tree}
use Rattle.td_headings.proofs.statement.type_assignment.Goals as goal

pub returns-in-Err-clause-refused : goal.returns-in-Err-clause-refused
returns-in-Err-clause-refused c =
    let s = c.args.catalogue.now in
    let a = c.args.action.now in
    let is = same_assigned s a _ _ _ c.schema-schema.ensures.schema c.origins-origins.ensures c.target_of.ensures in
    refused_by s a c.in-Err.error (subst (Fails c.in-Err.error) is c.in-Err.ensures)

pub whole-requires : goal.whole-requires
whole-requires c =
    let s = c.args.catalogue.now in
    let a = c.args.action.now in
    let is = same_assigned s a _ _ _ c.schema-schema.ensures.schema c.origins-origins.ensures c.target_of.ensures in
    subst (λ u. IsTree s no_tuple u c.in-Ok.found.1.kind) (sym (c.in_ok-tree.ensures ∙ c.into_inner.ensures)) (source_tree s a c.in-Ok.found (sym is ∙ c.in-Ok.ensures))

pub returns-clause-typed : goal.returns-clause-typed
returns-clause-typed c =
    let s = c.args.catalogue.now in
    let a = c.args.action.now in
    let x = c.in_ok-source.source in
    let is = same_assigned s a _ _ _ c.schema-schema.ensures.schema c.origins-origins.ensures c.target_of.ensures in
    found_one s a c.in-Ok.found x (sym is ∙ c.in-Ok.ensures) (subst (λ u. IsClosedExpression s u c.in-Ok.found.1.kind x) (c.in_ok-tree.ensures ∙ c.into_inner.ensures) c.in_ok-source.ensures)
