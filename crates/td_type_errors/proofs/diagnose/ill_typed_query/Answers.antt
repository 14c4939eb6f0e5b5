use Rattle.std.proofs.Common.{Err, ap, ◌∙◌, subst}
use Rattle.td_syntax.specs.declared.tree.Expr.{Expr}
use Rattle.td_schema.specs.Schemas.{SchemaData}
use Rattle.td_schema.specs.Scopes.{relvars_of}
use Rattle.td_typing.specs.Types.{Types}
use Rattle.td_type_errors.proofs.Excluded.{unread_query, typed_query}
use Rattle.td_type_errors.proofs.diagnose.ill_typed_query.Goals as goal

pub returns-in-Err-Syntax : goal.returns-in-Err-Syntax
returns-in-Err-Syntax c =
    unread_query c.args.catalogue.now c.args.text.now (c.read_expr.ensures.syntax_only_without_one (c.in-Err-Syntax.is ∙ ap Err c.in-Err-Syntax.field-0-is))

pub returns-in-Ok-type_in : goal.returns-in-Ok-type_in
returns-in-Ok-type_in c =
    let s = c.schema-schema.result.now in
    let a = c.in-Ok.tree in
    let x = c.in-Ok-type_in.field-0 in
    let types = subst (λ (b : Expr). Types s (relvars_of s) b x.tree x.kind) c.get.ensures c.in-Ok-type_in.ensures.typed in
    typed_query c.args.catalogue.now c.args.text.now a x.tree x.kind c.in-Ok.ensures.tree
    (subst (λ (t : SchemaData). Types t (relvars_of t) a x.tree x.kind) c.schema-schema.ensures.schema types)
