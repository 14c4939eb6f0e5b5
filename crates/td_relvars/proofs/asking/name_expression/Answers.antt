use Rattle.std.proofs.Common.{Err, ap, ◌∙◌, subst}
use Rattle.td_syntax.specs.declared.tree.Expr.TheVariants as e
use Rattle.td_typing.specs.Types.{IsIllTyped}
use Rattle.td_headings.specs.Definitions.{names_of_relvars}
use Rattle.td_headings.specs.Expressions.{IsExpression, no_tuple}
use Rattle.td_relvars.proofs.Asked.{is_typed, name_is}
use Rattle.td_relvars.proofs.asking.name_expression.Goals as goal

pub returns-in-Ok : goal.returns-in-Ok
returns-in-Ok c =
    let s = c.args.catalogue.now in
    let is = c.get.ensures ∙ c.in_ok-expr.ensures ∙ ap e.Name c.in_ok-copy.ensures in
    name_is s c.args.name.now c.args.place c.args.heading.now c.requires c.in-Ok.typed (subst (λ a. IsExpression s no_tuple a c.in-Ok.typed) is c.in-Ok.ensures.typed)

pub unreachable-requires : goal.unreachable-requires
unreachable-requires c =
    let s = c.args.catalogue.now in
    let is = c.get.ensures ∙ c.in_ok-expr.ensures ∙ ap e.Name c.in_ok-copy.ensures in
    let never = c.type_expr.ensures.refused (c.in-Err-IllTyped.is ∙ ap Err c.in-Err-IllTyped.field-0-is) in
    is_typed s c.args.name.now c.args.place c.args.heading.now c.requires (subst (IsIllTyped s.schema (names_of_relvars s)) is never)
