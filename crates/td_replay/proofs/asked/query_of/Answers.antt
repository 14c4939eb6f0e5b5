use Rattle.std.proofs.Common.{Err, ap, subst, ◌∙◌}
use Rattle.td_syntax.specs.declared.tree.Expr.{Expr}
use Rattle.td_typing.specs.Types.{IsIllTyped}
use Rattle.td_headings.specs.Definitions.{names_of_relvars}
use Rattle.td_replay.proofs.Asking.{never_typed}
use Rattle.td_replay.proofs.asked.query_of.Goals as goal

pub returns-in-Err-Syntax : goal.returns-in-Err-Syntax
returns-in-Err-Syntax c = c.read_expr.ensures.syntax_only_without_one (c.in-Err-Syntax.is ∙ ap Err c.in-Err-Syntax.field-0-is)

pub returns-in-Err-IllTyped : goal.returns-in-Err-IllTyped
returns-in-Err-IllTyped c =
    let k = c.args.catalogue.now in
    let never = c.type_expr.ensures.refused (c.in-Err-IllTyped.is ∙ ap Err c.in-Err-IllTyped.field-0-is) in
    record { query = c.in-Ok.query; reads = c.in-Ok.ensures.tree; refused = never_typed k c.in-Ok.query (subst (λ (a : Expr). IsIllTyped k.schema (names_of_relvars k) a) c.get.ensures never) }
