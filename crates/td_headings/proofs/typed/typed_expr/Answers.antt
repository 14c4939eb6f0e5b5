use Rattle.std.proofs.Common.{sym, subst}
use Rattle.td_headings.specs.Expressions.{IsTyped}
use Rattle.td_headings.proofs.NoTuple.{is_typed}
use Rattle.td_headings.proofs.typed.typed_expr.Goals as goal

pub invariant_of-result : goal.invariant_of-result
invariant_of-result c =
    let e = c.in_ok-expression.ensures in
    subst IsTyped (sym c.in_ok-new.ensures) (is_typed c.args.catalogue.now c.args.attributes c.args.tree c.args.kind c.in_ok-expression.expression c.with_all_under.ensures.defined c.requires e.under e.tree e.kind e.attributes)
