use Rattle.std.proofs.Common.{sym, subst}
use Rattle.td_schema.specs.Scopes.{relvars_of, within_tuple}
use Rattle.td_typing.specs.Types.{Types}
use Rattle.td_headings.proofs.NoTuple.{in_no_tuple}
use Rattle.td_headings.proofs.typed.type_expr.Goals as goal

pub returns-clause-refused : goal.returns-clause-refused
returns-clause-refused c = λ e u k d.
    let s = c.args.catalogue.now in
    c.type_within.ensures.refused e u k (subst (λ h. Types s.schema (within_tuple h (relvars_of s.schema)) c.args.expr.now u k) (sym c.in_ok-new.ensures) (in_no_tuple s c.args.expr.now u k d))
