use Rattle.std.proofs.Common.{IfSome, ap, subst, ◌∙◌}
use Rattle.td_typed_trees.specs.declared.expression.Expression.{Expression}
use Rattle.td_incremental.specs.ForProofs.Referring.{AreBetween}
use Rattle.td_incremental.proofs.Naming.{sole}
use Rattle.td_incremental.proofs.references.sole_reference.Goals as goal

pub returns : goal.returns
returns c =
    let s = c.args.catalogue.now in
    let a = c.in-Some.parts.0.now in
    let b = c.in-Some.parts.1.now in
    let m = c.in-Some-place_in.place in
    sole s c.args.relvar m c.in-Some-2.names.items c.args.expr.now.tree c.get-2.result.now a b c.in-Some.ensures
    (c.get-2.ensures ∙ ap (λ (x : Expression). x.tree) c.get.ensures.same)
    (subst (λ o. IfSome o (λ v. AreBetween s m c.args.relvar a b v.items)) c.in-Some-2.is c.in_ok-names.ensures)
    (c.is_base_relvar.ensures c.if-not-is_base_relvar.false) c.if-place-relvar.false
