use Rattle.std.proofs.Common.{IfSome, subst}
use Rattle.td_incremental.specs.References.{HasNames}
use Rattle.td_incremental.proofs.Naming.{refers_whole}
use Rattle.td_incremental.proofs.references.refers_to_whole.Goals as goal

pub returns : goal.returns
returns c =
    refers_whole c.args.catalogue.now c.args.relvar c.args.tree.now c.in-Some.operand.now c.in-Some-2.names.items c.in-Some.ensures (c.in_ok-is_unread.ensures c.if-not-branch.false)
    (subst (λ o. IfSome o (λ v. HasNames c.args.catalogue.now v.items c.in-Some.operand.now)) c.in-Some-2.is c.in_ok-names.ensures)
