use Rattle.std.proofs.Common.{IfSome, subst}
use Rattle.td_incremental.specs.References.{IsPartOf}
use Rattle.td_incremental.proofs.Naming.{between}
use Rattle.td_incremental.proofs.references.names_between.Goals as goal

pub returns : goal.returns
returns c =
    let m = c.args.place in
    let n = c.args.relvar in
    let one = c.in-Some.one.now in
    let other = c.in-Some-heading_at.other.now in
    between c.args.catalogue.now m n c.args.a.now c.args.b.now one other c.in-Some-2.names.items c.in-Some-3.others.items c.deref.result.now c.deref-2.result.now c.in_ok-shared_names.field-0.items
    c.in-Some.ensures c.in-Some-heading_at.ensures
    (subst (λ o. IfSome o (λ v. IsPartOf m one v.items c.args.a.now)) c.in-Some-2.is c.in_ok-names.ensures)
    (subst (λ o. IfSome o (λ v. IsPartOf n other v.items c.args.b.now)) c.in-Some-3.is c.in_ok-others.ensures)
    c.deref.ensures.value c.deref-2.ensures.value c.in_ok-shared_names.ensures
