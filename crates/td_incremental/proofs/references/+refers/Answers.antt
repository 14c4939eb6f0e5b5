use Rattle.std.proofs.Common.{IfSome, sym, subst, ◌∙◌}
use Rattle.td_incremental.specs.References.{Refers}
use Rattle.td_incremental.proofs.Naming.{refers_both}
use Rattle.td_incremental.proofs.references.+refers.Goals as goal

pub returns-in_ok-append_names-in-Binary : goal.returns-in_ok-append_names-in-Binary
returns-in_ok-append_names-in-Binary t c =
    refers_both c.args.catalogue.now c.args.relvar c.args.tree.now c.in-Binary.operator c.in-Binary.a c.in-Binary.b c.get.result.now c.get-in-Binary.result.now
    c.in-Some.left.items c.in-Some-2.right.items c.in_ok-append_names-in-Binary.field-0.items
    c.in-Binary.is (sym c.is_and.ensures ∙ c.if-not-is_and.false) c.get.ensures c.get-in-Binary.ensures c.in_ok-append_names-in-Binary.ensures
    (subst (λ o. IfSome o (λ v. Refers c.args.catalogue.now c.args.relvar v.items c.get.result.now)) c.in-Some.is c.in_ok-left-in-Binary.ensures)
    (subst (λ o. IfSome o (λ v. Refers c.args.catalogue.now c.args.relvar v.items c.get-in-Binary.result.now)) c.in-Some-2.is c.in_ok-right-in-Binary.ensures)
