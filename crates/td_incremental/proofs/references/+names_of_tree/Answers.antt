use Rattle.std.proofs.Common.{IfSome, sym, subst, ◌∙◌}
use Rattle.td_incremental.specs.References.{HasNames}
use Rattle.td_incremental.proofs.Naming.{left_named, project_named, where_named}
use Rattle.td_incremental.proofs.references.+names_of_tree.Goals as goal

pub returns-in_ok-copy_names-in-Project : goal.returns-in_ok-copy_names-in-Project
returns-in_ok-copy_names-in-Project t c =
    project_named c.args.catalogue.now c.args.tree.now c.in-Project.field-0 c.in-Project.names c.in_ok-copy_names-in-Project.field-0.items
    c.in-Project.is (c.in_ok-copy_names-in-Project.ensures ∙ c.as_slice.ensures)

pub returns-in-Some : goal.returns-in-Some
returns-in-Some t c =
    where_named c.args.catalogue.now c.args.tree.now c.in-Where.a c.in-Where.field-1 c.get.result.now c.in-Some.names.items c.in-Where.is c.get.ensures
    (subst (λ o. IfSome o (λ v. HasNames c.args.catalogue.now v.items c.get.result.now)) c.in-Some.is c.in_ok-names-in-Where.ensures)

pub returns-in-Some-2 : goal.returns-in-Some-2
returns-in-Some-2 t c =
    left_named c.args.catalogue.now c.args.tree.now c.in-Binary.operator c.in-Binary.a c.in-Binary.field-2 c.get-in-Binary.result.now c.in-Some-2.names.items
    c.in-Binary.is (sym c.has_left_heading.ensures ∙ c.if-not-has_left_heading.false) c.get-in-Binary.ensures
    (subst (λ o. IfSome o (λ v. HasNames c.args.catalogue.now v.items c.get-in-Binary.result.now)) c.in-Some-2.is c.in_ok-names-in-Binary.ensures)
