use Rattle.std.proofs.Common.{[], ◌∷◌, ap, ◌∙◌}
use Rattle.td_semantics.specs.Footprints.{TestReads}
use Rattle.td_typed_trees.specs.declared.expression.Expression.{Expression}
use Rattle.td_assign.proofs.Naming.{added_reads, constraint_reads, key_reads}
use Rattle.td_assign.proofs.names.add_test_reads.Goals as goal

pub returns-in_ok-push-in-Key : goal.returns-in_ok-push-in-Key
returns-in_ok-push-in-Key c = (c.in-Key.relvar ∷ [], c.in_ok-push-in-Key.ensures.items, key_reads c.args.catalogue.now c.args.test.now c.in-Key.relvar _ c.in-Key.is)

pub returns-in-Some : goal.returns-in-Some
returns-in-Some c =
    let k = c.args.catalogue.now in
    let t = c.args.test.now in
    let e = c.in-Some.expr in
    added_reads (TestReads k t) c.args.places.now.items c.add_places.new.places.items e.bases c.as_slice.result.now (c.as_slice.ensures ∙ ap (λ (x : Expression). x.bases) c.get.ensures.same) c.add_places.result c.add_places.ensures
    (constraint_reads k c.requires.defined c.args.place t _ _ c.requires.test c.in-Constraint.is c.in_ok-expr-in-Constraint.field-0 e c.in-Some.is c.in_ok-expr-in-Constraint.ensures)
