use Rattle.std.proofs.Common.{ap, ◌∙◌, rules}
use Rattle.td_semantics.specs.Footprints.{TestReads}
use Rattle.td_typed_trees.specs.declared.expression.Expression.{Expression}
use Rattle.td_assign.proofs.Naming.{constraint_reads, meets_read, no_target_read}
use Rattle.td_assign.proofs.names.reads_target.Goals as goal

pub returns-then-not-may_read_any : goal.returns-then-not-may_read_any
returns-then-not-may_read_any c =
    no_target_read c.args.catalogue.now c.args.targets.now c.args.place c.args.test.now _ _ c.requires.test c.in-Constraint.is (c.may_read_any.ensures (search rules))

pub returns-in-Some : goal.returns-in-Some
returns-in-Some c =
    let k = c.args.catalogue.now in
    let t = c.args.test.now in
    let e = c.in-Some.expr in
    meets_read (TestReads k t) c.args.targets.now c.meets.result c.as_slice.result.now e.bases (c.as_slice.ensures ∙ ap (λ (x : Expression). x.bases) c.get.ensures.same) c.meets.ensures
    (constraint_reads k c.requires.defined c.args.place t _ _ c.requires.test c.in-Constraint.is c.in_ok-expr-in-Constraint.field-0 e c.in-Some.is c.in_ok-expr-in-Constraint.ensures)
