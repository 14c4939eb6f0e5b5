use Rattle.std.proofs.Common.{◌<◌, ◌≤◌, List, length, subst}
use Rattle.td_accesses.specs.declared.dependencies.RelvarDependencies.{RelvarDependencies}
use Rattle.td_accesses.proofs.Depending.{none_tells, set_grown, set_tells}
use Rattle.td_accesses.proofs.dependencies.add_constraint_at.Goals as goal

pub returns-in_ok-add_constraint_of-clause-kept : goal.returns-in_ok-add_constraint_of-clause-kept
returns-in_ok-add_constraint_of-clause-kept c =
    let lt = subst (λ (xs : List RelvarDependencies). c.args.relvar < length xs) c.as_slice.ensures.value c.if-relvar-as_slice.true in
    set_grown c.args.all.now.items c.args.relvar c.index_mut.result.now c.add_constraint_of.new.dependencies lt c.index_mut.ensures.value c.in_ok-add_constraint_of.ensures.kept

pub returns-in_ok-add_constraint_of-clause-told : goal.returns-in_ok-add_constraint_of-clause-told
returns-in_ok-add_constraint_of-clause-told c =
    let lt = subst (λ (xs : List RelvarDependencies). c.args.relvar < length xs) c.as_slice.ensures.value c.if-relvar-as_slice.true in
    set_tells c.args.all.now.items c.args.relvar c.index_mut.result.now c.add_constraint_of.new.dependencies lt c.index_mut.ensures.value c.args.catalogue.now c.args.expr.now.tree c.in_ok-add_constraint_of.ensures.told

pub returns-else-relvar-as_slice-clause-told : goal.returns-else-relvar-as_slice-clause-told
returns-else-relvar-as_slice-clause-told c =
    none_tells c.args.catalogue.now c.args.expr.now.tree c.args.all.now.items c.args.relvar (subst (λ (xs : List RelvarDependencies). length xs ≤ c.args.relvar) c.as_slice.ensures.value c.if-relvar-as_slice.false)
