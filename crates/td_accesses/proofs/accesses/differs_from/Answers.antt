use Rattle.std.proofs.Common.{List, subst}
use Rattle.std.specs.List.{All}
use Rattle.std.proofs.lemmas.Result.{IfOk-weaker}
use Rattle.td_algebra.specs.KeyIndexes.{KeyIndexData}
use Rattle.td_accesses.specs.ForProofs.Growing.{LacksParts}
use Rattle.td_accesses.proofs.Parting.{clears, differs, stands_beside}
use Rattle.td_accesses.proofs.accesses.differs_from.Goals as goal

pub returns-then-insertions-relvar : goal.returns-then-insertions-relvar
returns-then-insertions-relvar c = λ lack.
    let s = c.args.relation.now in
    differs c.args.dependencies.now.relvars.items c.args.reads.now c.args.writes.now c.args.relvar s c.args.insertions.now c.if-insertions-relvar.true
    (subst (λ (xs : List KeyIndexData). All (LacksParts s) xs) c.deref.ensures.value (c.all_differ.ensures lack))

pub returns-then-is_clear_of : goal.returns-then-is_clear_of
returns-then-is_clear_of c = λ _. clears c.args.dependencies.now.relvars.items c.args.reads.now c.args.writes.now c.args.relvar c.args.relation.now c.args.insertions.now (c.is_clear_of.ensures c.if-is_clear_of.true)

pub returns : goal.returns
returns c =
    IfOk-weaker c.is_beside.result _ _
    (λ b told is. stands_beside c.args.dependencies.now.relvars.items c.args.reads.now c.args.writes.now c.args.relvar c.args.relation.now c.args.insertions.now c.if-insertions-relvar.false (told is))
    c.is_beside.ensures
