use Rattle.std.proofs.Common.{List, subst}
use Rattle.std.specs.List.{All}
use Rattle.std.proofs.lemmas.Result.{IfOk-weaker}
use Rattle.td_algebra.specs.KeyIndexes.{KeyIndexData}
use Rattle.td_incremental.specs.declared.references.Reference.{Reference}
use Rattle.td_accesses.specs.ForProofs.Growing.{IsElsewhere}
use Rattle.td_accesses.proofs.Parting.{besides}
use Rattle.td_accesses.proofs.accesses.is_beside.Goals as goal

pub returns : goal.returns
returns c =
    let n = c.args.relvar in
    let s = c.args.relation.now in
    let g = c.args.insertions.now in
    let own = c.in-Some-Some.own.now in
    let others = c.in-Some-Some.others.now in
    let one = subst (λ (xs : List KeyIndexData). All (IsElsewhere g.relvar xs s) own.references.items) c.deref-2.ensures.value
    (subst (λ (rs : List Reference). All (IsElsewhere g.relvar c.deref-2.result.now s) rs) c.deref.ensures.value (c.in_ok-refer_elsewhere.ensures c.if-not-branch.false)) in
    IfOk-weaker c.refer_elsewhere-2.result _ _
    (λ b told is.
    besides c.args.dependencies.now.relvars.items n s g own others c.in-Some-Some.ensures c.in-Some-Some.ensures' c.if-not-own.false c.if-not-others.false
    (c.binds.ensures c.if-binds.false) (c.binds-else-binds.ensures c.if-binds-2.false) one
    (subst (λ (xs : List KeyIndexData). All (IsElsewhere n xs s) others.references.items) c.deref-4.ensures.value
    (subst (λ (rs : List Reference). All (IsElsewhere n c.deref-4.result.now s) rs) c.deref-3.ensures.value (told is))))
    c.refer_elsewhere-2.ensures
