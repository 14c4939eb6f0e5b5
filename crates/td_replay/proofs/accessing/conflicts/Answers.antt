use Rattle.std.proofs.Common.{◌∙◌}
use Rattle.std.proofs.lemmas.Result.{IfOk-weaker}
use Rattle.td_replay.proofs.Recorded.{inserts_of, lent_footprint, lent_targets, within_slices}
use Rattle.td_replay.proofs.accessing.conflicts.Goals as goal

pub returns-in-Some : goal.returns-in-Some
returns-in-Some c =
    let r = c.args.ran.now in
    IfOk-weaker c.conflict.result _ _
    (λ b told none z are k l a b' covers kept.
    told none z are k l a b' covers
    (within_slices z l b' c.deref.result.now c.deref-in-Some.result.now r.names.footprint.items r.names.targets.items (c.deref.ensures.value ∙ lent_footprint c.get-names.result.now r.names c.get-names.ensures) (c.deref-in-Some.ensures.value ∙ lent_targets c.get-names.result.now r.names c.get-names.ensures) kept.within)
    (inserts_of z l b' r c.in-Some.relvar c.in-Some.tuples.now kept c.in-Some.ensures))
    c.conflict.ensures

pub returns-in-None : goal.returns-in-None
returns-in-None c =
    let r = c.args.ran.now in
    IfOk-weaker c.conflict-in-None.result _ _
    (λ b told none z are k l a b' covers kept.
    told none z are k l a b' covers
    (within_slices z l b' c.deref-in-None.result.now c.deref-in-None-2.result.now r.names.footprint.items r.names.targets.items (c.deref-in-None.ensures.value ∙ lent_footprint c.get-names.result.now r.names c.get-names.ensures) (c.deref-in-None-2.ensures.value ∙ lent_targets c.get-names.result.now r.names c.get-names.ensures) kept.within)
    tt)
    c.conflict-in-None.ensures
