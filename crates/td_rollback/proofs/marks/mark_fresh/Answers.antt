use Rattle.std.proofs.Common.{◌≡◌, ◌<◌, ◌∷◌, [], false, length, length-append, ap, sym, subst, ◌∙◌, ◌-◌, ◌++◌, replicate, vec_len, Bool, List, arith, drop}
use Rattle.std.proofs.lemmas.List.{take_all}
use Rattle.td_stamps.specs.Sets.{has}
use Rattle.td_stamps.specs.declared.entry.Entry.{Entry}
use Rattle.td_rollback.specs.Parts.{marked}
use Rattle.td_rollback.specs.ForProofs.Marked.{AreFlagged}
use Rattle.td_rollback.proofs.Flagging as flagging
use Rattle.td_rollback.proofs.Members.{has_at}
use Rattle.td_rollback.proofs.marks.mark_fresh.Goals.{then-at-old+then-is_old+in_ok-push, else-at-old+in_ok-copy+in_ok-push-2+in_ok-push-3, else-at-old-via-then-at-old+else-is_old, else-at-old-via-else-at-old}
use Rattle.td_rollback.proofs.marks.mark_fresh.Goals as goal

pub is_old-requires : goal.is_old-requires
is_old-requires c =
    let l = c.loop-at in
    let old = c.args.old.now in
    let new = c.args.new.now in
    let left = c.loop-at-test.true in
    (old, new, c.requires, has_at old l.at c.index-old-at.result c.if-at-old.true c.index-old-at.is, has_at new l.passed c.index-new-passed.result (omega (arith, left)) c.index-new-passed.is)

pub loop-at-preserved : goal.loop-at-preserved
loop-at-preserved c =
    let l = c.loop-at in
    let i = l.invariant in
    let old = c.args.old.now in
    let new = c.args.new.now in
    let e = c.index-new-passed.result in
    let left = c.loop-at-test.true in
    let lt : l.passed < length new = omega (arith, left) in
    let is = c.index-new-passed.is in
    let within = i.in_old in
    let each = i.each in
    elim c.if-at-old.branch [
      | then-at-old+then-is_old+in_ok-push k ↦
          let y = k.index-old-at.result in
          let one = sym k.is_old.ensures ∙ k.if-is_old.true in
          let items = ap (λ v. v.items) k.flags-is ∙ k.in_ok-push.ensures.items in
          let fresh = ap (λ v. v.items) k.fresh-is in
          let at = k.at-is in
          let in_old = k.if-at-old.true in
          record {
            in_old = omega (arith, at, in_old);
            in_new = omega (arith, lt);
            each = ap length items ∙ length-append l.flags.items _ ∙ omega (arith, each);
            more = rw k.at-is (flagging.old_more old new l.at l.passed l.flags.items e lt is i.more i.flagged y in_old k.index-old-at.is one);
            flagged = rw (k.at-is, items) (flagging.old_flagged old new l.at l.passed l.flags.items e lt is i.more i.flagged y in_old k.index-old-at.is one);
            chosen = rw (items, fresh) (flagging.old_chosen new l.passed e lt is l.flags.items l.fresh.items i.chosen);
          }
      | else-at-old+in_ok-copy+in_ok-push-2+in_ok-push-3 k ↦
          let lacks : has (drop l.at old) e ≡ false = elim k.else-at-old.branch [
            | else-at-old-via-then-at-old+else-is_old j ↦ flagging.lacks_other old new l.at l.passed l.flags.items e lt is i.more i.flagged j.index-old-at.result j.if-at-old.true j.index-old-at.is (sym j.is_old.ensures ∙ j.if-is_old.false)
            | else-at-old-via-else-at-old j ↦ flagging.lacks_end old new l.at l.passed l.flags.items e lt is i.more i.flagged (let end = j.if-at-old.false in omega (arith, end))
          ] in
          let items = ap (λ v. v.items) k.flags-is ∙ k.in_ok-push-3.ensures.items in
          let fresh = ap (λ v. v.items) k.fresh-is ∙ k.in_ok-push-2.ensures.items ∙ ap (λ (x : Entry). l.fresh.items ++ x ∷ []) k.in_ok-copy.ensures in
          let at = k.at-is in
          record {
            in_old = omega (arith, at, within);
            in_new = omega (arith, lt);
            each = ap length items ∙ length-append l.flags.items _ ∙ omega (arith, each);
            more = rw k.at-is (flagging.new_more old new l.at l.passed l.flags.items e lt is i.more i.flagged lacks);
            flagged = rw (k.at-is, items) (flagging.new_flagged old new l.at l.passed l.flags.items e lt is i.more i.flagged lacks);
            chosen = rw (items, fresh) (flagging.new_chosen new l.passed e lt is l.flags.items l.fresh.items i.chosen);
          }
    ]

pub returns : goal.returns
returns c =
    let l = c.loop-at in
    let i = l.invariant in
    let old = c.args.old.now in
    let new = c.args.new.now in
    let end = c.loop-at-test.false in
    let each = i.each in
    let in_new = i.in_new in
    let n = length new - vec_len l.flags in
    let ok = l.flags.ok.0 in
    let many : n ≡ length new - l.passed = omega (arith, each, ok) in
    let items : c.resize.new.self.items ≡ l.flags.items ++ replicate n false =
    c.in_ok-resize.ensures.items ∙ ap (λ (fl : List Bool). fl ++ replicate n false) (take_all (length new) l.flags.items (omega (arith, each, in_new))) in
    record {
      flags = subst (λ (fl : List Bool). AreFlagged old fl new) (sym items) (flagging.flagged_end old new l.at l.passed n l.flags.items many i.more (omega (arith, end)) i.flagged);
      entries = flagging.chosen_end new l.passed n l.flags.items l.fresh.items i.chosen ∙ ap (λ (fl : List Bool). marked fl new) (sym items);
    }
