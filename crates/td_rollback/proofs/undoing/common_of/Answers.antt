use Rattle.std.proofs.Common.{◌++◌, ◌∷◌, [], get_or, take, sym, ap, ◌∙◌, arith}
use Rattle.std.proofs.lemmas.List.{take_more}
use Rattle.td_stamps.specs.declared.entry.Entry.{Entry as EntryData}
use Rattle.td_stamps.proofs.EntryLemmas.{same-is}
use Rattle.td_rollback.proofs.Members.{has_at}
use Rattle.td_rollback.proofs.undoing.common_of.Goals as goal

pub is_old-requires : goal.is_old-requires
is_old-requires c =
    let i = c.loop-common.common in
    let old = c.args.old.now in
    let new = c.args.new.now in
    (old, new, c.requires, has_at old i c.index-old-common.result c.loop-common-test.true c.index-old-common.is, has_at new i c.index-new-common.result c.if-common-new.true c.index-new-common.is)

pub loop-common-preserved : goal.loop-common-preserved
loop-common-preserved c =
    let l = c.loop-common in
    let i = l.common in
    let x = c.index-old-common.result in
    let y = c.index-new-common.result in
    let in_old = c.loop-common-test.true in
    let in_new = c.if-common-new.true in
    let one = sym (same-is y x (sym c.is_old.ensures ∙ c.if-is_old.true)) in
    record {
      alike = take_more c.args.old.now i x in_old ∙ ap (λ (z : EntryData). take i c.args.old.now ++ z ∷ []) (sym c.index-old-common.is ∙ one ∙ c.index-new-common.is)
          ∙ (λ k. l.invariant.alike k ++ get_or c.args.new.now i y ∷ []) ∙ sym (take_more c.args.new.now i y in_new);
      in_old = omega (arith, in_old);
      in_new = omega (arith, in_new);
    }
