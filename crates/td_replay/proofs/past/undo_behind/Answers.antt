use Rattle.std.proofs.Common.{◌≡◌, ◌+◌, ◌-◌, ℕ, [], sym, subst, ap, ◌∙◌, arith}
use Rattle.td_relvars.specs.Parts.{FitPart, PartData, undone_part}
use Rattle.td_stamps.specs.declared.entry.Entry.{Entry}
use Rattle.td_replay.specs.ForProofs.Past.{AreAt}
use Rattle.td_replay.proofs.Copies.{fits_at, one_less}
use Rattle.td_replay.proofs.past.undo_behind.Goals as goal

-- what stands for an entry that is not read
nobody : Entry
nobody = record { site = 0; seq = 0; clock = 0; dialect = 0; text = [] }

pub loop-left-init : goal.loop-left-init
loop-left-init c = record { within = omega arith; kept = c.requires.kept; at = λ o d es places good each at. at }

pub undo_part-requires : goal.undo_part-requires
undo_part-requires c =
    let q = c.requires.now in
    let l = c.loop-left in
    let log = c.args.log.now in
    let i = l.left - 1 in
    let more = c.loop-left-test.true in
    let within = l.invariant.within in
    let next : l.left ≡ i + 1 = omega (arith, more) in
    let at = subst (λ (n : ℕ). AreAt q.0 q.1 q.2 log q.3 n l.part.copies) next (l.invariant.at q.0 q.1 q.2 q.3 q.4 q.5 q.6) in
    subst (FitPart l.part.copies) (sym c.deref.ensures.value) (fits_at q.0 q.4 q.2 log q.3 i l.part.copies q.5 (omega (arith, more, within)) c.index-log-left.result nobody q.1 at)

pub loop-left-preserved : goal.loop-left-preserved
loop-left-preserved c =
    let l = c.loop-left in
    let log = c.args.log.now in
    let i = l.left - 1 in
    let more = c.loop-left-test.true in
    let within = l.invariant.within in
    let next : l.left ≡ i + 1 = omega (arith, more) in
    let p = c.index-log-left.result in
    let new = c.undo_part.new.part.copies in
    let is = ap (λ (q : PartData). q.copies) c.in_ok-undo_part.ensures ∙ ap (λ ds. undone_part ds l.part.copies) c.deref.ensures.value in
    record {
      within = omega (arith, within);
      kept = omega (arith, more);
      at = λ o d es places good each first.
          let at = subst (λ (n : ℕ). AreAt o d es log places n l.part.copies) next (l.invariant.at o d es places good each first) in
          let here : AreAt o d es log places i new = one_less o good es log places i l.part.copies each (omega (arith, more, within)) p nobody d at new is in
          here;
    }
