use Rattle.std.proofs.Common.{◌≡◌, ◌<◌, ℕ, List, get_or, length, arith, subst, sym, inr}
use Rattle.std.specs.List.{Contains}
use Rattle.std.proofs.lemmas.List.{get_or_default, take_all}
use Rattle.td_stamps.specs.declared.entry.Entry.{Entry}
use Rattle.td_stamps.specs.declared.entry.Stamp.{Stamp}
use Rattle.td_rollback.specs.Touched.{IsTargetOf}
use Rattle.td_rollback.specs.ForProofs.Ways.{way_of}
use Rattle.td_rollback.proofs.Ends as ends
use Rattle.td_rollback.proofs.Members.{targets_more}
use Rattle.td_rollback.proofs.replaying.places_beside.Goals as goal

pub loop-record-preserved : goal.loop-record-preserved
loop-record-preserved g c =
    let m = g.M.Machine in
    let l = c.loop-record in
    let old = c.args.old.now in
    let log = c.args.log.now in
    let origin = m.origin c.args.machine.now in
    let w = way_of m.sound m.steps m.alike m.origin m.footprint m.targets m.footprint_in m.targets_in g.met.M.Machine.goes origin in
    let begun = c.requires.history.1 in
    let good : w.Sound c.requires.history.0 = (begun.sound, begun.origin_is) in
    let p = c.record-item.result in
    let each = c.requires.each in
    let in_log : l.record-index < length log = c.loop-record-test.true in
    let in_old : l.record-index < length old = omega (arith, in_log, each) in
    record {
      old = λ n h.
          let y = h.0 in
          let e = get_or old l.record-index y in
          let is : e ≡ get_or old l.record-index e = get_or_default old l.record-index y e in_old in
          let are = ends.targets_at w c.requires.history.0 good old log c.args.machine.now begun.history l.record-index p y in_old in_log in
          let named = λ (k : ℕ) (t : m.targets origin e k). subst (λ (ns : List ℕ). Contains ns k) (sym c.targets_of.ensures) (subst (λ (q : Stamp × g.row.M-Record.Denot). Contains (m.targets_in q.1) k) (sym c.record-item.is) ((are k).1 t)) in
          targets_more (m.targets origin) old l.record-index e in_old is c.targets_of.result.now l.places.items c.add.new.names.items named l.invariant.old c.in_ok-add.ensures n h;
      fresh = λ n h. (c.in_ok-add.ensures n).1 (inr (l.invariant.fresh n h));
    }

pub returns-clause-old : goal.returns-clause-old
returns-clause-old g c =
    let m = g.M.Machine in
    let l = c.loop-record in
    let each = c.requires.each in
    let end = c.loop-record-test.false in
    subst (λ (es : List Entry). (n : ℕ) → IsTargetOf (m.targets (m.origin c.args.machine.now)) es n → Contains l.places.items n) (take_all l.record-index c.args.old.now (omega (arith, end, each))) l.invariant.old
