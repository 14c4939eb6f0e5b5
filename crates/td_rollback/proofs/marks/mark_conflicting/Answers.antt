use Rattle.std.proofs.Common.{◌<◌, ◌++◌, [], ◌∷◌, Bool, List, get_or, length, sym, subst, arith}
use Rattle.td_stamps.specs.declared.entry.Entry.{Entry}
use Rattle.td_rollback.specs.ForProofs.Marked.{MarkConflicts}
use Rattle.td_rollback.specs.ForProofs.Ways.{way_of}
use Rattle.td_rollback.proofs.Conflicting.{all_marks, one_mark}
use Rattle.td_rollback.proofs.Ends.{step_at}
use Rattle.td_rollback.proofs.marks.mark_conflicting.Goals as goal

pub conflicts-requires : goal.conflicts-requires
conflicts-requires g c =
    let m = g.M.Machine in
    let o = m.origin c.args.machine.now in
    let w = way_of m.sound m.steps m.alike m.origin m.footprint m.targets m.footprint_in m.targets_in g.met.M.Machine.goes o in
    let b = c.requires.history.1 in
    let good : w.Sound c.requires.history.0 = (b.sound, b.origin_is) in
    let at = c.loop-at.at in
    let e = c.index-old-at.result in
    let p = c.index-log-at.result in
    let in_old : at < length c.args.old.now = c.loop-at-test.true in
    let each = c.requires.each in
    let k = step_at w c.requires.history.0 good c.args.old.now c.args.log.now c.args.machine.now b.history at p e in_old (omega (arith, in_old, each)) in
    (k.0, k.1, k.2.0, k.2.1, subst (λ (x : Entry). m.steps k.0 x (get_or c.args.log.now at p).1 k.1) (sym c.index-old-at.is) k.3)

pub loop-at-preserved : goal.loop-at-preserved
loop-at-preserved g c =
    let m = g.M.Machine in
    let o = m.origin c.args.machine.now in
    let l = c.loop-at in
    let is = c.in_ok-is_marked.ensures in
    let bs = l.marks.items in
    let old = c.args.old.now in
    let b = c.in_ok-is_marked.is_marked in
    let next = one_mark (m.commute o) (m.covers o c.args.accesses.now) (m.covers o l.accesses) (m.covers o c.conflicts.new.accesses) bs old l.at c.index-old-at.result b c.loop-at-test.true c.index-old-at.is is.kept is.commutes is.covered l.invariant in
    λ rest behind. subst (λ (xs : List Bool). MarkConflicts (m.commute o) (m.covers o c.args.accesses.now) (xs ++ rest) old) {x = bs ++ b ∷ []} (sym c.in_ok-push.ensures.items) (next rest behind)

pub returns : goal.returns
returns g c =
    let m = g.M.Machine in
    let o = m.origin c.args.machine.now in
    let l = c.loop-at in
    let end = c.loop-at-test.false in
    all_marks (m.commute o) (m.covers o c.args.accesses.now) (m.covers o l.accesses) l.marks.items l.at c.args.old.now (omega (arith, end)) l.invariant
