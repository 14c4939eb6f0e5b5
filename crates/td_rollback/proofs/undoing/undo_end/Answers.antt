use Rattle.std.proofs.Common.{◌≡◌, ◌≤◌, ◌<◌, ◌+◌, ◌-◌, ℕ, [], length, drop, take, refl, sym, subst, ◌∙◌, arith}
use Rattle.std.proofs.lemmas.List.{drop_all, take_all}
use Rattle.td_stamps.specs.declared.entry.Entry.{Entry as EntryData}
use Rattle.td_stamps.specs.History.{History, nothing_ran}
use Rattle.td_rollback.specs.ForProofs.Ways.{way_of}
use Rattle.td_rollback.proofs.Ends as ends
use Rattle.td_rollback.proofs.undoing.undo_end.Goals as goal

-- what stands for an entry that is not read
nobody : EntryData
nobody = record { site = 0; seq = 0; clock = 0; dialect = 0; text = [] }

pub loop-left-init : goal.loop-left-init
loop-left-init g c =
    let old = c.args.old.now in
    let log = c.args.log.now in
    let n = length old in
    let each = c.requires.each in
    let goes = g.met.M.Machine.goes (g.M.Machine.origin c.args.machine.now) in
    record {
      within = omega arith;
      kept = c.requires.kept;
      front = λ o begun. rw (take_all n old (omega arith), take_all n log (omega (arith, each))) begun;
      behind = rw (drop_all n old (omega arith), drop_all n log (omega (arith, each))) nothing_ran;
      elsewhere = λ k never. goes.alike_self c.args.machine.now k;
      origin = refl;
    }

pub undo-requires : goal.undo-requires
undo-requires g c =
    let m = g.M.Machine in
    let l = c.loop-left in
    let old = c.args.old.now in
    let log = c.args.log.now in
    let origin = m.origin c.args.machine.now in
    let w = way_of m.sound m.steps m.alike m.origin m.footprint m.targets m.footprint_in m.targets_in g.met.M.Machine.goes origin in
    let first = c.requires.history.0 in
    let begun = c.requires.history.1 in
    let good : w.Sound first = (begun.sound, begun.origin_is) in
    let i = l.left - 1 in
    let test = c.loop-left-test.true in
    let within = l.invariant.within in
    let each = c.requires.each in
    let next : l.left ≡ i + 1 = omega (arith, test) in
    let history = subst (λ (n : ℕ). History m.steps first (take n old) (take n log) l.machine) next (l.invariant.front first begun).history in
    let in_old : i < length old = omega (arith, test, within) in
    let in_log : i < length log = omega (arith, test, within, each) in
    let off = ends.off w first good old log i c.index-log-left.result nobody in_old in_log l.machine history in
    let sound = ends.off_sound w first good old log i c.index-log-left.result nobody in_old in_log l.machine history in
    (off.state, ends.e w first good old log i c.index-log-left.result nobody in_old in_log l.machine history, sound.0, off.step)

pub loop-left-preserved : goal.loop-left-preserved
loop-left-preserved g c =
    let m = g.M.Machine in
    let l = c.loop-left in
    let old = c.args.old.now in
    let log = c.args.log.now in
    let origin = m.origin c.args.machine.now in
    let w = way_of m.sound m.steps m.alike m.origin m.footprint m.targets m.footprint_in m.targets_in g.met.M.Machine.goes origin in
    let first = c.requires.history.0 in
    let begun = c.requires.history.1 in
    let good : w.Sound first = (begun.sound, begun.origin_is) in
    let i = l.left - 1 in
    let test = c.loop-left-test.true in
    let within = l.invariant.within in
    let each = c.requires.each in
    let next : l.left ≡ i + 1 = omega (arith, test) in
    let history = subst (λ (n : ℕ). History m.steps first (take n old) (take n log) l.machine) next (l.invariant.front first begun).history in
    let rest = subst (λ (n : ℕ). History m.steps l.machine (drop n old) (drop n log) c.args.machine.now) next l.invariant.behind in
    let in_old : i < length old = omega (arith, test, within) in
    let in_log : i < length log = omega (arith, test, within, each) in
    let kept : c.args.kept ≤ i = omega (arith, test) in
    let off = ends.off w first good old log i c.index-log-left.result nobody in_old in_log l.machine history in
    let sound = ends.off_sound w first good old log i c.index-log-left.result nobody in_old in_log l.machine history in
    let is = c.in_ok-undo.ensures.before off.state (ends.e w first good old log i c.index-log-left.result nobody in_old in_log l.machine history) sound.0 off.step in
    record {
      within = omega (arith, within);
      kept = kept;
      front = λ o b.
          let fine : w.Sound o = (b.sound, b.origin_is) in
          let told = subst (λ (n : ℕ). History m.steps o (take n old) (take n log) l.machine) next (l.invariant.front o b).history in
          let less = ends.off w o fine old log i c.index-log-left.result nobody in_old in_log l.machine told in
          let good_too = ends.off_sound w o fine old log i c.index-log-left.result nobody in_old in_log l.machine told in
          let same = c.in_ok-undo.ensures.before less.state (ends.e w o fine old log i c.index-log-left.result nobody in_old in_log l.machine told) good_too.0 less.step in
          record { sound = b.sound; origin_is = b.origin_is ∙ sym (c.undo.ensures.origin ∙ l.invariant.origin); history = rw same less.history };
      behind = rw is (ends.off_behind w first good old log i c.index-log-left.result nobody in_old in_log l.machine history c.args.machine.now rest);
      elsewhere = ends.off_elsewhere w first good old log i c.index-log-left.result nobody in_old in_log l.machine history c.args.kept kept c.args.machine.now c.undo.new.self l.invariant.elsewhere c.undo.ensures.elsewhere;
      origin = c.undo.ensures.origin ∙ l.invariant.origin;
    }

pub returns-in_err-undo-clause-elsewhere : goal.returns-in_err-undo-clause-elsewhere
returns-in_err-undo-clause-elsewhere g c =
    let m = g.M.Machine in
    let l = c.loop-left in
    let old = c.args.old.now in
    let log = c.args.log.now in
    let origin = m.origin c.args.machine.now in
    let w = way_of m.sound m.steps m.alike m.origin m.footprint m.targets m.footprint_in m.targets_in g.met.M.Machine.goes origin in
    let first = c.requires.history.0 in
    let begun = c.requires.history.1 in
    let good : w.Sound first = (begun.sound, begun.origin_is) in
    let i = l.left - 1 in
    let test = c.loop-left-test.true in
    let within = l.invariant.within in
    let each = c.requires.each in
    let next : l.left ≡ i + 1 = omega (arith, test) in
    let history = subst (λ (n : ℕ). History m.steps first (take n old) (take n log) l.machine) next (l.invariant.front first begun).history in
    let in_old : i < length old = omega (arith, test, within) in
    let in_log : i < length log = omega (arith, test, within, each) in
    let kept : c.args.kept ≤ i = omega (arith, test) in
    ends.off_elsewhere w first good old log i c.index-log-left.result nobody in_old in_log l.machine history c.args.kept kept c.args.machine.now c.undo.new.self l.invariant.elsewhere c.undo.ensures.elsewhere
