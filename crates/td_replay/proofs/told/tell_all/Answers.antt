use Rattle.std.proofs.Common.{List, subst, arith, take}
use Rattle.std.proofs.lemmas.List.{take_all}
use Rattle.td_stamps.specs.declared.entry.Entry.{Entry}
use Rattle.td_replay.specs.ForProofs.Told.{IsLogged}
use Rattle.td_replay.proofs.Telling.{logged_sound, walked}
use Rattle.td_replay.proofs.told.tell_all.Goals as goal

pub loop-entry-init : goal.loop-entry-init
loop-entry-init c = record {
  logged = c.in_ok-told.ensures c.args.script.now c.in_ok-open_database.ensures.opens;
  counted = omega arith;
}

pub run_next-requires : goal.run_next-requires
run_next-requires c =
    let l = c.loop-entry in
    logged_sound c.args.script.now (take l.entry-index c.args.entries.now) l.told.log.items l.told.engine l.invariant.logged

pub loop-entry-preserved : goal.loop-entry-preserved
loop-entry-preserved c =
    let l = c.loop-entry in
    let e = c.entry-item in
    let next = c.run_next.new.self in
    let more = c.run_next.ensures.counted in
    let before = l.invariant.counted in
    record {
      logged = walked c.args.script.now c.args.entries.now l.entry-index e.result l.told.log.items next.log.items l.told.engine next.engine c.loop-entry-test.true e.is l.invariant.logged c.in_ok-run_next.ensures.ran;
      counted = omega (arith, more, before);
    }

pub returns-clause-told : goal.returns-clause-told
returns-clause-told c =
    let l = c.loop-entry in
    subst (λ (es : List Entry). IsLogged c.args.script.now es l.told.log.items l.told.engine) (take_all l.entry-index c.args.entries.now (omega arith)) l.invariant.logged
