use Rattle.std.proofs.Common.{arith}
use Rattle.td_replay.specs.Noted.{opened_by}
use Rattle.td_replay.proofs.Anew.{nothing, run_all_anew}
use Rattle.td_replay.proofs.told.Told.tell_more.Goals as goal

pub tell_all-requires : goal.tell_all-requires
tell_all-requires c = (opened_by c.args.self.now.engine.catalogue, c.requires.logged.opens)

pub replay-requires-clause-logged : goal.replay-requires-clause-logged
replay-requires-clause-logged c = (c.args.script.now, c.requires.logged)

pub returns-in_err-self-in-Replay-clause-counted : goal.returns-in_err-self-in-Replay-clause-counted
returns-in_err-self-in-Replay-clause-counted c = λ is n runs.
    let none = nothing c.args.old.now c.if-is_empty.ensures in
    let all = run_all_anew (opened_by c.args.self.now.engine.catalogue) c.args.old.now c.args.new.now n none runs in
    let counted = c.in_err-self-in-Replay.ensures.counted in
    omega (arith, all, counted)

pub returns-in_ok-self-in-Replay-clause-counted : goal.returns-in_ok-self-in-Replay-clause-counted
returns-in_ok-self-in-Replay-clause-counted c = λ is n runs.
    let none = nothing c.args.old.now c.if-is_empty.ensures in
    let all = run_all_anew (opened_by c.args.self.now.engine.catalogue) c.args.old.now c.args.new.now n none runs in
    let counted = c.in_ok-self-in-Replay.ensures.counted in
    omega (arith, all, counted)

pub returns-in_ok-replay-in-Replay-2-clause-logged : goal.returns-in_ok-replay-in-Replay-2-clause-logged
returns-in_ok-replay-in-Replay-2-clause-logged c = c.in_ok-replay-in-Replay-2.ensures.logged c.args.script.now c.requires.logged
