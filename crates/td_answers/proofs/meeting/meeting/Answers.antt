use Rattle.std.proofs.Common.{◌⊎◌, inl, inr}
use Rattle.td_answers.proofs.Drawing.{goes_before, meets_before, meets_behind}
use Rattle.td_answers.proofs.Staying.{between_apart, stay_apart}
use Rattle.td_answers.proofs.meeting.meeting.Goals as goal

pub returns-then-first-second-clause-meets : goal.returns-then-first-second-clause-meets
returns-then-first-second-clause-meets g c =
    meets_before g.R.Replica.seen c.args.sites.now c.split_at_mut-front.result.0.now c.split_at_mut-front.result.1.now c.args.first c.args.second c.meet.new.first c.meet.new.second c.index-front-first.result c.index-back-0.result c.meet.result
    c.split_at_mut-front.ensures.front c.split_at_mut-front.ensures.back c.if-first-second.true c.requires.first c.requires.second c.meet.ensures.meets

pub returns-else-first-second-clause-meets : goal.returns-else-first-second-clause-meets
returns-else-first-second-clause-meets g c =
    let split = c.split_at_mut-front-else-first-second in
    let met = c.meet-else-first-second in
    meets_behind g.R.Replica.seen c.args.sites.now split.result.0.now split.result.1.now c.args.first c.args.second met.new.first met.new.second c.index-back-0-else-first-second.result c.index-front-second.result met.result
    split.ensures.front split.ensures.back (goes_before c.args.first c.args.second c.requires.two c.if-first-second.false) c.requires.first c.requires.second met.ensures.meets

pub returns-then-first-second-clause-journaled : goal.returns-then-first-second-clause-journaled
returns-then-first-second-clause-journaled g c =
    stay_apart g.R.Replica.journaled c.args.sites.now c.split_at_mut-front.result.0.now c.split_at_mut-front.result.1.now c.args.first c.args.second c.index-front-first.result c.index-back-0.result c.meet.new.first c.meet.new.second
    c.split_at_mut-front.ensures.front c.split_at_mut-front.ensures.back c.if-first-second.true c.requires.second c.meet.ensures.first c.meet.ensures.second

pub returns-else-first-second-clause-journaled : goal.returns-else-first-second-clause-journaled
returns-else-first-second-clause-journaled g c =
    let split = c.split_at_mut-front-else-first-second in
    let met = c.meet-else-first-second in
    stay_apart g.R.Replica.journaled c.args.sites.now split.result.0.now split.result.1.now c.args.second c.args.first c.index-front-second.result c.index-back-0-else-first-second.result met.new.second met.new.first
    split.ensures.front split.ensures.back (goes_before c.args.first c.args.second c.requires.two c.if-first-second.false) c.requires.first met.ensures.second met.ensures.first

either : {A B : Type 0} → A ⊎ B → B ⊎ A
either (inl a) = inr a
either (inr b) = inl b

pub returns-then-first-second-clause-journal : goal.returns-then-first-second-clause-journal
returns-then-first-second-clause-journal g c = λ r is failed.
    between_apart g.R.Replica.failed c.args.sites.now c.split_at_mut-front.result.0.now c.split_at_mut-front.result.1.now c.args.first c.args.second c.index-front-first.result c.index-back-0.result c.meet.new.first c.meet.new.second
    c.split_at_mut-front.ensures.front c.split_at_mut-front.ensures.back c.if-first-second.true c.requires.second (c.meet.ensures.journal r is failed)

pub returns-else-first-second-clause-journal : goal.returns-else-first-second-clause-journal
returns-else-first-second-clause-journal g c = λ r is failed.
    let split = c.split_at_mut-front-else-first-second in
    let met = c.meet-else-first-second in
    between_apart g.R.Replica.failed c.args.sites.now split.result.0.now split.result.1.now c.args.second c.args.first c.index-front-second.result c.index-back-0-else-first-second.result met.new.second met.new.first
    split.ensures.front split.ensures.back (goes_before c.args.first c.args.second c.requires.two c.if-first-second.false) c.requires.first (either (met.ensures.journal r is failed))
