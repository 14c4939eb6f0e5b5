use Rattle.std.proofs.Common.{rules, ◌≡◌, true}
use Rattle.td_checked_meetings.proofs.Stepping.{answers_all, answers_front, answers_none, greets_not}
use Rattle.td_checked_meetings.proofs.steps.answer.Goals as goal

pub returns-in-Err : goal.returns-in-Err
returns-in-Err g c =
    let s = g.R.Replica.seen c.args.site.now in
    let live : s.live ≡ true = search rules in
    answers_none s c.args.scope.now (g.S.Source.left c.args.source.now) (g.S.Source.left c.hear.new.source) (g.K.Sink.held c.args.sink.now) live _ _ c.in-Err.error c.in-Err.ensures.unheard

pub returns-in-Err-put_own : goal.returns-in-Err-put_own
returns-in-Err-put_own g c =
    let s = g.R.Replica.seen c.args.site.now in
    let live : s.live ≡ true = search rules in
    greets_not s c.args.scope.now (g.S.Source.left c.args.source.now) (g.S.Source.left c.hear.new.source) (g.K.Sink.held c.args.sink.now) live c.in-Ok.greeting c.in-Ok.ensures.heard.0
    (g.K.Sink.held c.put_own.new.sink) c.in-Err-put_own.error c.in-Err-put_own.ensures.written

pub returns-in-Ok-send : goal.returns-in-Ok-send
returns-in-Ok-send g c =
    let s = g.R.Replica.seen c.args.site.now in
    let live : s.live ≡ true = search rules in
    answers_all s c.args.scope.now (g.S.Source.left c.args.source.now) (g.S.Source.left c.hear.new.source) (g.K.Sink.held c.args.sink.now) live c.in-Ok.greeting c.in-Ok.ensures.heard.0
    (g.K.Sink.held c.put_own.new.sink) (g.K.Sink.held c.send.new.sink) c.in-Ok-put_own.ensures.written c.in-Ok-send.ensures.bytes c.in-Ok-send.ensures.has

pub returns-in-Err-send : goal.returns-in-Err-send
returns-in-Err-send g c =
    let s = g.R.Replica.seen c.args.site.now in
    let live : s.live ≡ true = search rules in
    answers_front s c.args.scope.now (g.S.Source.left c.args.source.now) (g.S.Source.left c.hear.new.source) (g.K.Sink.held c.args.sink.now) live c.in-Ok.greeting c.in-Ok.ensures.heard.0
    (g.K.Sink.held c.put_own.new.sink) (g.K.Sink.held c.send.new.sink) c.in-Ok-put_own.ensures.written c.in-Err-send.ensures.bytes
