use Rattle.std.proofs.Common.{rules, ◌≡◌, true}
use Rattle.td_checked_meetings.proofs.Stepping.{receives_not, settles_all, settles_front, settles_none}
use Rattle.td_checked_meetings.proofs.steps.settle.Goals as goal

pub returns-in-Err-clause-settled : goal.returns-in-Err-clause-settled
returns-in-Err-clause-settled g c =
    let s = g.R.Replica.seen c.args.site.now in
    let live : s.live ≡ true = search rules in
    settles_none s c.args.scope.now (g.S.Source.left c.args.source.now) (g.S.Source.left c.hear.new.source) (g.K.Sink.held c.args.sink.now) live _ _ c.in-Err.error c.in-Err.ensures.unheard

pub returns-in-Err-receive-clause-settled : goal.returns-in-Err-receive-clause-settled
returns-in-Err-receive-clause-settled g c =
    let s = g.R.Replica.seen c.args.site.now in
    let live : s.live ≡ true = search rules in
    receives_not s c.args.scope.now (g.S.Source.left c.args.source.now) (g.S.Source.left c.hear.new.source) (g.S.Source.left c.receive.new.source) (g.K.Sink.held c.args.sink.now) (g.R.Replica.seen c.receive.new.site) live
    c.in-Ok.greeting c.in-Ok.ensures.heard.0 c.in-Err-receive.error c.in-Err-receive.ensures.err

pub returns-in-Ok-send-clause-settled : goal.returns-in-Ok-send-clause-settled
returns-in-Ok-send-clause-settled g c =
    let s = g.R.Replica.seen c.args.site.now in
    let live : s.live ≡ true = search rules in
    settles_all s c.args.scope.now (g.S.Source.left c.args.source.now) (g.S.Source.left c.hear.new.source) (g.S.Source.left c.receive.new.source) (g.K.Sink.held c.args.sink.now) (g.R.Replica.seen c.receive.new.site) live
    c.in-Ok.greeting c.in-Ok.ensures.heard.0 c.in-Ok-receive.received (g.K.Sink.held c.send.new.sink) c.in-Ok-receive.ensures.ok c.in-Ok-send.ensures.bytes c.in-Ok-send.ensures.has

pub returns-clause-settled : goal.returns-clause-settled
returns-clause-settled g c =
    let s = g.R.Replica.seen c.args.site.now in
    let live : s.live ≡ true = search rules in
    settles_front s c.args.scope.now (g.S.Source.left c.args.source.now) (g.S.Source.left c.hear.new.source) (g.S.Source.left c.receive.new.source) (g.K.Sink.held c.args.sink.now) (g.R.Replica.seen c.receive.new.site) live
    c.in-Ok.greeting c.in-Ok.ensures.heard.0 c.in-Ok-receive.received (g.K.Sink.held c.send.new.sink) c.in-Ok-receive.ensures.ok c.in-Err-send.ensures.bytes
