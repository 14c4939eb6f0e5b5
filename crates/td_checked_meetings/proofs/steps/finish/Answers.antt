use Rattle.std.proofs.Common.{rules, ◌≡◌, true}
use Rattle.td_checked_meetings.proofs.Stepping.{finishes}
use Rattle.td_checked_meetings.proofs.steps.finish.Goals as goal

pub returns-clause-finished : goal.returns-clause-finished
returns-clause-finished g c =
    let s = g.R.Replica.seen c.args.site.now in
    let live : s.live ≡ true = search rules in
    finishes s c.args.scope.now (g.S.Source.left c.args.source.now) (g.S.Source.left c.receive.new.source) c.receive.result (g.R.Replica.seen c.receive.new.site) live c.receive.ensures.ok c.receive.ensures.err
