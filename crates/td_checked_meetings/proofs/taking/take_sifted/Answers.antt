use Rattle.std.proofs.Common.{sym, subst}
use Rattle.td_meeting.specs.declared.error.MeetingError.{MeetingError}
use Rattle.td_checked_meetings.specs.ForProofs.{NotTaken}
use Rattle.td_checked_meetings.proofs.Told.{received, refused}
use Rattle.td_checked_meetings.proofs.taking.take_sifted.Goals as goal

pub returns-in-Ok-take-clause-ok : goal.returns-in-Ok-take-clause-ok
returns-in-Ok-take-clause-ok g c =
    received (g.R.Replica.seen c.args.site.now) c.args.scope.now c.args.batch.items c.in-Ok.sifted c.deref.result.now (g.R.Replica.seen c.take.new.self) c.requires c.in-Ok.ensures.ok c.deref.ensures.value
    c.in-Ok-take.taken c.in-Ok-take.ensures.takes

pub returns-clause-err : goal.returns-clause-err
returns-clause-err g c =
    let s = g.R.Replica.seen c.args.site.now in
    let after = g.R.Replica.seen c.take.new.self in
    subst (λ (e : MeetingError). NotTaken s c.args.scope.now c.args.batch.items e after) (sym c.not_taken.ensures)
    (refused s c.args.scope.now c.args.batch.items c.in-Ok.sifted c.deref.result.now after c.requires c.in-Ok.ensures.ok c.deref.ensures.value c.in-Err-take.error c.in-Err-take.ensures.takes)
