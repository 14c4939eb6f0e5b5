use Rattle.std.proofs.Common.{◌<◌, ◌≤◌, ℕ, List, length, sym, subst, ◌∙◌}
use Rattle.td_meeting.proofs.Sound.{script_is_short}
use Rattle.td_checked_meetings.proofs.Kept.{few_sites, own_written}
use Rattle.td_checked_meetings.proofs.sending.put_own.Goals as goal

pub put_greeting-requires-clause-script : goal.put_greeting-requires-clause-script
put_greeting-requires-clause-script g c = subst (λ (l : List ℕ). length l ≤ 65536) (sym c.script.ensures) (script_is_short (g.R.Replica.seen c.args.site.now) c.site.ensures.sound)

pub put_greeting-requires-clause-places : goal.put_greeting-requires-clause-places
put_greeting-requires-clause-places g c =
    subst (λ (l : List (ℕ × ℕ)). length l < 65536) (sym c.deref.ensures.value) (few_sites c.args.scope.now.vector c.in-Ok.places.items c.in-Ok.ensures.entries c.in-Ok.ensures.from_one c.in-Ok.ensures.fit)

pub returns-in-Ok-put_greeting-clause-written : goal.returns-in-Ok-put_greeting-clause-written
returns-in-Ok-put_greeting-clause-written g c =
    own_written (g.R.Replica.seen c.args.site.now) c.args.scope.now (g.K.Sink.held c.args.sink.now) (g.K.Sink.held c.put_greeting.new.sink) c.site.result c.script.result.now c.deref.result.now
    c.site.ensures.number c.script.ensures (c.deref.ensures.value ∙ c.in-Ok.ensures.entries) c.in-Ok-put_greeting.ensures.bytes
