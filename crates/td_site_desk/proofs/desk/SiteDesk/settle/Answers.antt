use Rattle.std.proofs.Common.{◌≡◌, ℕ, List, Result, inl}
use Rattle.td_checked_meetings.specs.declared.scope.MeetingScope.{MeetingScope}
use Rattle.td_checked_meetings.specs.declared.taking.Received.{Received}
use Rattle.td_event_loop.specs.declared.meets.StepResult.{StepResult}
use Rattle.td_meeting.specs.declared.error.MeetingError.{MeetingError}
use Rattle.td_replica.specs.Seen.{Seen}
use Rattle.td_site_desk.specs.Meetings.{Settles, SettlesBytes, step_after}
use Rattle.td_site_desk.proofs.desk.SiteDesk.settle.Goals as goal

-- what stands before the step and after it keeps the site
settled : (old before after noted new : Seen) (scope : MeetingScope) (reply : List ℕ) (result : Result Received MeetingError) (told : StepResult)
    → before ≡ old → SettlesBytes before scope reply result after → noted ≡ after → new ≡ noted → told ≡ step_after result
    → Settles old reply told new
settled old before after noted new scope reply result told begins settles notes ends next =
    inl (record { scope = scope; result = result; settles = rw (← begins, ends, notes) settles; next = next })

pub returns : goal.returns
returns g c =
    settled _ _ _ _ _ _ _ _ _ c.take_scope.ensures c.settle_bytes-received.ensures c.note_received.ensures
    c.end_settled.ensures.kept c.end_settled.ensures.next
