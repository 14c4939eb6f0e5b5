use Rattle.std.proofs.Common.{◌≡◌, ℕ, List, Result, inl}
use Rattle.td_checked_meetings.specs.declared.scope.MeetingScope.{MeetingScope}
use Rattle.td_checked_meetings.specs.declared.taking.Received.{Received}
use Rattle.td_meeting.specs.declared.error.MeetingError.{MeetingError}
use Rattle.td_replica.specs.Seen.{Seen}
use Rattle.td_site_desk.specs.Meetings.{Finishes, FinishesBytes}
use Rattle.td_site_desk.proofs.desk.SiteDesk.finish.Goals as goal

-- what stands before the step and after it keeps the site
finished : (old before after noted new : Seen) (scope : MeetingScope) (entries : List ℕ) (result : Result Received MeetingError)
    → before ≡ old → FinishesBytes before scope entries result after → noted ≡ after → new ≡ noted → Finishes old entries new
finished old before after noted new scope entries result begins finishes notes ends =
    inl (record { scope = scope; result = result; finishes = rw (← begins, ends, notes) finishes })

pub returns : goal.returns
returns g c =
    finished _ _ _ _ _ _ _ _ c.take_scope.ensures c.finish_bytes.ensures c.note_received.ensures c.keep_greeted.ensures
