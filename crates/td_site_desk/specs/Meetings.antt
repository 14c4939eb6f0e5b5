-- What the steps of a meeting that are given entries do to the site.
use Rattle.std.specs.Prelude.{◌≡◌, ◌⊎◌, ℕ, List, Option, Some, Result, Ok, Err}
use Rattle.td_checked_meetings.specs.Steps.{FinishedInScope, SettledInScope}
use Rattle.td_checked_meetings.specs.declared.scope.MeetingScope.{MeetingScope}
use Rattle.td_checked_meetings.specs.declared.taking.Received.{Received}
use Rattle.td_event_loop.specs.declared.meets.StepResult.{StepResult}
use Rattle.td_event_loop.specs.declared.meets.StepResult.TheVariants.{Part, Stop}
use Rattle.td_meeting.specs.declared.error.MeetingError.{MeetingError}
use Rattle.td_meeting.specs.declared.error.MeetingError.TheVariants.{WriteFault}
use Rattle.td_replica.specs.Seen.{Seen}

-- the third step over the bytes of a reply: how many it read, and what it wrote, is left free
pub record SettlesBytes (old : Seen) (scope : MeetingScope) (reply : List ℕ) (result : Result Received MeetingError) (new : Seen) : Type 0 where
  pub rest : Option (List ℕ)
  pub before : Option (List ℕ)
  pub after : Option (List ℕ)
  pub settled : SettledInScope old scope (Some reply) rest before result after new

-- the fourth step over the bytes of entries: how many it read is left free
pub record FinishesBytes (old : Seen) (scope : MeetingScope) (entries : List ℕ) (result : Result Received MeetingError) (new : Seen) : Type 0 where
  pub rest : Option (List ℕ)
  pub finished : FinishedInScope old scope (Some entries) rest result new

-- what follows a step that failed: what was written is sent where there was no room for more
abbrev pub step_after_error : MeetingError → StepResult
step_after_error (WriteFault taken) = Part
step_after_error error = Stop

-- what follows a step that took entries, or failed
abbrev pub step_after : Result Received MeetingError → StepResult
step_after (Ok received) = Part
step_after (Err error) = step_after_error error

-- the third step was taken in some scope
pub record IsSettled (old : Seen) (reply : List ℕ) (step : StepResult) (new : Seen) : Type 0 where
  pub scope : MeetingScope
  pub result : Result Received MeetingError
  pub settles : SettlesBytes old scope reply result new
  pub next : step ≡ step_after result

-- no step was taken: the site is as it was, and the meeting ends
pub record IsUnsettled (old : Seen) (step : StepResult) (new : Seen) : Type 0 where
  pub kept : new ≡ old
  pub next : step ≡ Stop

abbrev pub Settles : Seen → List ℕ → StepResult → Seen → Type 0
Settles old reply step new = IsSettled old reply step new ⊎ IsUnsettled old step new

-- the fourth step was taken in some scope
pub record IsFinished (old : Seen) (entries : List ℕ) (new : Seen) : Type 0 where
  pub scope : MeetingScope
  pub result : Result Received MeetingError
  pub finishes : FinishesBytes old scope entries result new

abbrev pub Finishes : Seen → List ℕ → Seen → Type 0
Finishes old entries new = IsFinished old entries new ⊎ (new ≡ old)
