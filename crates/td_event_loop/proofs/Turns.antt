-- Turns of a meeting.
use Rattle.std.proofs.Common.{◌≡◌, inl, inr, ℕ, List, ◌++◌, drop, subst}
use Rattle.td_event_loop.specs.Meetings.{Follows, Meeting, StepAt, TakesTurn, UnlessEnded, inbox_of, meeting_left}
use Rattle.td_event_loop.specs.declared.meets.StepResult.{StepResult}
use Rattle.td_event_loop.specs.declared.peer.Peer.{Peer}
use Rattle.td_event_loop.specs.declared.peer.Stage.{Stage}
use Rattle.td_event_loop.specs.declared.transfer.Progress.{Progress}
use Rattle.td_event_loop.specs.declared.transfer.Progress.TheVariants.{Busy, Waiting, Ended}

module _ {S : Type 0} (keeps : S → S → Type 0) (settles : S → List ℕ → StepResult → S → Type 0) (finishes : S → List ℕ → S → Type 0) where
  -- bytes were read, and the site was not called
  pub idle_turn : (progress : Progress) (before : Meeting) (peer : Peer) (more : List ℕ) (old new : S) → new ≡ old → peer.stage ≡ before.stage
      → inbox_of peer ≡ before.inbox ++ more → TakesTurn keeps settles finishes before (meeting_left progress peer) old new
  idle_turn Busy before peer more old new kept stage inbox = (more, inl (record { kept = kept; left = (stage, inbox) }))
  idle_turn Waiting before peer more old new kept stage inbox = (more, inl (record { kept = kept; left = (stage, inbox) }))
  idle_turn Ended before peer more old new kept stage inbox = (more, inl (record { kept = kept; left = tt }))

  -- the site was called, over all that came
  acts : (progress : Progress) (before : Meeting) (peer : Peer) (more : List ℕ) (old new : S)
      → StepAt keeps settles finishes before.stage (before.inbox ++ more) old new → UnlessEnded progress (Follows before.stage (before.inbox ++ more) peer.stage)
      → ((used : ℕ) × inbox_of peer ≡ drop used (before.inbox ++ more)) → TakesTurn keeps settles finishes before (meeting_left progress peer) old new
  acts Busy before peer more old new step next dropped = (more, inr (record { step = step; left = (next, dropped) }))
  acts Waiting before peer more old new step next dropped = (more, inr (record { step = step; left = (next, dropped) }))
  acts Ended before peer more old new step next dropped = (more, inr (record { step = step; left = tt }))

  pub step_turn : (progress : Progress) (before : Meeting) (peer : Peer) (more : List ℕ) (old new from : S) (stage : Stage) (inbox : List ℕ)
      → from ≡ old → stage ≡ before.stage → inbox ≡ before.inbox ++ more
      → StepAt keeps settles finishes stage inbox from new → UnlessEnded progress (Follows stage inbox peer.stage)
      → ((used : ℕ) × inbox_of peer ≡ drop used inbox) → TakesTurn keeps settles finishes before (meeting_left progress peer) old new
  step_turn progress before peer more old new from stage inbox same at bytes step next dropped =
      acts progress before peer more old new
      (subst (λ s. StepAt keeps settles finishes before.stage (before.inbox ++ more) s new) same
      (subst (λ s. StepAt keeps settles finishes s (before.inbox ++ more) from new) at
      (subst (λ b. StepAt keeps settles finishes stage b from new) bytes step)))
      (subst (λ s. UnlessEnded progress (Follows s (before.inbox ++ more) peer.stage)) at
      (subst (λ b. UnlessEnded progress (Follows stage b peer.stage)) bytes next))
      (dropped.0, subst (λ b. inbox_of peer ≡ drop dropped.0 b) bytes dropped.1)
