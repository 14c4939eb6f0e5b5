-- Meetings: what each awaits, what its peer has sent, and which call of the site it makes over that.
use Rattle.std.specs.Prelude.{◌≡◌, ◌⊎◌, ℕ, List, [], ◌++◌, drop, length, min, Option, Some, None, IfSome}
use Rattle.td_event_loop.specs.declared.meets.StepResult.{StepResult}
use Rattle.td_event_loop.specs.declared.meets.MeetingSide.TheVariants.{First, Second}
use Rattle.td_event_loop.specs.declared.peer.Peer.{Peer}
use Rattle.td_event_loop.specs.declared.peer.Stage.{Stage}
use Rattle.td_event_loop.specs.declared.peer.Stage.TheVariants.{Opening, Differences, Greeting, Entries, Comparison, Reply, Parting, Draining}
use Rattle.td_event_loop.specs.declared.transfer.Progress.{Progress}
use Rattle.td_event_loop.specs.declared.transfer.Progress.TheVariants.{Ended}
use Rattle.td_stream_bounds.specs.Extents.{greeting_extent}
use Rattle.td_stream_bounds.specs.declared.extent.Extent.{Extent}
use Rattle.td_stream_bounds.specs.declared.extent.Extent.TheVariants.{Whole}

-- what the peer has sent, without what steps have dropped
abbrev pub inbox_of : Peer → List ℕ
inbox_of peer = peer.inbox.bytes.items

-- the meeting is at the same stage, over the same bytes
abbrev pub Waits : Peer → Peer → Type 0
Waits old new = (new.stage ≡ old.stage) × (inbox_of new ≡ inbox_of old)

-- the meeting is at the same stage, and bytes were read
abbrev pub Reads : Peer → Peer → Type 0
Reads old new = (new.stage ≡ old.stage) × ((more : List ℕ) × (inbox_of new ≡ inbox_of old ++ more))

-- bytes were dropped, from the first one on
abbrev pub Drops : Peer → Peer → Type 0
Drops old new = (used : ℕ) × (inbox_of new ≡ drop used (inbox_of old))

-- a meeting: its stage, and what its peer has sent
pub record Meeting : Type 0 where
  pub stage : Stage
  pub inbox : List ℕ

abbrev pub meeting_of : Peer → Meeting
meeting_of peer = record { stage = peer.stage; inbox = inbox_of peer }

-- a meeting begins over an empty inbox, with what a first site awaits, or a second one
pub record IsNewMeeting (m : Meeting) : Type 0 where
  pub inbox : m.inbox ≡ []
  pub stage : (m.stage ≡ Opening) ⊎ ((m.stage ≡ Comparison) ⊎ (m.stage ≡ Reply))

-- what is left of a meeting: nothing where it ended
abbrev pub meeting_left : Progress → Peer → Option Meeting
meeting_left Ended peer = None
meeting_left _ peer = Some (meeting_of peer)

-- the fact, if the meeting goes on
abbrev pub UnlessEnded : Progress → Type 0 → Type 0
UnlessEnded Ended fact = Unit {0}
UnlessEnded _ fact = fact

-- the offset at which a message ends among so many bytes
abbrev pub end_in : Extent → ℕ → ℕ
end_in (Whole end) count = min end count
end_in _ count = count

-- a greeting was answered: entries are awaited, which begin where it ends, or nothing is
abbrev pub IsAnswered : List ℕ → Stage → Type 0
IsAnswered bytes next = (next ≡ Entries (end_in (greeting_extent bytes) (length bytes))) ⊎ (next ≡ Parting Second)

-- Which stages may follow one. None follows that of the entries: the meeting ends.
abbrev pub Follows : Stage → List ℕ → Stage → Type 0
Follows Opening bytes next = (next ≡ Differences) ⊎ IsAnswered bytes next
Follows Differences bytes next = next ≡ Greeting
Follows Greeting bytes next = IsAnswered bytes next
Follows (Entries at) bytes next = ⊥
Follows Comparison bytes next = (next ≡ Reply) ⊎ (next ≡ Parting First)
Follows Reply bytes next = next ≡ Parting First
Follows (Parting side) bytes next = next ≡ Draining
Follows Draining bytes next = next ≡ Draining

-- the call that a meeting makes at a stage, over the bytes of its inbox
abbrev pub StepAt : {S : Type 0} → (S → S → Type 0) → (S → List ℕ → StepResult → S → Type 0) → (S → List ℕ → S → Type 0) → Stage → List ℕ → S → S → Type 0
StepAt keeps settles finishes (Entries at) bytes old new = finishes old (drop at bytes) new
StepAt keeps settles finishes Reply bytes old new = (step : StepResult) × settles old bytes step new
StepAt keeps settles finishes (Parting side) bytes old new = new ≡ old
StepAt keeps settles finishes Draining bytes old new = new ≡ old
StepAt keeps settles finishes _ bytes old new = keeps old new

-- no call was made; the meeting is at the same stage over all that came, or ended
pub record Idles {S : Type 0} (before : Meeting) (more : List ℕ) (after : Option Meeting) (old new : S) : Type 0 where
  pub kept : new ≡ old
  pub left : IfSome after (λ m. (m.stage ≡ before.stage) × (m.inbox ≡ before.inbox ++ more))

-- one call was made, that of the stage, over all that came; the next stage follows, or the meeting ended
pub record Acts {S : Type 0} (keeps : S → S → Type 0) (settles : S → List ℕ → StepResult → S → Type 0) (finishes : S → List ℕ → S → Type 0) (before : Meeting) (more : List ℕ) (after : Option Meeting) (old new : S) : Type 0 where
  pub step : StepAt keeps settles finishes before.stage (before.inbox ++ more) old new
  pub left : IfSome after (λ m. Follows before.stage (before.inbox ++ more) m.stage × ((used : ℕ) × m.inbox ≡ drop used (before.inbox ++ more)))

-- A turn of a meeting: bytes are read, and one call is made at most.
abbrev pub TakesTurn : {S : Type 0} → (S → S → Type 0) → (S → List ℕ → StepResult → S → Type 0) → (S → List ℕ → S → Type 0) → Meeting → Option Meeting → S → S → Type 0
TakesTurn keeps settles finishes before after old new =
    (more : List ℕ) × (Idles before more after old new ⊎ Acts keeps settles finishes before more after old new)
