-- Steps whose write fails: the other site reads what was written before that, or a prefix of it.
use Rattle.std.specs.Prelude.{◌≡◌, ◌⊎◌, ℕ, List, ◌++◌, Some, Ok, Err}
use Rattle.std.specs.List.{AllByRecursion}
use Rattle.td_frames.specs.Spelling.{HasFrame}
use Rattle.td_frames.specs.declared.error.FrameError.{FrameError}
use Rattle.td_frames.specs.declared.greeting.Greeting.{Greeting}
use Rattle.td_frames.specs.declared.version.Version.TheVariants.{Second}
use Rattle.td_replica.specs.Seen.{Seen, IsSound}
use Rattle.td_replica.specs.declared.calls.Taken.{Taken}
use Rattle.td_meeting.specs.Steps.{Answered, Finished, Greeted, LinkData, Settled}
use Rattle.td_meeting.specs.Writing.{Greets, sends}
use Rattle.td_meeting.specs.declared.error.MeetingError.TheVariants.{Frame, WriteFault}
use Rattle.td_agreement.specs.CutStreams.{ArrivesCut, GainsAtMost, GainsSome, every}
use Rattle.td_agreement.specs.Interleaved.{Arrives}

-- Each entry that the site holds has a frame. A step whose write fails says so of none.
abbrev pub AreFramed : Seen → Type 0
AreFramed s = AllByRecursion (HasFrame Second) s.entries

-- what a step wrote to its link, after what was there
abbrev pub Wrote : LinkData → LinkData → List ℕ → Type 0
Wrote old new bytes = (before : List ℕ) × (old.held ≡ Some before) × (new.held ≡ Some (before ++ bytes))

-- An `answer` whose write fails has written a prefix of the site's greeting and of what it sends.
abbrev pub FailedAnswerWritesPrefix : Type 0
FailedAnswerWritesPrefix =
    (s : Seen) (old new : LinkData) (count : ℕ) (bytes : List ℕ) → Answered s old (Err (WriteFault count)) new
    → Wrote old new bytes
    → (g : Greeting) × (own : List ℕ) × (rest : List ℕ) × Greets s own × (bytes ++ rest ≡ own ++ sends s g.vector)

-- A `settle` whose write fails has taken what came, and has written a prefix of what the site then sends.
abbrev pub FailedSettleWritesPrefix : Type 0
FailedSettleWritesPrefix =
    (s after : Seen) (old new : LinkData) (count : ℕ) (bytes : List ℕ)
    → Settled s old (Err (WriteFault count)) new after → Wrote old new bytes
    → (g : Greeting) × (rest : List ℕ) × (bytes ++ rest ≡ sends after g.vector)

-- ---- the steps

-- `settle` ended well, or reported which field of a frame is missing, and so many entries were new
abbrev pub SettledOverCut : Seen → LinkData → LinkData → ℕ → Seen → Type 0
SettledOverCut s old new fresh after =
    ((gains : Taken) × Settled s old (Ok gains) new after × (fresh ≡ gains.fresh))
    ⊎ ((e : FrameError) × Settled s old (Err (Frame e fresh)) new after)

-- so did `finish`
abbrev pub FinishedOverCut : Seen → LinkData → LinkData → ℕ → Seen → Type 0
FinishedOverCut s old new fresh after =
    ((gains : Taken) × Finished s old.left new.left old.failures new.failures (Ok gains) after × (fresh ≡ gains.fresh))
    ⊎ ((e : FrameError) × Finished s old.left new.left old.failures new.failures (Err (Frame e fresh)) after)

-- Two sites meet by the first three steps, with no other call between those of a site: the second one's write fails in
-- `answer`, and of what it wrote all or a prefix comes to `settle`.
pub record MeetUntilFailedAnswer (s t : Seen) (fresh : ℕ) (after : Seen) : Type 0 where
  pub links : ℕ → LinkData
  pub count : ℕ
  pub greeted : Greeted s (links 0) (Ok tt) (links 1)
  pub greeting : Arrives (links 0) (links 1) (links 2)
  pub answered : Answered t (links 2) (Err (WriteFault count)) (links 3)
  pub answer : ArrivesCut (links 2) (links 3) (links 4)
  pub settled : SettledOverCut s (links 4) (links 5) fresh after

-- Two sites meet by the four steps, with no other call between those of a site: the first one's write fails in
-- `settle`, and of what it wrote all or a prefix comes to `finish`.
pub record MeetUntilFailedReply (s t : Seen) (took fresh : ℕ) (after other : Seen) : Type 0 where
  pub links : ℕ → LinkData
  pub greeted : Greeted s (links 0) (Ok tt) (links 1)
  pub greeting : Arrives (links 0) (links 1) (links 2)
  pub answered : Answered t (links 2) (Ok tt) (links 3)
  pub answer : Arrives (links 2) (links 3) (links 4)
  pub settled : Settled s (links 4) (Err (WriteFault took)) (links 5) after
  pub reply : ArrivesCut (links 4) (links 5) (links 6)
  pub finished : FinishedOverCut t (links 6) (links 7) fresh other

-- the first site stays as it was, or takes a prefix of what the second one sends
abbrev pub FailedAnswerTakesSome : Type 0
FailedAnswerTakesSome =
    (s t after : Seen) (fresh : ℕ) → IsSound t → AreFramed t → MeetUntilFailedAnswer s t fresh after
    → GainsAtMost every s t fresh after

-- the second site takes a prefix of what the first one, as it is then, sends
abbrev pub FailedReplyTakesSome : Type 0
FailedReplyTakesSome =
    (s t after other : Seen) (took fresh : ℕ) → IsSound s → AreFramed after
    → MeetUntilFailedReply s t took fresh after other → GainsSome every t after fresh other
