-- Cut meetings in the scopes that a comparison found: the site takes a prefix of the entries that both exchange.
use Rattle.std.specs.Prelude.{◌≡◌, ◌⊎◌, ℕ, Bool, true, false, not, ◌&&◌, List, ◌++◌, Option, Some, Ok, Err}
use Rattle.td_stamps.specs.Sets.{has}
use Rattle.td_stamps.specs.Vectors.{HasCounted, IsVector, VersionVector}
use Rattle.td_stamps.specs.declared.entry.Entry.{Entry}
use Rattle.td_frames.specs.Spelling.{HasGreeting}
use Rattle.td_frames.specs.declared.error.FrameError.{FrameError}
use Rattle.td_frames.specs.declared.error.FrameError.TheVariants.{Cut}
use Rattle.td_replica.specs.Seen.{Seen, IsSound}
use Rattle.td_meeting.specs.Steps.{LinkData}
use Rattle.td_meeting.specs.declared.error.MeetingError.TheVariants.{Frame, WriteFault}
use Rattle.td_checked_meetings.specs.Scopes.{is_in_scope, is_left_out}
use Rattle.td_checked_meetings.specs.Steps.{AnsweredInScope, FinishedInScope, GreetedInScope, SettledInScope, greets}
use Rattle.td_checked_meetings.specs.Steps.{sends_in_scope}
use Rattle.td_checked_meetings.specs.declared.scope.MeetingScope.{MeetingScope}
use Rattle.td_checked_meetings.specs.declared.taking.Received.{Received}
use Rattle.td_agreement.specs.CutStreams.{ArrivesCut, ComesWhole, GainsAtMost, GainsSome}
use Rattle.td_agreement.specs.CutWriters.{AreFramed}
use Rattle.td_agreement.specs.Interleaved.{Arrives}

-- The sender's scope d has the entry, and the scope c of the site that reads it leaves it in too.
abbrev pub is_exchanged : MeetingScope → MeetingScope → Entry → Bool
is_exchanged c d e = is_in_scope d.left_out.items d.vector e && not (is_left_out c.left_out.items e)

-- The scope's vector is that of what the one site holds, and the other one holds what its scope counts.
pub record AreScopes (c d : MeetingScope) (s t : Seen) : Type 0 where
  pub own : IsVector s.entries c.vector
  pub counted : HasCounted t.entries d.vector
  pub framed : AreFramed t

-- an entry of what a site sends in its scope, whose frame is whole in these bytes
abbrev pub ComesInScope : MeetingScope → VersionVector → Seen → List ℕ → Entry → Type 0
ComesInScope d v t came x = ComesWhole (is_in_scope d.left_out.items d.vector) v t came x

-- Where a prefix of what another site sends comes to `finish`, and that reports which field of a frame is missing, the
-- site took a prefix of the entries that both exchange.
abbrev pub CutFinishInScope : Type 0
CutFinishInScope =
    (c d : MeetingScope) (s t : Seen) (came lost : List ℕ) (rest : Option (List ℕ)) (e : FrameError) (fresh : ℕ)
    (after : Seen) → IsSound t → AreScopes c d s t → came ++ lost ≡ sends_in_scope d c.vector t.entries
    → FinishedInScope s c (Some came) rest (Err (Frame e fresh)) after → GainsSome (is_exchanged c d) s t fresh after

-- Where a prefix of the greeting and of what is sent after it comes to `settle`, the site took nothing or that.
abbrev pub CutSettleInScope : Type 0
CutSettleInScope =
    (c d : MeetingScope) (s t : Seen) (came lost : List ℕ) (rest old new : Option (List ℕ)) (e : FrameError) (fresh : ℕ)
    (after : Seen) → IsSound t → AreScopes c d s t → HasGreeting t.site t.script d.vector
    → came ++ lost ≡ greets t d ++ sends_in_scope d c.vector t.entries
    → SettledInScope s c (Some came) rest old (Err (Frame e fresh)) new after
    → GainsAtMost (is_exchanged c d) s t fresh after

-- Where the bytes just ended, and no read failed, the site then holds each entry that came whole and that it leaves in.
abbrev pub CutFinishInScopeLosesNone : Type 0
CutFinishInScopeLosesNone =
    (c d : MeetingScope) (s t : Seen) (came lost : List ℕ) (rest : Option (List ℕ)) (fresh : ℕ) (after : Seen)
    (x : Entry) → IsSound s → IsSound t → AreScopes c d s t → came ++ lost ≡ sends_in_scope d c.vector t.entries
    → ComesInScope d c.vector t came x → is_left_out c.left_out.items x ≡ false
    → FinishedInScope s c (Some came) rest (Err (Frame Cut fresh)) after → has after.entries x ≡ true

-- So does `settle`, where the greeting came whole before that.
abbrev pub CutSettleInScopeLosesNone : Type 0
CutSettleInScopeLosesNone =
    (c d : MeetingScope) (s t : Seen) (more lost : List ℕ) (rest old new : Option (List ℕ)) (fresh : ℕ) (after : Seen)
    (x : Entry) → IsSound s → IsSound t → AreScopes c d s t → HasGreeting t.site t.script d.vector
    → more ++ lost ≡ sends_in_scope d c.vector t.entries → ComesInScope d c.vector t more x
    → is_left_out c.left_out.items x ≡ false
    → SettledInScope s c (Some (greets t d ++ more)) rest old (Err (Frame Cut fresh)) new after
    → has after.entries x ≡ true

-- What either scope leaves out stays as it was, and so does what is beyond the sender's vector.
abbrev pub CutLeftOutStays : Type 0
CutLeftOutStays =
    (c d : MeetingScope) (s t : Seen) (fresh : ℕ) (after : Seen) → IsSound s
    → GainsAtMost (is_exchanged c d) s t fresh after → (e : Entry) → is_exchanged c d e ≡ false
    → has after.entries e ≡ has s.entries e

-- ---- the steps

-- the second site's answer was written, or its write failed
abbrev pub AnswersInPart : Seen → MeetingScope → LinkData → LinkData → Type 0
AnswersInPart t d old new =
    ((v : VersionVector) × AnsweredInScope t d old.left new.left old.held (Ok v) new.held)
    ⊎ ((count : ℕ) × AnsweredInScope t d old.left new.left old.held (Err (WriteFault count)) new.held)

-- the first site's reply was written, or its write failed
abbrev pub SettlesInPart : Seen → MeetingScope → LinkData → LinkData → Seen → Type 0
SettlesInPart s c old new after =
    ((r : Received) × SettledInScope s c old.left new.left old.held (Ok r) new.held after)
    ⊎ ((count : ℕ) × SettledInScope s c old.left new.left old.held (Err (WriteFault count)) new.held after)

-- `settle` ended well, or reported which field of a frame is missing, and so many entries were new
abbrev pub SettledOverCutInScope : Seen → MeetingScope → LinkData → LinkData → ℕ → Seen → Type 0
SettledOverCutInScope s c old new fresh after =
    ((r : Received) × SettledInScope s c old.left new.left old.held (Ok r) new.held after × (fresh ≡ r.taken.fresh))
    ⊎ ((e : FrameError) × SettledInScope s c old.left new.left old.held (Err (Frame e fresh)) new.held after)

-- so did `finish`
abbrev pub FinishedOverCutInScope : Seen → MeetingScope → LinkData → LinkData → ℕ → Seen → Type 0
FinishedOverCutInScope s c old new fresh after =
    ((r : Received) × FinishedInScope s c old.left new.left (Ok r) after × (fresh ≡ r.taken.fresh))
    ⊎ ((e : FrameError) × FinishedInScope s c old.left new.left (Err (Frame e fresh)) after)

-- Two sites meet in their scopes by the first three steps, with no other call since their comparison: of what the
-- second one writes all or a prefix comes to `settle`.
pub record MeetInScopeUntilCutAnswer (c d : MeetingScope) (s t : Seen) (fresh : ℕ) (after : Seen) : Type 0 where
  pub links : ℕ → LinkData
  pub greeted : GreetedInScope s c (links 0).held (Ok tt) (links 1).held
  pub greeting : Arrives (links 0) (links 1) (links 2)
  pub answered : AnswersInPart t d (links 2) (links 3)
  pub answer : ArrivesCut (links 2) (links 3) (links 4)
  pub settled : SettledOverCutInScope s c (links 4) (links 5) fresh after

-- By the four steps: of what the first one writes back all or a prefix comes to `finish`.
pub record MeetInScopeUntilCutReply (c d : MeetingScope) (s t : Seen) (fresh : ℕ) (after other : Seen) : Type 0 where
  pub links : ℕ → LinkData
  pub greeted : GreetedInScope s c (links 0).held (Ok tt) (links 1).held
  pub greeting : Arrives (links 0) (links 1) (links 2)
  pub vector : VersionVector
  pub answered : AnsweredInScope t d (links 2).left (links 3).left (links 2).held (Ok vector) (links 3).held
  pub answer : Arrives (links 2) (links 3) (links 4)
  pub settled : SettlesInPart s c (links 4) (links 5) after
  pub reply : ArrivesCut (links 4) (links 5) (links 6)
  pub finished : FinishedOverCutInScope t d (links 6) (links 7) fresh other

-- each site's scope has a greeting
abbrev pub HaveGreetings : MeetingScope → MeetingScope → Seen → Seen → Type 0
HaveGreetings c d s t = HasGreeting s.site s.script c.vector × HasGreeting t.site t.script d.vector

-- the first site stays as it was, or takes a prefix of what both exchange
abbrev pub CutAnswerInScope : Type 0
CutAnswerInScope =
    (c d : MeetingScope) (s t after : Seen) (fresh : ℕ) → IsSound t → AreScopes c d s t → HaveGreetings c d s t
    → MeetInScopeUntilCutAnswer c d s t fresh after → GainsAtMost (is_exchanged c d) s t fresh after

-- the second site takes a prefix of what both exchange of the entries that the first one then has
abbrev pub CutReplyInScope : Type 0
CutReplyInScope =
    (c d : MeetingScope) (s t after other : Seen) (fresh : ℕ) → IsSound s → AreScopes d c t after
    → HaveGreetings c d s t → MeetInScopeUntilCutReply c d s t fresh after other
    → GainsSome (is_exchanged d c) t after fresh other
