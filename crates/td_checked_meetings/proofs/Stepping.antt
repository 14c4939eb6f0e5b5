-- What the steps tell, put together from what their parts tell.
use Rattle.std.proofs.Common.{◌≡◌, ℕ, inl, inr, true, List, Option, Result, Ok, Err, refl, sym, subst}
use Rattle.std.specs.Io.KnownBytes.{Appends, Keeps}
use Rattle.std.specs.Result.{IfErr, IfOk}
use Rattle.std.proofs.KnownBytes.{Appends-trans, Keeps-refl}
use Rattle.td_io.specs.Streams.{AppendsFront}
use Rattle.td_stamps.specs.declared.entry.Entry.{Entry}
use Rattle.td_frames.specs.declared.greeting.Greeting.{Greeting}
use Rattle.td_frames.proofs.Writing.{front_after, front_longer}
use Rattle.td_replica.specs.Seen.{Seen}
use Rattle.td_meeting.specs.Reading.{Hears, ReadsStream, Unheard}
use Rattle.td_meeting.specs.declared.error.MeetingError.{MeetingError}
use Rattle.td_meeting.specs.declared.error.MeetingError.TheVariants.{Broken, OutOfMemory, Frame, OtherScript, SameSite, WriteFault, Take}
use Rattle.td_checked_meetings.specs.ForProofs.{OwnGreeting}
use Rattle.td_checked_meetings.specs.Steps.{AnsweredInScope, AreSentInScope, FinishedInScope, NotReceived, Receives, SettledInScope, SettlesInScope, greets, sends_in_scope}
use Rattle.td_checked_meetings.specs.declared.scope.MeetingScope.{MeetingScope}
use Rattle.td_checked_meetings.specs.declared.taking.Received.{Received}

abbrev Bytes : Type 0
Bytes = Option (List ℕ)

same_kept : (old new : Bytes) → new ≡ old → Keeps old new
same_kept old new same = subst (Keeps old) (sym same) (Keeps-refl old)

module _ (s : Seen) (c : MeetingScope) (left rest old : Bytes) (live : s.live ≡ true) where
  -- no greeting was read
  pub answers_none : (n m : ℕ) (e : MeetingError) → Unheard s e left rest n m → AnsweredInScope s c left rest old (Err e) old
  answers_none n m Broken u = absurd u
  answers_none n m OutOfMemory u = (live, Keeps-refl old)
  answers_none n m (Frame e k) u = (live, Keeps-refl old, (n, m, u))
  answers_none n m OtherScript u = (live, Keeps-refl old, (n, m, u))
  answers_none n m SameSite u = (live, Keeps-refl old, (n, m, u))
  answers_none n m (WriteFault k) u = absurd u
  answers_none n m (Take e) u = absurd u

  pub settles_none : (n m : ℕ) (e : MeetingError) → Unheard s e left rest n m → SettledInScope s c left rest old (Err e) old s
  settles_none n m Broken u = absurd u
  settles_none n m OutOfMemory u = (live, Keeps-refl old, inl (refl, (n, m, u)))
  settles_none n m (Frame e k) u = (live, Keeps-refl old, inl (refl, (n, m, u)))
  settles_none n m OtherScript u = (live, Keeps-refl old, inl (refl, (n, m, u)))
  settles_none n m SameSite u = (live, Keeps-refl old, inl (refl, (n, m, u)))
  settles_none n m (WriteFault k) u = absurd u
  settles_none n m (Take e) u = absurd u

  module _ (g : Greeting) (heard : Hears s left rest g) where
    -- the site's own greeting was not written
    pub greets_not : (new : Bytes) (e : MeetingError) → OwnGreeting s c old new (Err e) → AnsweredInScope s c left rest old (Err e) new
    greets_not new Broken own = absurd own
    greets_not new OutOfMemory own = (live, same_kept old new own)
    greets_not new (Frame e k) own = absurd own
    greets_not new OtherScript own = absurd own
    greets_not new SameSite own = absurd own
    greets_not new (WriteFault k) own = (g, record { live = live; heard = heard; written = front_longer old new (greets s c) (sends_in_scope c g.vector s.entries) own.0 }, own.1)
    greets_not new (Take e) own = absurd own

    pub answers_all : (between new : Bytes) → Appends old between (greets s c) → Appends between new (sends_in_scope c g.vector s.entries) → AreSentInScope c g.vector s.entries → AnsweredInScope s c left rest old (Ok g.vector) new
    answers_all between new own sent framed = (g, record { live = live; heard = heard; written = Appends-trans old between new (greets s c) (sends_in_scope c g.vector s.entries) own sent }, framed, refl)

    pub answers_front : (between new : Bytes) → Appends old between (greets s c) → AppendsFront between new (sends_in_scope c g.vector s.entries) → AnsweredInScope s c left rest old (Err (WriteFault 0)) new
    answers_front between new own sent = (g, record { live = live; heard = heard; written = front_after old between new (greets s c) (sends_in_scope c g.vector s.entries) own sent }, refl)

-- what was received
abbrev pub Came : Seen → MeetingScope → Bytes → Bytes → Received → Seen → Type 0
Came s c left rest r after = (batch : List Entry) × ReadsStream left rest batch × Receives s c batch r after

module _ (s : Seen) (c : MeetingScope) (left between rest old : Bytes) (after : Seen) (live : s.live ≡ true) (g : Greeting) (heard : Hears s left between g) where
  pub receives_not : (e : MeetingError) → NotReceived s c between rest e after → SettledInScope s c left rest old (Err e) old after
  receives_not Broken not_it = absurd not_it
  receives_not OutOfMemory not_it = (live, Keeps-refl old, inr (between, g, heard, not_it))
  receives_not (Frame e k) not_it = (live, Keeps-refl old, inr (between, g, heard, not_it))
  receives_not OtherScript not_it = absurd not_it
  receives_not SameSite not_it = absurd not_it
  receives_not (WriteFault k) not_it = absurd not_it
  receives_not (Take e) not_it = (live, Keeps-refl old, inr (between, g, heard, not_it))

  module _ (r : Received) (new : Bytes) (came : Came s c between rest r after) where
    settles : (Written : List ℕ → Type 0) → Written (sends_in_scope c g.vector after.entries) → SettlesInScope s c left rest g r after Written
    settles Written written = record { live = live; between = between; heard = heard; batch = came.0; reads = came.1; receives = came.2; written = written }

    pub settles_all : Appends old new (sends_in_scope c g.vector after.entries) → AreSentInScope c g.vector after.entries → SettledInScope s c left rest old (Ok r) new after
    settles_all written framed = (g, settles (Appends old new) written, framed)

    pub settles_front : AppendsFront old new (sends_in_scope c g.vector after.entries) → SettledInScope s c left rest old (Err (WriteFault r.taken.fresh)) new after
    settles_front written = (g, r, settles (AppendsFront old new) written, refl)

pub finishes : (s : Seen) (c : MeetingScope) (left rest : Bytes) (result : Result Received MeetingError) (after : Seen) → s.live ≡ true → IfOk result (λ r. Came s c left rest r after) → IfErr result (λ e. NotReceived s c left rest e after)
    → FinishedInScope s c left rest result after
finishes s c left rest (Ok r) after live ok err = (live, ok.0, ok.1, ok.2)
finishes s c left rest (Err Broken) after live ok err = absurd err
finishes s c left rest (Err OutOfMemory) after live ok err = (live, err)
finishes s c left rest (Err (Frame e k)) after live ok err = (live, err)
finishes s c left rest (Err OtherScript) after live ok err = absurd err
finishes s c left rest (Err SameSite) after live ok err = absurd err
finishes s c left rest (Err (WriteFault k)) after live ok err = absurd err
finishes s c left rest (Err (Take e)) after live ok err = (live, err)
