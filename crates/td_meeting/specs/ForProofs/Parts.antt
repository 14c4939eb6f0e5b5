-- What the parts of a step tell.
use Rattle.std.specs.Prelude.{◌≡◌, ℕ, true, List, ◌++◌, Option, Result, Ok, Err}
use Rattle.std.specs.FinMap as by_site
use Rattle.std.specs.Io.KnownBytes.{Keeps, Appends}
use Rattle.td_io.specs.Counted.{counted}
use Rattle.td_io.specs.Streams.{AppendsFront}
use Rattle.td_stamps.specs.Vectors.{IsVector, VersionVector, sites_fit}
use Rattle.td_stamps.specs.declared.entry.Entry.{Entry}
use Rattle.td_frames.specs.declared.error.FrameError.{FrameError}
use Rattle.td_frames.specs.declared.error.FrameError.TheVariants as frame_error
use Rattle.td_replica.specs.Calls.{Takes, TakesBatch}
use Rattle.td_replica.specs.Seen.{Seen}
use Rattle.td_replica.specs.declared.calls.Taken.{Taken}
use Rattle.td_replica.specs.declared.refusal.TakeError.{TakeError}
use Rattle.td_replica.specs.declared.refusal.TakeError.TheVariants as take_error
use Rattle.td_meeting.specs.declared.error.MeetingError.{MeetingError}
use Rattle.td_meeting.specs.declared.error.MeetingError.TheVariants.{Broken, OutOfMemory, Frame, WriteFault, Take}
use Rattle.td_meeting.specs.Writing.{Greets, sends}
use Rattle.td_meeting.specs.Steps.{AreSent}

-- the sites of the version vector of these entries, each with its number
pub record ArePlaces (es : List Entry) (ps : List (ℕ × ℕ)) : Type 0 where
  pub vector : VersionVector
  pub is : IsVector es vector
  pub places : ps ≡ by_site.entries vector
  pub fit : sites_fit ps ≡ true

-- why a greeting can't be read, as a step tells it
abbrev pub unread : FrameError → MeetingError
unread frame_error.OutOfMemory = OutOfMemory
unread e = Frame e 0

-- why an open site doesn't take a batch, as a step tells it
abbrev pub untaken : TakeError → MeetingError
untaken take_error.Broken = Broken
untaken take_error.OutOfMemory = OutOfMemory
untaken e = Take e

-- and what the site is then
abbrev pub Untaken : Seen → List Entry → MeetingError → Seen → Type 0
Untaken s es (Take take_error.Broken) t = ⊥
Untaken s es (Take take_error.OutOfMemory) t = ⊥
Untaken s es (Take e) t = Takes s es (Err e) t
Untaken s es OutOfMemory t = t ≡ s
Untaken s es e t = ⊥

-- a batch that is not all that was sent is taken, or not
abbrev pub TakesShort : Seen → List Entry → FrameError → MeetingError → Seen → Type 0
TakesShort s es error (Frame e taken) t = (e ≡ error) × (x : Taken) × TakesBatch s es x t × (taken ≡ x.fresh)
TakesShort s es error e t = Untaken s es e t

-- where the reading of entries stopped
abbrev pub StopsAt : Seen → List Entry → FrameError → MeetingError → Seen → Type 0
StopsAt s es frame_error.OutOfMemory e t = (e ≡ OutOfMemory) × (t ≡ s)
StopsAt s es frame_error.ReadFault e t = TakesShort s es frame_error.ReadFault e t
StopsAt s es frame_error.Cut e t = TakesShort s es frame_error.Cut e t
StopsAt s es error e t = (e ≡ Frame error 0) × (t ≡ s)

-- a site's greeting and what it sends to a site of this vector, of which so much was written
abbrev pub RepliesOn : Seen → VersionVector → (List ℕ → Type 0) → Type 0
RepliesOn s v Written = (own : List ℕ) × Greets s own × Written (own ++ sends s v)

abbrev pub Replied : Seen → VersionVector → Option (List ℕ) → Option (List ℕ) → ℕ → ℕ → Result (Unit {0}) MeetingError → Type 0
Replied s v old new n m (Ok x) = RepliesOn s v (Appends old new) × AreSent s v × (m ≡ n)
Replied s v old new n m (Err (WriteFault taken)) = RepliesOn s v (AppendsFront old new) × (m ≡ counted n) × (taken ≡ 0)
Replied s v old new n m (Err OutOfMemory) = Keeps old new × (m ≡ n)
Replied s v old new n m (Err e) = ⊥
