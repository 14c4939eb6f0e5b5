-- The four steps of a meeting in the scope that a comparison found. `greet`: the first site writes its greeting.
-- `answer`: the second reads it, and writes its own and the entries of its scope that the first lacks. `settle`: the
-- first reads all of that, takes what it may of the entries as one batch, and writes those of its scope that the second
-- lacks. `finish`: the second reads and takes this.
use Rattle.std.specs.Prelude.{◌≡◌, ◌⊎◌, ℕ, true, false, List, [], ◌++◌, length, ◌-◌, Option, Result, Ok, Err}
use Rattle.std.specs.FinMap as by_site
use Rattle.std.specs.List.{AllByRecursion}
use Rattle.std.specs.Io.KnownBytes.{Appends, IsAtEnd, Keeps}
use Rattle.td_io.specs.Streams.{AppendsFront}
use Rattle.td_stamps.specs.Vectors.{IsVector, VersionVector}
use Rattle.td_stamps.specs.declared.entry.Entry.{Entry}
use Rattle.td_frames.specs.Reading.{Miss, short, magic, version, bad}
use Rattle.td_frames.specs.Spelling.{HasFrame, greeting_frame, stream}
use Rattle.td_frames.specs.declared.error.FrameError.{FrameError}
use Rattle.td_frames.specs.declared.error.FrameError.TheVariants as frame_error
use Rattle.td_frames.specs.declared.greeting.Greeting.{Greeting}
use Rattle.td_frames.specs.declared.version.Version.TheVariants.{Second}
use Rattle.td_replica.specs.Calls.{Takes, TakesBatch}
use Rattle.td_replica.specs.Seen.{Seen}
use Rattle.td_replica.specs.declared.refusal.TakeError.{TakeError}
use Rattle.td_replica.specs.declared.refusal.TakeError.TheVariants as take_error
use Rattle.td_meeting.specs.Reading.{Hears, ReadsEntries, ReadsStream, Unheard}
use Rattle.td_meeting.specs.declared.error.MeetingError.{MeetingError}
use Rattle.td_meeting.specs.declared.error.MeetingError.TheVariants.{Broken, OutOfMemory, Frame, WriteFault, Take}
use Rattle.td_checked_meetings.specs.Scopes.{first_beyond, of_others, sent, taken}
use Rattle.td_checked_meetings.specs.declared.scope.MeetingScope.{MeetingScope}
use Rattle.td_checked_meetings.specs.declared.taking.Received.{Received}

-- ---- what is written

-- the site's greeting, with the vector of the scope
abbrev pub greets : Seen → MeetingScope → List ℕ
greets s c = greeting_frame s.site s.script (by_site.entries c.vector)

-- what a site sends that has these entries, after another one's vector
abbrev pub sends_in_scope : MeetingScope → VersionVector → List Entry → List ℕ
sends_in_scope c v xs = stream Second (sent c.left_out.items c.vector v xs)

-- each entry that is sent has a frame
abbrev pub AreSentInScope : MeetingScope → VersionVector → List Entry → Type 0
AreSentInScope c v xs = AllByRecursion (HasFrame Second) (sent c.left_out.items c.vector v xs)

-- ---- what is taken

-- what a site takes of entries that came, and what it reports of the others
pub record Receives (s : Seen) (c : MeetingScope) (es : List Entry) (r : Received) (after : Seen) : Type 0 where
  pub vector : VersionVector
  pub own : IsVector s.entries vector
  pub takes : TakesBatch s (taken c.left_out.items vector es) r.taken after
  pub dropped : r.dropped ≡ length es - length (of_others c.left_out.items es)
  pub beyond : r.beyond ≡ first_beyond vector [] (of_others c.left_out.items es)

-- of entries that came before a stream was cut or its reader failed it takes as many; of others that cannot be read
-- none
abbrev pub ReceivesCut : Seen → MeetingScope → List Entry → FrameError → ℕ → Seen → Type 0
ReceivesCut s c es frame_error.OutOfMemory count after = ⊥
ReceivesCut s c es frame_error.ReadFault count after = (r : Received) × Receives s c es r after × (count ≡ r.taken.fresh)
ReceivesCut s c es frame_error.Cut count after = (r : Received) × Receives s c es r after × (count ≡ r.taken.fresh)
ReceivesCut s c es e count after = (after ≡ s) × (count ≡ 0)

-- in what the reading of a stream ended that cannot be read
abbrev pub StopsIn : FrameError → Result (List ℕ) Miss → Option (List ℕ) → Type 0
StopsIn frame_error.OutOfMemory ending rest = ⊥
StopsIn frame_error.ReadFault ending rest = ending ≡ Err short
StopsIn frame_error.Cut ending rest = (ending ≡ Err short) × IsAtEnd rest
StopsIn frame_error.Magic ending rest = ending ≡ Err magic
StopsIn frame_error.Version ending rest = ending ≡ Err version
StopsIn frame_error.BadFrame ending rest = ending ≡ Err bad

-- the entries that came are taken: the stream was whole, it was cut, or its reader failed
abbrev pub IsReceived : Result (List ℕ) Miss → Type 0
IsReceived ending = (ending ≡ Ok []) ⊎ (ending ≡ Err short)

-- what came is refused
pub record RefusesReceived (s : Seen) (c : MeetingScope) (es : List Entry) (e : TakeError) (after : Seen) : Type 0 where
  pub vector : VersionVector
  pub own : IsVector s.entries vector
  pub takes : Takes s (taken c.left_out.items vector es) (Err e) after

-- why an open site does not take a stream, and what it is then
abbrev pub NotReceived : Seen → MeetingScope → Option (List ℕ) → Option (List ℕ) → MeetingError → Seen → Type 0
NotReceived s c left rest (Frame e count) after =
    (es : List Entry) × (ending : Result (List ℕ) Miss) × ReadsEntries left rest es ending × StopsIn e ending rest × ReceivesCut s c es e count after
NotReceived s c left rest (Take take_error.Broken) after = ⊥
NotReceived s c left rest (Take take_error.OutOfMemory) after = ⊥
NotReceived s c left rest (Take e) after = (es : List Entry) × (ending : Result (List ℕ) Miss) × ReadsEntries left rest es ending × IsReceived ending × RefusesReceived s c es e after
NotReceived s c left rest OutOfMemory after = after ≡ s
NotReceived s c left rest e after = ⊥

-- why no greeting of another site of the same script was read, whatever failures were counted
abbrev pub NotHeard : Seen → MeetingError → Option (List ℕ) → Option (List ℕ) → Type 0
NotHeard s e left rest = (old : ℕ) × (new : ℕ) × Unheard s e left rest old new

-- ---- the steps, over the bytes that are left to read and those that are written, before and after

abbrev pub GreetedInScope : Seen → MeetingScope → Option (List ℕ) → Result (Unit {0}) MeetingError → Option (List ℕ) → Type 0
GreetedInScope s c old (Ok x) new = (s.live ≡ true) × Appends old new (greets s c)
GreetedInScope s c old (Err Broken) new = (s.live ≡ false) × (new ≡ old)
GreetedInScope s c old (Err OutOfMemory) new = (s.live ≡ true) × (new ≡ old)
GreetedInScope s c old (Err (WriteFault count)) new = (s.live ≡ true) × AppendsFront old new (greets s c) × (count ≡ 0)
GreetedInScope s c old (Err e) new = ⊥

-- ---- answer: the vector of the first site is returned

pub record AnswersInScope (s : Seen) (c : MeetingScope) (left rest : Option (List ℕ)) (g : Greeting) (Written : List ℕ → Type 0) : Type 0 where
  pub live : s.live ≡ true
  pub heard : Hears s left rest g
  pub written : Written (greets s c ++ sends_in_scope c g.vector s.entries)

abbrev pub AnsweredInScope : Seen → MeetingScope → Option (List ℕ) → Option (List ℕ) → Option (List ℕ) → Result VersionVector MeetingError → Option (List ℕ) → Type 0
AnsweredInScope s c left rest old (Ok v) new =
    (g : Greeting) × AnswersInScope s c left rest g (Appends old new) × AreSentInScope c g.vector s.entries × (v ≡ g.vector)
AnsweredInScope s c left rest old (Err (WriteFault count)) new = (g : Greeting) × AnswersInScope s c left rest g (AppendsFront old new) × (count ≡ 0)
AnsweredInScope s c left rest old (Err Broken) new = (s.live ≡ false) × (new ≡ old)
AnsweredInScope s c left rest old (Err OutOfMemory) new = (s.live ≡ true) × Keeps old new
AnsweredInScope s c left rest old (Err e) new = (s.live ≡ true) × Keeps old new × NotHeard s e left rest

-- ---- settle: what was received, and the vector of the second site

pub record SettlesInScope (s : Seen) (c : MeetingScope) (left rest : Option (List ℕ)) (g : Greeting) (r : Received) (after : Seen) (Written : List ℕ → Type 0) : Type 0 where
  pub live : s.live ≡ true
  pub between : Option (List ℕ)
  pub heard : Hears s left between g
  pub batch : List Entry
  pub reads : ReadsStream between rest batch
  pub receives : Receives s c batch r after
  pub written : Written (sends_in_scope c g.vector after.entries)

abbrev pub SettledInScope : Seen → MeetingScope → Option (List ℕ) → Option (List ℕ) → Option (List ℕ) → Result Received MeetingError → Option (List ℕ) → Seen → Type 0
SettledInScope s c left rest old (Ok r) new after =
    (g : Greeting) × SettlesInScope s c left rest g r after (Appends old new) × AreSentInScope c g.vector after.entries
SettledInScope s c left rest old (Err (WriteFault count)) new after =
    (g : Greeting) × (r : Received) × SettlesInScope s c left rest g r after (AppendsFront old new) × (count ≡ r.taken.fresh)
SettledInScope s c left rest old (Err Broken) new after = (s.live ≡ false) × (new ≡ old) × (after ≡ s)
SettledInScope s c left rest old (Err e) new after =
    (s.live ≡ true) × Keeps old new
    × (((after ≡ s) × NotHeard s e left rest) ⊎ ((between : Option (List ℕ)) × (g : Greeting) × Hears s left between g × NotReceived s c between rest e after))

-- ---- finish

abbrev pub FinishedInScope : Seen → MeetingScope → Option (List ℕ) → Option (List ℕ) → Result Received MeetingError → Seen → Type 0
FinishedInScope s c left rest (Ok r) after = (s.live ≡ true) × (batch : List Entry) × ReadsStream left rest batch × Receives s c batch r after
FinishedInScope s c left rest (Err Broken) after = (s.live ≡ false) × (after ≡ s)
FinishedInScope s c left rest (Err e) after = (s.live ≡ true) × NotReceived s c left rest e after
