-- Words that only proofs and private functions use.
use Rattle.std.specs.Prelude.{◌≡◌, ◌≢◌, ℕ, List, [], ◌++◌, length, ◌-◌, Option, unwrap_or, Result, Ok, Err}
use Rattle.std.specs.BTreeMap as by_site
use Rattle.std.specs.Option.{option_or}
use Rattle.std.specs.Ordering.{nat_cmp}
use Rattle.std.specs.Io.KnownBytes.{Appends}
use Rattle.sha2.specs.Sha256.{sha256}
use Rattle.td_io.specs.Streams.{AppendsFront}
use Rattle.td_stamps.specs.Checks.{last_seq}
use Rattle.td_stamps.specs.Vectors.{IsVector, VersionVector}
use Rattle.td_stamps.specs.declared.entry.Entry.{Entry}
use Rattle.td_frames.specs.declared.error.FrameError.{FrameError}
use Rattle.td_frames.specs.declared.error.FrameError.TheVariants as frame_error
use Rattle.td_replica.specs.Seen.{Seen}
use Rattle.td_replica.specs.declared.refusal.TakeError.{TakeError}
use Rattle.td_replica.specs.declared.refusal.TakeError.TheVariants as take_error
use Rattle.td_comparison.specs.Digests.{answers_to, differing, known_to_differ}
use Rattle.td_comparison.specs.declared.differing.Findings.{Findings}
use Rattle.td_comparison.specs.declared.message.Comparison.{Comparison}
use Rattle.td_comparison.specs.declared.reading.MessageError.{MessageError}
use Rattle.td_comparison.specs.declared.reading.MessageError.TheVariants as message_error
use Rattle.td_meeting.specs.declared.error.MeetingError.{MeetingError}
use Rattle.td_meeting.specs.declared.error.MeetingError.TheVariants.{Broken, OutOfMemory, Frame, Take, WriteFault}
use Rattle.td_checked_meetings.specs.Scopes.{first_beyond, in_sequence, of_others, taken}
use Rattle.td_checked_meetings.specs.Steps.{Receives, RefusesReceived, greets}
use Rattle.td_checked_meetings.specs.declared.scope.MeetingScope.{MeetingScope}
use Rattle.td_checked_meetings.specs.declared.sifting.Beyond.{Beyond}
use Rattle.td_checked_meetings.specs.declared.sifting.Sifted.{Sifted}
use Rattle.td_checked_meetings.specs.declared.taking.Received.{Received}

-- the numbers that came, by sites
abbrev pub Numbers : Type 0
Numbers = by_site.BTreeMap ℕ ℕ

abbrev pub last_number : Numbers → ℕ → ℕ
last_number numbers site = unwrap_or (by_site.get nat_cmp numbers site) 0

-- they are the greatest ones of these entries
abbrev pub AreLast : List Entry → Numbers → Type 0
AreLast earlier numbers = (site : ℕ) → last_number numbers site ≡ last_seq site earlier

abbrev pub unread : MessageError → MeetingError
unread message_error.OutOfMemory = OutOfMemory
unread message_error.Malformed = Frame frame_error.BadFrame 0

-- the site's greeting was written, with the vector of the scope
abbrev pub OwnGreeting : Seen → MeetingScope → Option (List ℕ) → Option (List ℕ) → Result (Unit {0}) MeetingError → Type 0
OwnGreeting s c old new (Ok x) = Appends old new (greets s c)
OwnGreeting s c old new (Err (WriteFault count)) = AppendsFront old new (greets s c) × (count ≡ 0)
OwnGreeting s c old new (Err OutOfMemory) = new ≡ old
OwnGreeting s c old new (Err e) = ⊥

abbrev pub not_taken : TakeError → MeetingError
not_taken take_error.Broken = Broken
not_taken take_error.OutOfMemory = OutOfMemory
not_taken e = Take e

-- what came of a batch so far, of which the rest is to come
pub record IsSequenced (v : VersionVector) (all rest : List Entry) (numbers : Numbers) (following : List Entry) (beyond : Option Beyond) : Type 0 where
  pub numbers_last : AreLast following numbers
  pub entries : following ++ in_sequence v following rest ≡ in_sequence v [] all
  pub first : option_or beyond (first_beyond v following rest) ≡ first_beyond v [] all

-- what a site may take of a batch
pub record IsSifted (s : Seen) (c : MeetingScope) (es : List Entry) (x : Sifted) : Type 0 where
  pub vector : VersionVector
  pub own : IsVector s.entries vector
  pub entries : x.entries.items ≡ taken c.left_out.items vector es
  pub dropped : x.dropped ≡ length es - length (of_others c.left_out.items es)
  pub beyond : x.beyond ≡ first_beyond vector [] (of_others c.left_out.items es)

-- why an open site takes nothing of a batch
abbrev pub NotTaken : Seen → MeetingScope → List Entry → MeetingError → Seen → Type 0
NotTaken s c es OutOfMemory after = after ≡ s
NotTaken s c es (Take take_error.Broken) after = ⊥
NotTaken s c es (Take take_error.OutOfMemory) after = ⊥
NotTaken s c es (Take e) after = RefusesReceived s c es e after
NotTaken s c es e after = ⊥

-- of a stream that was cut, or whose reader failed
abbrev pub TakesPrefix : Seen → MeetingScope → List Entry → FrameError → MeetingError → Seen → Type 0
TakesPrefix s c es error (Frame e count) after = (e ≡ error) × (r : Received) × Receives s c es r after × (count ≡ r.taken.fresh)
TakesPrefix s c es error e after = NotTaken s c es e after

-- where the reading of entries stopped
abbrev pub StopsAt : Seen → MeetingScope → List Entry → FrameError → MeetingError → Seen → Type 0
StopsAt s c es frame_error.OutOfMemory e after = (e ≡ OutOfMemory) × (after ≡ s)
StopsAt s c es frame_error.ReadFault e after = TakesPrefix s c es frame_error.ReadFault e after
StopsAt s c es frame_error.Cut e after = TakesPrefix s c es frame_error.Cut e after
StopsAt s c es error e after = (e ≡ Frame error 0) × (after ≡ s)

-- a comparison is that of another site of the same script
abbrev pub IsOfOther : Seen → Comparison → Type 0
IsOfOther s x = (x.site ≢ s.site) × (x.script ≡ sha256 s.script)

-- what is answered to a comparison: nothing to one of another script, or of this site's number
pub record FindsOf (s : Seen) (v : VersionVector) (x : Comparison) (f : Findings) : Type 0 where
  pub compared : IsOfOther s x → (f.digests.items ≡ answers_to s.entries v x.digests.items) × (f.differing.items ≡ known_to_differ s.entries v x.digests.items)
  pub not_compared : (IsOfOther s x → ⊥) → (f.digests.items ≡ []) × (f.differing.items ≡ [])

-- the sites that differ by an answer
pub record Differ (s : Seen) (v : VersionVector) (x : Comparison) (sites : List ℕ) : Type 0 where
  pub compared : IsOfOther s x → sites ≡ differing s.entries v x.digests.items
  pub not_compared : (IsOfOther s x → ⊥) → sites ≡ []
