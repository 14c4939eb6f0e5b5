-- What a site reads of another one, and what it takes of it. A link is told of by the bytes that it has left and by the
-- failures that it counted, before and after.
use Rattle.std.specs.Prelude.{◌≡◌, ◌≢◌, ◌⊎◌, ℕ, List, [], ◌++◌, Option, Result, Ok, Err}
use Rattle.std.specs.Io.KnownBytes.{Consumes, IsAtEnd}
use Rattle.td_io.specs.Counted.{counted}
use Rattle.td_stamps.specs.declared.entry.Entry.{Entry}
use Rattle.td_frames.specs.Reading.{Miss, short, ToldErr, ToldEntries, entries_at, greeting_at, most_entries}
use Rattle.td_frames.specs.declared.error.FrameError.{FrameError}
use Rattle.td_frames.specs.declared.error.FrameError.TheVariants as frame_error
use Rattle.td_frames.specs.declared.greeting.Greeting.{Greeting}
use Rattle.td_frames.specs.declared.version.Version.TheVariants.{Second}
use Rattle.td_replica.specs.Calls.{Takes, TakesBatch}
use Rattle.td_replica.specs.Seen.{Seen}
use Rattle.td_replica.specs.declared.calls.Taken.{Taken}
use Rattle.td_replica.specs.declared.refusal.TakeError.{TakeError}
use Rattle.td_replica.specs.declared.refusal.TakeError.TheVariants as take_error
use Rattle.td_meeting.specs.declared.error.MeetingError.{MeetingError}
use Rattle.td_meeting.specs.declared.error.MeetingError.TheVariants.{OutOfMemory, Frame, OtherScript, SameSite, Take}

-- ---- a greeting

-- a whole greeting was read, and nothing behind it
pub record ReadsGreeting (left after : Option (List ℕ)) (g : Greeting) : Type 0 where
  pub bytes : List ℕ
  pub consumed : Consumes left after bytes
  pub reads : (more : List ℕ) → greeting_at (bytes ++ more) ≡ Ok (g, more)

-- it is that of another site of the same script
pub record Hears (s : Seen) (left after : Option (List ℕ)) (g : Greeting) : Type 0 where
  pub greeting : ReadsGreeting left after g
  pub script : g.script ≡ s.script
  pub other : g.site ≢ s.site

-- the first field that misses
abbrev pub MissesGreeting : FrameError → Option (List ℕ) → Option (List ℕ) → ℕ → ℕ → Type 0
MissesGreeting frame_error.OutOfMemory left after old new = ⊥
MissesGreeting e left after old new = (bytes : List ℕ) × Consumes left after bytes × ToldErr e (greeting_at bytes) after old new

-- why no such greeting was read; where memory was wanted, a part of one
abbrev pub Unheard : Seen → MeetingError → Option (List ℕ) → Option (List ℕ) → ℕ → ℕ → Type 0
Unheard s (Frame e taken) left after old new = MissesGreeting e left after old new × (taken ≡ 0)
Unheard s OtherScript left after old new = (g : Greeting) × ReadsGreeting left after g × (g.script ≢ s.script) × (new ≡ old)
Unheard s SameSite left after old new = (g : Greeting) × ReadsGreeting left after g × (g.script ≡ s.script) × (g.site ≡ s.site) × (new ≡ old)
Unheard s OutOfMemory left after old new = (bytes : List ℕ) × Consumes left after bytes × (new ≡ old)
Unheard s e left after old new = ⊥

-- ---- a stream of entries

-- these entries were read, with what their reading ended in
pub record ReadsEntries (left after : Option (List ℕ)) (es : List Entry) (ending : Result (List ℕ) Miss) : Type 0 where
  pub bytes : List ℕ
  pub consumed : Consumes left after bytes
  pub reads : entries_at Second most_entries bytes ≡ (es, ending)

-- the stream was whole, and nothing behind it was read
abbrev pub ReadsStream : Option (List ℕ) → Option (List ℕ) → List Entry → Type 0
ReadsStream left after es = ReadsEntries left after es (Ok [])

-- what is taken where a stream isn't whole: its whole entries where the bytes are too few, and nothing where a field
-- has no such value
abbrev pub TakesFront : Seen → List Entry → FrameError → ℕ → Seen → Type 0
TakesFront s es frame_error.ReadFault taken t = (x : Taken) × TakesBatch s es x t × (taken ≡ x.fresh)
TakesFront s es frame_error.Cut taken t = (x : Taken) × TakesBatch s es x t × (taken ≡ x.fresh)
TakesFront s es frame_error.OutOfMemory taken t = ⊥
TakesFront s es e taken t = (t ≡ s) × (taken ≡ 0)

pub record MissesEntries (s : Seen) (e : FrameError) (taken : ℕ) (left after : Option (List ℕ)) (old new : ℕ) (t : Seen) : Type 0 where
  pub entries : List Entry
  pub bytes : List ℕ
  pub consumed : Consumes left after bytes
  pub told : ToldEntries (Err e) entries (entries_at Second most_entries bytes) after old new
  pub takes : TakesFront s entries e taken t

-- its entries are taken: the stream was whole, it was cut, or its reader failed
abbrev pub IsTaken : Result (List ℕ) Miss → Option (List ℕ) → ℕ → ℕ → Type 0
IsTaken (Ok rest) after old new = (rest ≡ []) × (new ≡ old)
IsTaken (Err short) after old new = (IsAtEnd after × (new ≡ old)) ⊎ (new ≡ counted old)
IsTaken (Err m) after old new = ⊥

-- `take` refuses what was read
pub record Refuses (s : Seen) (e : TakeError) (left after : Option (List ℕ)) (old new : ℕ) (t : Seen) : Type 0 where
  pub entries : List Entry
  pub ending : Result (List ℕ) Miss
  pub reads : ReadsEntries left after entries ending
  pub is_taken : IsTaken ending after old new
  pub takes : Takes s entries (Err e) t

-- why an open site doesn't take a stream, and what it is then; memory may be wanted for a part of it, and for taking
-- what was read before a reader failed
abbrev pub Unreceived : Seen → MeetingError → Option (List ℕ) → Option (List ℕ) → ℕ → ℕ → Seen → Type 0
Unreceived s (Frame e taken) left after old new t = MissesEntries s e taken left after old new t
Unreceived s (Take take_error.Broken) left after old new t = ⊥
Unreceived s (Take take_error.OutOfMemory) left after old new t = ⊥
Unreceived s (Take e) left after old new t = Refuses s e left after old new t
Unreceived s OutOfMemory left after old new t = (t ≡ s) × (bytes : List ℕ) × Consumes left after bytes × ((new ≡ old) ⊎ (new ≡ counted old))
Unreceived s e left after old new t = ⊥
