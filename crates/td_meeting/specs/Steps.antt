-- The four steps of a meeting of a first and a second site. `greet`: the first writes its greeting. `answer`: the
-- second reads it, and writes its own greeting and what it holds after the first's version vector. `settle`: the first
-- reads all of that, takes the entries as one batch, and writes what it then holds after the second's version vector.
-- `finish`: the second reads and takes this.
use Rattle.std.specs.Prelude.{◌≡◌, ◌⊎◌, ℕ, Bool, true, false, List, ◌++◌, Option, Result, Ok, Err}
use Rattle.std.specs.List.{AllByRecursion}
use Rattle.std.specs.Io.KnownBytes.{Keeps, Appends}
use Rattle.td_io.specs.Counted.{counted}
use Rattle.td_io.specs.declared.streams.Source as source
use Rattle.td_io.specs.declared.streams.Sink as sink
use Rattle.td_io.specs.Streams.{AppendsFront}
use Rattle.td_stamps.specs.Vectors.{VersionVector, after_vector}
use Rattle.td_stamps.specs.declared.entry.Entry.{Entry}
use Rattle.td_frames.specs.Spelling.{HasFrame}
use Rattle.td_frames.specs.declared.greeting.Greeting.{Greeting}
use Rattle.td_frames.specs.declared.version.Version.TheVariants.{Second}
use Rattle.td_replica.specs.Calls.{TakesBatch}
use Rattle.td_replica.specs.Seen.{Seen}
use Rattle.td_replica.specs.declared.calls.Taken.{Taken}
use Rattle.td_meeting.specs.Reading.{Hears, ReadsStream, Unheard, Unreceived}
use Rattle.td_meeting.specs.Writing.{Greets, sends}
use Rattle.td_meeting.specs.declared.error.MeetingError.{MeetingError}
use Rattle.td_meeting.specs.declared.error.MeetingError.TheVariants.{Broken, OutOfMemory, WriteFault}

-- what is known of a link: the bytes that it has left, those that were written to it, how many failures it counted,
-- and whether all that was written has been handed on
pub record LinkData : Type 0 where
  pub left : Option (List ℕ)
  pub held : Option (List ℕ)
  pub failures : ℕ
  pub is_flushed : Bool

-- of a channel, and of a sink that may be a side of one
abbrev pub link_of : {C : Type 0} → source.Ghosts C → sink.Ghosts C → C → LinkData
link_of reads writes c = record { left = reads.left c; held = writes.held c; failures = reads.failures c; is_flushed = writes.is_flushed c }

abbrev pub side_of : {K : Type 0} → sink.Ghosts K → K → LinkData
side_of writes k = record { left = writes.aside k; held = writes.held k; failures = writes.faults k; is_flushed = writes.is_flushed k }

-- a site that isn't open reads and writes nothing
abbrev pub IsClosed : Seen → LinkData → LinkData → Type 0
IsClosed s old new = (s.live ≡ false) × (new ≡ old)

-- each entry that is sent has a frame
abbrev pub AreSent : Seen → VersionVector → Type 0
AreSent s v = AllByRecursion (HasFrame Second) (after_vector v s.entries)

-- ---- greet

abbrev pub GreetsOn : Seen → (List ℕ → Type 0) → Type 0
GreetsOn s Written = (s.live ≡ true) × (bytes : List ℕ) × Greets s bytes × Written bytes

abbrev pub Greeted : Seen → LinkData → Result (Unit {0}) MeetingError → LinkData → Type 0
Greeted s old (Ok x) new = GreetsOn s (Appends old.held new.held) × (new.failures ≡ old.failures) × (new.is_flushed ≡ true)
Greeted s old (Err (WriteFault taken)) new = GreetsOn s (AppendsFront old.held new.held) × (new.failures ≡ counted old.failures) × (taken ≡ 0)
Greeted s old (Err Broken) new = IsClosed s old new
Greeted s old (Err OutOfMemory) new = (s.live ≡ true) × (new ≡ old)
Greeted s old (Err e) new = ⊥

-- ---- answer

pub record AnswersOn (s : Seen) (old new : LinkData) (greeting : Greeting) (Written : List ℕ → Type 0) : Type 0 where
  pub live : s.live ≡ true
  pub heard : Hears s old.left new.left greeting
  pub own : List ℕ
  pub greets : Greets s own
  pub written : Written (own ++ sends s greeting.vector)

abbrev pub Answered : Seen → LinkData → Result (Unit {0}) MeetingError → LinkData → Type 0
Answered s old (Ok x) new =
    (g : Greeting) × AnswersOn s old new g (Appends old.held new.held) × AreSent s g.vector × (new.failures ≡ old.failures) × (new.is_flushed ≡ true)
Answered s old (Err (WriteFault taken)) new =
    (g : Greeting) × AnswersOn s old new g (AppendsFront old.held new.held) × (new.failures ≡ counted old.failures) × (taken ≡ 0)
Answered s old (Err Broken) new = IsClosed s old new
Answered s old (Err e) new = (s.live ≡ true) × Keeps old.held new.held × Unheard s e old.left new.left old.failures new.failures

-- ---- settle

pub record SettlesOn (s : Seen) (old new : LinkData) (greeting : Greeting) (t : Taken) (after : Seen) (Written : List ℕ → Type 0) : Type 0 where
  pub live : s.live ≡ true
  pub between : Option (List ℕ)
  pub heard : Hears s old.left between greeting
  pub batch : List Entry
  pub reads : ReadsStream between new.left batch
  pub takes : TakesBatch s batch t after
  pub written : Written (sends after greeting.vector)

-- the greeting isn't heard, or the stream is not taken whole
abbrev pub Unsettled : Seen → LinkData → MeetingError → LinkData → Seen → Type 0
Unsettled s old e new after =
    (Unheard s e old.left new.left old.failures new.failures × (after ≡ s))
    ⊎ ((between : Option (List ℕ)) × (g : Greeting) × Hears s old.left between g × Unreceived s e between new.left old.failures new.failures after)

abbrev pub Settled : Seen → LinkData → Result Taken MeetingError → LinkData → Seen → Type 0
Settled s old (Ok t) new after =
    (g : Greeting) × SettlesOn s old new g t after (Appends old.held new.held) × AreSent after g.vector × (new.failures ≡ old.failures) × (new.is_flushed ≡ true)
Settled s old (Err (WriteFault taken)) new after =
    (g : Greeting) × (t : Taken) × SettlesOn s old new g t after (AppendsFront old.held new.held) × (new.failures ≡ counted old.failures) × (taken ≡ t.fresh)
Settled s old (Err Broken) new after = IsClosed s old new × (after ≡ s)
Settled s old (Err e) new after = (s.live ≡ true) × Keeps old.held new.held × Unsettled s old e new after

-- ---- finish

abbrev pub Finished : Seen → Option (List ℕ) → Option (List ℕ) → ℕ → ℕ → Result Taken MeetingError → Seen → Type 0
Finished s left rest old new (Ok t) after = (s.live ≡ true) × (batch : List Entry) × ReadsStream left rest batch × TakesBatch s batch t after × (new ≡ old)
Finished s left rest old new (Err Broken) after = (s.live ≡ false) × (rest ≡ left) × (new ≡ old) × (after ≡ s)
Finished s left rest old new (Err e) after = (s.live ≡ true) × Unreceived s e left rest old new after
