-- What is told of bytes in memory, which a site wrote and the other one reads.
use Rattle.std.specs.Prelude.{◌≡◌, ◌≢◌, ◌⊎◌, ℕ, List, [], ◌++◌, Result, Ok, Err}
use Rattle.td_stamps.specs.Vectors.{VersionVector, IsVector}
use Rattle.td_stamps.specs.declared.entry.Entry.{Entry}
use Rattle.td_frames.specs.Reading.{entries_at, greeting_at, most_entries}
use Rattle.td_frames.specs.declared.greeting.Greeting.{Greeting}
use Rattle.td_frames.specs.declared.version.Version.TheVariants.{Second}
use Rattle.td_replica.specs.Calls.{TakesBatch}
use Rattle.td_replica.specs.Seen.{Seen}
use Rattle.td_replica.specs.declared.calls.Taken.{Taken}
use Rattle.td_meeting.specs.declared.error.MeetingError.{MeetingError}
use Rattle.td_meeting.specs.declared.error.MeetingError.TheVariants.{OutOfMemory, OtherScript, SameSite, Take}
use Rattle.td_meeting.specs.declared.meeting.MeetingRefusal.{MeetingRefusal}
use Rattle.td_meeting.specs.Writing.{Greets, sends}
use Rattle.td_meeting.specs.Steps.{AreSent}
use Rattle.td_meeting.specs.ForProofs.Parts.{Untaken}

-- ---- a greeting that is there whole

abbrev pub Heard : Seen → Greeting → List ℕ → Result Greeting MeetingError → List ℕ → Type 0
Heard s g more (Ok x) rest = (x ≡ g) × (rest ≡ more)
Heard s g more (Err OtherScript) rest = g.script ≢ s.script
Heard s g more (Err SameSite) rest = g.site ≡ s.site
Heard s g more (Err OutOfMemory) rest = Unit {0}
Heard s g more (Err e) rest = ⊥

abbrev pub HearsIn : Seen → List ℕ → Result Greeting MeetingError → List ℕ → Type 0
HearsIn s left r rest = (g : Greeting) (more : List ℕ) → greeting_at left ≡ Ok (g, more) → Heard s g more r rest

-- it is answered by these bytes
abbrev pub Replies : Seen → Greeting → List ℕ → Type 0
Replies s g bytes = (own : List ℕ) × Greets s own × (bytes ≡ own ++ sends s g.vector) × AreSent s g.vector

abbrev pub NoReply : Seen → Greeting → MeetingError → Type 0
NoReply s g OtherScript = g.script ≢ s.script
NoReply s g SameSite = g.site ≡ s.site
NoReply s g OutOfMemory = Unit {0}
NoReply s g e = ⊥

abbrev pub Reply : Seen → Greeting → Result (List ℕ) MeetingError → Type 0
Reply s g (Ok bytes) = Replies s g bytes
Reply s g (Err e) = NoReply s g e

abbrev pub AnswersIn : Seen → List ℕ → Result (List ℕ) MeetingError → Type 0
AnswersIn s left r = (g : Greeting) → greeting_at left ≡ Ok (g, []) → Reply s g r

-- ---- a stream that is there whole

abbrev pub Taking : Seen → List Entry → Result Taken MeetingError → Seen → Type 0
Taking s es (Ok t) after = TakesBatch s es t after
Taking s es (Err e) after = Untaken s es e after

abbrev pub ReceivesIn : Seen → List ℕ → Result Taken MeetingError → Seen → Type 0
ReceivesIn s left r after = (es : List Entry) → entries_at Second most_entries left ≡ (es, Ok []) → Taking s es r after

abbrev pub SettlesNot : Seen → Greeting → List Entry → MeetingError → ℕ → Seen → Type 0
SettlesNot s g es OtherScript took after = g.script ≢ s.script
SettlesNot s g es SameSite took after = g.site ≡ s.site
SettlesNot s g es OutOfMemory took after = ((after ≡ s) × (took ≡ 0)) ⊎ ((x : Taken) × TakesBatch s es x after × (took ≡ x.fresh))
SettlesNot s g es (Take e) took after = Untaken s es (Take e) after × (took ≡ 0)
SettlesNot s g es e took after = ⊥

-- what was taken, and what is sent back
abbrev pub Settling : Seen → Greeting → List Entry → Result (Taken × List ℕ) MeetingRefusal → Seen → Type 0
Settling s g es (Ok x) after = TakesBatch s es x.0 after × (x.1 ≡ sends after g.vector) × AreSent after g.vector
Settling s g es (Err r) after = SettlesNot s g es r.error r.first_took after

abbrev pub SettlesIn : Seen → List ℕ → Result (Taken × List ℕ) MeetingRefusal → Seen → Type 0
SettlesIn s left r after = (g : Greeting) (more : List ℕ) (es : List Entry) → greeting_at left ≡ Ok (g, more) → entries_at Second most_entries more ≡ (es, Ok []) → Settling s g es r after

-- the second site's answer to the first's greeting
pub record IsAnswer (s t : Seen) (bytes : List ℕ) : Type 0 where
  pub vector : VersionVector
  pub is : IsVector s.entries vector
  pub own : List ℕ
  pub greets : Greets t own
  pub whole : bytes ≡ own ++ sends t vector
  pub sent : AreSent t vector
