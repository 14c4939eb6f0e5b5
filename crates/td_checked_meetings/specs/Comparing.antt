-- The comparison before a meeting. `ask`: the first site writes digests of what it holds. `answer_question`: the second
-- reads them, and writes its own of the same sites. `compare`: the first reads these, and writes which sites differ.
-- `add_differences`: the second reads that.
use Rattle.std.specs.Prelude.{◌≡◌, ◌≢◌, ℕ, true, false, List, [], ◌++◌, Option, Result, Ok, Err}
use Rattle.std.specs.Io.KnownBytes.{Appends}
use Rattle.td_io.specs.Streams.{AppendsFront}
use Rattle.sha2.specs.Sha256.{sha256}
use Rattle.td_stamps.specs.Vectors.{IsVector, VersionVector}
use Rattle.td_frames.specs.declared.error.FrameError.TheVariants.{BadFrame}
use Rattle.td_replica.specs.Seen.{Seen}
use Rattle.td_comparison.specs.declared.digest.SiteDigest.{SiteDigest}
use Rattle.td_comparison.specs.Digests.{answers_to, differing, known_to_differ, question_of}
use Rattle.td_comparison.specs.Messages.{are_differences, comparison_frame, differences_frame, differences_in, digests_in, is_comparison, script_in, site_in}
use Rattle.td_meeting.specs.declared.error.MeetingError.{MeetingError}
use Rattle.td_meeting.specs.declared.error.MeetingError.TheVariants.{Broken, Frame, OutOfMemory, WriteFault}
use Rattle.td_checked_meetings.specs.declared.scope.MeetingScope.{MeetingScope}

-- a comparison by a site
abbrev pub comparison_of : Seen → List SiteDigest → List ℕ
comparison_of s ds = comparison_frame s.site (sha256 s.script) ds

-- ---- ask: the vector of what is held is returned

abbrev pub Asked : Seen → Option (List ℕ) → Result VersionVector MeetingError → Option (List ℕ) → Type 0
Asked s old (Ok v) new = (s.live ≡ true) × IsVector s.entries v × Appends old new (comparison_of s (question_of s.entries v))
Asked s old (Err Broken) new = (s.live ≡ false) × (new ≡ old)
Asked s old (Err OutOfMemory) new = (s.live ≡ true) × (new ≡ old)
Asked s old (Err (WriteFault count)) new = (s.live ≡ true) × (v : VersionVector) × IsVector s.entries v × AppendsFront old new (comparison_of s (question_of s.entries v)) × (count ≡ 0)
Asked s old (Err e) new = ⊥

-- ---- a comparison of another site of the same script is compared; of any other none is

abbrev pub IsOfAnother : Seen → List ℕ → Type 0
IsOfAnother s bytes = (site_in bytes ≢ s.site) × (script_in bytes ≡ sha256 s.script)

-- what is answered: digests of the sites that are named
pub record AnswersComparison (s : Seen) (bytes : List ℕ) (c : MeetingScope) (ds : List SiteDigest) : Type 0 where
  pub vector : IsVector s.entries c.vector
  pub compared : IsOfAnother s bytes → (ds ≡ answers_to s.entries c.vector (digests_in bytes)) × (c.left_out.items ≡ known_to_differ s.entries c.vector (digests_in bytes))
  pub not_compared : (IsOfAnother s bytes → ⊥) → (ds ≡ []) × (c.left_out.items ≡ [])

abbrev pub AnsweredQuestion : Seen → List ℕ → Option (List ℕ) → Result MeetingScope MeetingError → Option (List ℕ) → Type 0
AnsweredQuestion s bytes old (Ok c) new = (s.live ≡ true) × (is_comparison bytes ≡ true) × (ds : List SiteDigest) × AnswersComparison s bytes c ds × Appends old new (comparison_of s ds)
AnsweredQuestion s bytes old (Err Broken) new = (s.live ≡ false) × (new ≡ old)
AnsweredQuestion s bytes old (Err (Frame BadFrame count)) new = (s.live ≡ true) × (is_comparison bytes ≡ false) × (new ≡ old) × (count ≡ 0)
AnsweredQuestion s bytes old (Err OutOfMemory) new = (s.live ≡ true) × (new ≡ old)
AnsweredQuestion s bytes old (Err (WriteFault count)) new =
    (s.live ≡ true) × (is_comparison bytes ≡ true) × (c : MeetingScope) × (ds : List SiteDigest) × AnswersComparison s bytes c ds × AppendsFront old new (comparison_of s ds) × (count ≡ 0)
AnsweredQuestion s bytes old (Err e) new = ⊥

-- ---- compare: which sites differ

pub record Compares (s : Seen) (v : VersionVector) (bytes : List ℕ) (c : MeetingScope) : Type 0 where
  pub vector : c.vector ≡ v
  pub compared : IsOfAnother s bytes → c.left_out.items ≡ differing s.entries v (digests_in bytes)
  pub not_compared : (IsOfAnother s bytes → ⊥) → c.left_out.items ≡ []

abbrev pub Compared : Seen → VersionVector → List ℕ → Option (List ℕ) → Result MeetingScope MeetingError → Option (List ℕ) → Type 0
Compared s v bytes old (Ok c) new = (s.live ≡ true) × (is_comparison bytes ≡ true) × Compares s v bytes c × Appends old new (differences_frame c.left_out.items)
Compared s v bytes old (Err Broken) new = (s.live ≡ false) × (new ≡ old)
Compared s v bytes old (Err (Frame BadFrame count)) new = (s.live ≡ true) × (is_comparison bytes ≡ false) × (new ≡ old) × (count ≡ 0)
Compared s v bytes old (Err OutOfMemory) new = (s.live ≡ true) × (new ≡ old)
Compared s v bytes old (Err (WriteFault count)) new =
    (s.live ≡ true) × (is_comparison bytes ≡ true) × (c : MeetingScope) × Compares s v bytes c × AppendsFront old new (differences_frame c.left_out.items) × (count ≡ 0)
Compared s v bytes old (Err e) new = ⊥

-- ---- add_differences

abbrev pub AddsDifferences : MeetingScope → List ℕ → Result (Unit {0}) MeetingError → MeetingScope → Type 0
AddsDifferences c bytes (Ok x) after = (are_differences bytes ≡ true) × (after.vector ≡ c.vector) × (after.left_out.items ≡ c.left_out.items ++ differences_in bytes)
AddsDifferences c bytes (Err (Frame BadFrame count)) after = (are_differences bytes ≡ false) × (after ≡ c) × (count ≡ 0)
AddsDifferences c bytes (Err OutOfMemory) after = after ≡ c
AddsDifferences c bytes (Err e) after = ⊥

-- ---- whole_scope: no site is left out

abbrev pub IsWhole : Seen → Result MeetingScope MeetingError → Type 0
IsWhole s (Ok c) = (s.live ≡ true) × IsVector s.entries c.vector × (c.left_out.items ≡ [])
IsWhole s (Err Broken) = s.live ≡ false
IsWhole s (Err OutOfMemory) = s.live ≡ true
IsWhole s (Err e) = ⊥
