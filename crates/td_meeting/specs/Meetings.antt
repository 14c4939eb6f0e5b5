-- Meetings of two sites in memory: the first takes what it lacks of the second's entries, and then the second what it
-- lacks of the first's.
use Rattle.std.specs.Prelude.{◌≡◌, ◌≢◌, ◌⊎◌, ℕ, true, false, List, Result, Ok, Err}
use Rattle.td_stamps.specs.Vectors.{VersionVector, IsVector, after_vector}
use Rattle.td_stamps.specs.declared.entry.Entry.{Entry}
use Rattle.td_replica.specs.Calls.{Takes}
use Rattle.td_replica.specs.Seen.{Seen, IsSound}
use Rattle.td_replica.specs.declared.calls.Taken.{Taken}
use Rattle.td_replica.specs.declared.refusal.TakeError.{TakeError}
use Rattle.td_replica.specs.declared.refusal.TakeError.TheVariants as take_error
use Rattle.td_meeting.specs.declared.error.MeetingError.{MeetingError}
use Rattle.td_meeting.specs.declared.error.MeetingError.TheVariants.{Broken, OutOfMemory, OtherScript, SameSite, Take}
use Rattle.td_meeting.specs.declared.meeting.Met.{Met}
use Rattle.td_meeting.specs.declared.meeting.MeetingRefusal.{MeetingRefusal}

abbrev pub AreOpen : Seen → Seen → Type 0
AreOpen s t = (s.live ≡ true) × (t.live ≡ true)

abbrev pub IsOneClosed : Seen → Seen → Type 0
IsOneClosed s t = (s.live ≡ false) ⊎ (t.live ≡ false)

-- what the second has for the first: its entries after the first's version vector
pub record IsBatch (s t : Seen) (batch : List Entry) : Type 0 where
  pub vector : VersionVector
  pub first : IsVector s.entries vector
  pub rest : batch ≡ after_vector vector t.entries

-- a site takes what another has for it
pub record TakesFrom (s t : Seen) (r : Result Taken TakeError) (after : Seen) : Type 0 where
  pub both : AreOpen s t
  pub batch : List Entry
  pub lacks : IsBatch s t batch
  pub takes : Takes s batch r after

abbrev pub AreTwo : Seen → Seen → Type 0
AreTwo s t = (s.script ≡ t.script) × (s.site ≢ t.site)

-- two sites may meet, or why not
abbrev pub Judges : Seen → Seen → Result (Unit {0}) MeetingError → Type 0
Judges s t (Ok x) = AreOpen s t × AreTwo s t × IsSound s × IsSound t
Judges s t (Err Broken) = IsOneClosed s t
Judges s t (Err OtherScript) = AreOpen s t × (s.script ≢ t.script)
Judges s t (Err SameSite) = AreOpen s t × (s.script ≡ t.script) × (s.site ≡ t.site)
Judges s t (Err e) = ⊥

-- how many entries were fresh to each
pub record MeetsWhole (s t : Seen) (met : Met) (after other : Seen) : Type 0 where
  pub two : AreTwo s t
  pub gains : Taken
  pub gives : Taken
  pub first : TakesFrom s t (Ok gains) after
  pub second : TakesFrom t after (Ok gives) other
  pub first_fresh : met.fresh_a ≡ gains.fresh
  pub second_fresh : met.fresh_b ≡ gives.fresh

-- nothing is taken
abbrev pub Stay : Seen → Seen → ℕ → Seen → Seen → Type 0
Stay s t took after other = (after ≡ s) × (other ≡ t) × (took ≡ 0)

-- the first site has taken, and the second stays as it was
abbrev pub OneTook : Seen → Seen → ℕ → Seen → Seen → Type 0
OneTook s t took after other = (x : Taken) × TakesFrom s t (Ok x) after × (other ≡ t) × (took ≡ x.fresh)

-- the first take is refused, and the second site stays as it was; or the second is, and the first site has taken
abbrev pub Stops : Seen → Seen → TakeError → ℕ → Seen → Seen → Type 0
Stops s t e took after other =
    (TakesFrom s t (Err e) after × (other ≡ t) × (took ≡ 0)) ⊎ ((x : Taken) × TakesFrom s t (Ok x) after × TakesFrom t after (Err e) other × (took ≡ x.fresh))

-- why two sites do not meet, how many fresh entries the first has taken, and what the sites are then
abbrev pub MeetsNot : Seen → Seen → MeetingError → ℕ → Seen → Seen → Type 0
MeetsNot s t Broken took after other = IsOneClosed s t × Stay s t took after other
MeetsNot s t OtherScript took after other = AreOpen s t × (s.script ≢ t.script) × Stay s t took after other
MeetsNot s t SameSite took after other = AreOpen s t × (s.script ≡ t.script) × (s.site ≡ t.site) × Stay s t took after other
MeetsNot s t OutOfMemory took after other = AreOpen s t × AreTwo s t × (Stay s t took after other ⊎ OneTook s t took after other)
MeetsNot s t (Take take_error.Broken) took after other = ⊥
MeetsNot s t (Take take_error.OutOfMemory) took after other = ⊥
MeetsNot s t (Take e) took after other = AreTwo s t × Stops s t e took after other
MeetsNot s t e took after other = ⊥

abbrev pub Meets : Seen → Seen → Result Met MeetingRefusal → Seen → Seen → Type 0
Meets s t (Ok met) after other = MeetsWhole s t met after other
Meets s t (Err r) after other = MeetsNot s t r.error r.first_took after other
