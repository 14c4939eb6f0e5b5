-- Meetings of sites at their places.
use Rattle.std.specs.Prelude.{◌≡◌, ℕ, List, Some, Result, slice_get, slice_set}
use Rattle.td_replica.specs.Seen.{Seen}
use Rattle.td_meeting.specs.Meetings.{Meets}
use Rattle.td_meeting.specs.declared.error.MeetingError.{MeetingError}
use Rattle.td_meeting.specs.declared.error.MeetingError.TheVariants as meeting_error
use Rattle.td_meeting.specs.declared.meeting.Met.{Met}
use Rattle.td_meeting.specs.declared.meeting.MeetingRefusal.{MeetingRefusal}
use Rattle.td_answers.specs.Answers.{TellsMet}
use Rattle.td_answers.specs.Sites.{Sites}

abbrev pub MeetsAt : Sites → ℕ → ℕ → Result Met MeetingRefusal → Sites → Type 0
MeetsAt old a b r new =
    (s t : Seen) → slice_get old a ≡ Some s → slice_get old b ≡ Some t
    → (after : Seen) × (other : Seen) × Meets s t r after other × (new ≡ slice_set (slice_set old a after) b other)

abbrev pub TellsMetAt : ℕ × ℕ → Sites → ℕ → ℕ → List ℕ → Sites → Type 0
TellsMetAt ns old a b text new =
    (s t : Seen) → slice_get old a ≡ Some s → slice_get old b ≡ Some t
    → (after : Seen) × (other : Seen) × TellsMet ns.0 ns.1 s t text after other × (new ≡ slice_set (slice_set old a after) b other)

-- why two sites may not meet: one of three reasons
abbrev pub IsUnmet : MeetingError → Type 0
IsUnmet meeting_error.Broken = Unit {0}
IsUnmet meeting_error.OtherScript = Unit {0}
IsUnmet meeting_error.SameSite = Unit {0}
IsUnmet e = ⊥
