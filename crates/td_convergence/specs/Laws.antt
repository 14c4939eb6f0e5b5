-- The laws of meetings along a spanning tree, and of what may stop one meeting.
use Rattle.std.specs.Prelude.{◌≡◌, ◌⊎◌, ℕ, ◌≤◌, true, List, ◌++◌, length, Err}
use Rattle.std.specs.List.{list_any}
use Rattle.td_stamps.specs.Sets.{NoClash, has, union}
use Rattle.td_stamps.specs.declared.entry.Entry.{Entry}
use Rattle.td_replica.specs.Laws.{HoldTheSame}
use Rattle.td_replica.specs.Seen.{Seen, IsSound}
use Rattle.td_replica.specs.declared.refusal.TakeError.TheVariants as take_error
use Rattle.td_meeting.specs.Meetings.{AreOpen, AreTwo, Meets}
use Rattle.td_meeting.specs.declared.error.MeetingError.TheVariants.{OutOfMemory, Take}
use Rattle.td_meeting.specs.declared.meeting.MeetingRefusal.{MeetingRefusal}
use Rattle.td_convergence.specs.Trees.{Numbered, MeetAlong, on_tree, is_among}

-- after meetings from the leaves to the root and back, each site of the tree holds exactly what any of them held
abbrev pub Convergence : Type 0
Convergence =
    (root : ℕ) (tree : List (ℕ × ℕ)) (w u : Numbered) → MeetAlong root tree w u
    → (n : ℕ) → is_among n (on_tree root tree) ≡ true
    → (e : Entry) → has (u n).entries e ≡ list_any (λ m. has (w m).entries e) (on_tree root tree)

-- so any two sites of the tree have one script, and hold the same entries
abbrev pub ConvergedHoldTheSame : Type 0
ConvergedHoldTheSame =
    (root : ℕ) (tree : List (ℕ × ℕ)) (w u : Numbered) → MeetAlong root tree w u
    → (one other : ℕ) → is_among one (on_tree root tree) ≡ true → is_among other (on_tree root tree) ≡ true
    → HoldTheSame (u one) (u other)

-- two sites may meet, nothing clashes, and both have room: then want of memory or a failing journal alone stops them
abbrev pub RoomMeets : Type 0
RoomMeets =
    (s t : Seen) (refusal : MeetingRefusal) (after other : Seen) → IsSound s → IsSound t → AreOpen s t → AreTwo s t
    → NoClash (s.entries ++ t.entries)
    → length (union s.entries t.entries) ≤ s.limit → length (union s.entries t.entries) ≤ t.limit
    → Meets s t (Err refusal) after other
    → (refusal.error ≡ OutOfMemory) ⊎ (refusal.error ≡ Take take_error.JournalWrite)
