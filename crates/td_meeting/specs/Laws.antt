-- The laws of meetings.
use Rattle.std.specs.Prelude.{◌≡◌, ℕ, Bool, List, ◌++◌, Option, Some, Ok}
use Rattle.td_stamps.specs.Sets.{NoClash, union}
use Rattle.td_replica.specs.Seen.{Seen, IsSound}
use Rattle.td_replica.specs.declared.calls.Taken.{Taken}
use Rattle.td_meeting.specs.Meetings.{MeetsWhole}
use Rattle.td_meeting.specs.Steps.{Answered, Finished, Greeted, LinkData, Settled}
use Rattle.td_meeting.specs.declared.meeting.Met.{Met}

-- after a whole meeting of two sites, no two entries of which clash, each holds the union
abbrev pub MeetingLeavesUnion : Type 0
MeetingLeavesUnion =
    (s t : Seen) (met : Met) (after other : Seen) → IsSound s → IsSound t → MeetsWhole s t met after other → NoClash (s.entries ++ t.entries)
    → (after.entries ≡ union s.entries t.entries) × (other.entries ≡ union s.entries t.entries)

-- a link that has these bytes left, and to which these were written
abbrev pub link : Option (List ℕ) → List ℕ → ℕ → Bool → LinkData
link left held failures is_flushed = record { left = left; held = Some held; failures = failures; is_flushed = is_flushed }

-- Two sites meet by the four steps, with no other call between them, over a link of each: what a step wrote to the one
-- came to the other, by whatever way and whatever follows it there, and each step ended well. The links may have been
-- written to before.
pub record MeetBySteps (s t : Seen) (gains gives : Taken) (after other : Seen) : Type 0 where
  pub greeting : List ℕ
  pub answer : List ℕ
  pub back : List ℕ
  pub first_held : List ℕ
  pub second_held : List ℕ
  pub behind_greeting : List ℕ
  pub behind_answer : List ℕ
  pub behind_back : List ℕ
  pub left_to_first : Option (List ℕ)
  pub rest_to_first : Option (List ℕ)
  pub unread_by_first : List ℕ
  pub unread_by_second : List ℕ
  pub left_at_last : List ℕ
  pub counts : ℕ → ℕ
  pub flushed : ℕ → Bool
  pub greeted : Greeted s (link left_to_first first_held (counts 0) (flushed 0)) (Ok tt) (link rest_to_first (first_held ++ greeting) (counts 1) (flushed 1))
  pub answered :
      Answered t (link (Some (greeting ++ behind_greeting)) second_held (counts 2) (flushed 2)) (Ok tt)
      (link (Some unread_by_second) (second_held ++ answer) (counts 3) (flushed 3))
  pub settled :
      Settled s (link (Some (answer ++ behind_answer)) (first_held ++ greeting) (counts 4) (flushed 4)) (Ok gains)
      (link (Some unread_by_first) ((first_held ++ greeting) ++ back) (counts 5) (flushed 5)) after
  pub finished : Finished t (Some (back ++ behind_back)) (Some left_at_last) (counts 6) (counts 7) (Ok gives) other

-- which leaves what a meeting in memory does
abbrev pub StepsLeaveExchange : Type 0
StepsLeaveExchange =
    (s t : Seen) (gains gives : Taken) (after other : Seen) → IsSound s → IsSound t → MeetBySteps s t gains gives after other
    → MeetsWhole s t (record { fresh_a = gains.fresh; fresh_b = gives.fresh }) after other
