-- Meetings of two sites with other calls between the four steps, as a server makes them, which answers clients and
-- other sites meanwhile.
use Rattle.std.specs.Prelude.{◌≡◌, ℕ, true, List, ◌++◌, Some, Ok}
use Rattle.td_stamps.specs.Sets.{NoClash, has}
use Rattle.td_stamps.specs.declared.entry.Entry.{Entry}
use Rattle.td_replica.specs.Seen.{Seen, IsSound}
use Rattle.td_replica.specs.declared.calls.Taken.{Taken}
use Rattle.td_meeting.specs.Steps.{Answered, Finished, Greeted, LinkData, Settled}

-- what a site held, it holds later too
abbrev pub StillHolds : Seen → Seen → Type 0
StillHolds s later = (e : Entry) → has s.entries e ≡ true → has later.entries e ≡ true

-- what a step wrote to its link, behind what was there, comes over another link, whatever follows it there
pub record Arrives (old new other : LinkData) : Type 0 where
  pub before : List ℕ
  pub bytes : List ℕ
  pub behind : List ℕ
  pub was_held : old.held ≡ Some before
  pub is_held : new.held ≡ Some (before ++ bytes)
  pub comes : other.left ≡ Some (bytes ++ behind)

-- Two sites meet by the four steps: the first is seen as s at `greet` and as s' at `settle`, the second as t at
-- `answer` and as t' at `finish`. Each may make any calls between, after which it still holds what it held. Each step
-- ended well, and what it wrote came to the next one. The links are told in the order of the steps, before and behind
-- each.
pub record MeetByInterleavedSteps (s s' t t' after other : Seen) : Type 0 where
  pub links : ℕ → LinkData
  pub gains : Taken
  pub gives : Taken
  pub greeted : Greeted s (links 0) (Ok tt) (links 1)
  pub greeting : Arrives (links 0) (links 1) (links 2)
  pub answered : Answered t (links 2) (Ok tt) (links 3)
  pub answer : Arrives (links 2) (links 3) (links 4)
  pub first : StillHolds s s'
  pub settled : Settled s' (links 4) (Ok gains) (links 5) after
  pub back : Arrives (links 4) (links 5) (links 6)
  pub second : StillHolds t t'
  pub finished : Finished t' (links 6).left (links 7).left (links 6).failures (links 7).failures (Ok gives) other

-- behind it each holds all that either held at its first step, where no two entries of that clash
abbrev pub InterleavedMeetingKeepsAll : Type 0
InterleavedMeetingKeepsAll =
    (s s' t t' after other : Seen) → IsSound s → IsSound s' → IsSound t → IsSound t' → MeetByInterleavedSteps s s' t t' after other
    → NoClash (s.entries ++ t.entries) → (e : Entry) → has (s.entries ++ t.entries) e ≡ true
    → (has after.entries e ≡ true) × (has other.entries e ≡ true)
