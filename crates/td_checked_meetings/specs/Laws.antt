-- The laws of meetings that leave sites out.
use Rattle.std.specs.Prelude.{◌≡◌, ℕ, Bool, true, false, ◌||◌, List, ◌++◌}
use Rattle.td_stamps.specs.Entries.{clash}
use Rattle.td_stamps.specs.Sets.{has}
use Rattle.td_stamps.specs.Vectors.{HasAll, IsVector, lacks}
use Rattle.td_stamps.specs.declared.entry.Entry.{Entry}
use Rattle.td_replica.specs.Seen.{Seen, IsSound}
use Rattle.td_checked_meetings.specs.Scopes.{is_left_out, sent}
use Rattle.td_checked_meetings.specs.Steps.{Receives}
use Rattle.td_checked_meetings.specs.declared.scope.MeetingScope.{MeetingScope}
use Rattle.td_checked_meetings.specs.declared.taking.Received.{Received}

-- Two sites meet, each in a scope of its own: the first takes what the second sent by the vector of the first's scope,
-- and then the second what the first sends by the vector of the second's.
pub record MeetsInScope (c d : MeetingScope) (s t : Seen) (gains gives : Received) (after other : Seen) : Type 0 where
  pub first : Receives s c (sent d.left_out.items d.vector c.vector t.entries) gains after
  pub second : Receives t d (sent c.left_out.items c.vector d.vector after.entries) gives other

-- what either leaves out stays at each as it was
abbrev pub LeftOutStays : Type 0
LeftOutStays =
    (c d : MeetingScope) (s t : Seen) (gains gives : Received) (after other : Seen) → IsSound s → IsSound t → MeetsInScope c d s t gains gives after other
    → (e : Entry) → (is_left_out c.left_out.items e || is_left_out d.left_out.items e) ≡ true → (has after.entries e ≡ has s.entries e) × (has other.entries e ≡ has t.entries e)

-- what is beyond the sender's vector stays with it
abbrev pub BeyondStays : Type 0
BeyondStays =
    (c d : MeetingScope) (s t : Seen) (gains gives : Received) (after other : Seen) → IsSound s → IsSound t → MeetsInScope c d s t gains gives after other
    → (e : Entry) → (lacks d.vector e ≡ true → has after.entries e ≡ has s.entries e) × (lacks c.vector e ≡ true → has other.entries e ≡ has t.entries e)

-- a site's entries have no gap below any
abbrev pub HasNoGap : ℕ → List Entry → Type 0
HasNoGap site xs = (e : Entry) → has xs e ≡ true → e.site ≡ site → HasAll xs site e.seq

-- no two of a site's entries clash
abbrev pub NoClashAt : ℕ → List Entry → Type 0
NoClashAt site xs = (x y : Entry) → has xs x ≡ true → has xs y ≡ true → x.site ≡ site → clash x y ≡ false

-- The vectors are those of what the sites hold. Then of each site that neither leaves out, that has no gap and no clash,
-- both hold what either held.
abbrev pub BySite : Type 0
BySite =
    (c d : MeetingScope) (s t : Seen) (gains gives : Received) (after other : Seen) → IsSound s → IsSound t → IsVector s.entries c.vector → IsVector t.entries d.vector
    → MeetsInScope c d s t gains gives after other → (e : Entry) → (is_left_out c.left_out.items e || is_left_out d.left_out.items e) ≡ false
    → HasNoGap e.site s.entries → HasNoGap e.site t.entries → NoClashAt e.site (s.entries ++ t.entries)
    → (has after.entries e ≡ (has s.entries e || has t.entries e)) × (has other.entries e ≡ (has s.entries e || has t.entries e))
