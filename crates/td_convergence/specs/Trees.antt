-- Sites by their numbers, meetings of them one after another, and the trees along which they meet.
use Rattle.std.specs.Prelude.{◌≡◌, ℕ, Bool, true, false, ◌==◌, if◌then◌else◌, List, [], ◌∷◌, ◌++◌, map, reverse}
use Rattle.std.specs.List.{list_any}
use Rattle.td_stamps.specs.Entries.{clash}
use Rattle.td_stamps.specs.Sets.{has}
use Rattle.td_stamps.specs.declared.entry.Entry.{Entry}
use Rattle.td_replica.specs.Seen.{Seen, IsSound}
use Rattle.td_meeting.specs.Meetings.{MeetsWhole}
use Rattle.td_meeting.specs.declared.meeting.Met.{Met}

-- the site of each number; a number that no tree has may stand for any site
abbrev pub Numbered : Type 0
Numbered = ℕ → Seen

-- the two of a pair become these
abbrev pub with_two : Numbered → ℕ × ℕ → Seen → Seen → Numbered
with_two w p after other n = if n == p.0 then after else (if n == p.1 then other else w n)

-- these pairs meet one after another, each meeting is whole, and no other call is made between
pub data MeetInTurn : Numbered → List (ℕ × ℕ) → Numbered → Type 0 where
  none_met : {w : Numbered} → MeetInTurn w [] w
  next_met : {w u : Numbered} {p : ℕ × ℕ} {ps : List (ℕ × ℕ)} {met : Met} {after other : Seen}
      → MeetsWhole (w p.0) (w p.1) met after other → MeetInTurn (with_two w p after other) ps u
      → MeetInTurn w (p ∷ ps) u

-- a tree is a list of pairs, each a site and its parent; its sites are the root and the first of each pair
abbrev pub on_tree : ℕ → List (ℕ × ℕ) → List ℕ
on_tree root tree = root ∷ map (λ p. p.0) tree

abbrev pub is_among : ℕ → List ℕ → Bool
is_among n ns = list_any (λ m. m == n) ns

-- each parent is the root, or has its own parent later
abbrev pub LeavesFirst : ℕ → List (ℕ × ℕ) → Type 0
LeavesFirst root [] = Unit {0}
LeavesFirst root (p ∷ ps) = (is_among p.1 (on_tree root ps) ≡ true) × LeavesFirst root ps

-- no two entries clash, whichever sites hold them
abbrev pub NoneClash : Numbered → Type 0
NoneClash w =
    (n m : ℕ) (e f : Entry) → has (w n).entries e ≡ true → has (w m).entries f ≡ true → clash e f ≡ false

-- sound sites without a clash meet along a tree: from its leaves to its root, and then in the reverse order
pub record MeetAlong (root : ℕ) (tree : List (ℕ × ℕ)) (w u : Numbered) : Type 0 where
  pub order : LeavesFirst root tree
  pub sound : (n : ℕ) → IsSound (w n)
  pub free : NoneClash w
  pub met : MeetInTurn w (tree ++ reverse tree) u
