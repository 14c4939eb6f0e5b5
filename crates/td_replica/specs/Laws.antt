-- The laws of histories and sites.
use Rattle.std.specs.Prelude.{◌≡◌, ℕ, true, List, take}
use Rattle.td_stamps.specs.Sets.{has, is_set}
use Rattle.td_stamps.specs.declared.entry.Entry.{Entry}
use Rattle.td_stamps.specs.declared.entry.Stamp.{Stamp}
use Rattle.td_semantics.specs.Databases.{DatabaseData, IsLegal}
use Rattle.td_semantics.specs.declared.outcome.Outcome.{Outcome}
use Rattle.td_replica.specs.Seen.{Seen, IsTold}
use Rattle.td_replica.specs.Histories.{IsHistory}

-- ---- histories and sites

-- the front of a history is the history of the front of its entries, after which every key and constraint is true
abbrev pub HistoryIsLegal : Type 0
HistoryIsLegal =
    (script : List ℕ) (es : List Entry) (os : List (Stamp × Outcome)) (d : DatabaseData) → IsHistory script es os d → (n : ℕ)
    → (e : DatabaseData) × IsHistory script (take n es) (take n os) e × IsLegal e

-- a list of entries has one history
abbrev pub HistoryIsUnique : Type 0
HistoryIsUnique =
    (script : List ℕ) (es : List Entry) (os ps : List (Stamp × Outcome)) (d e : DatabaseData) → IsHistory script es os d → IsHistory script es ps e → (os ≡ ps) × (d ≡ e)

-- two sites of one script that hold the same set of entries
pub record HoldTheSame (s t : Seen) : Type 0 where
  pub script : s.script ≡ t.script
  pub one_set : is_set s.entries ≡ true
  pub other_set : is_set t.entries ≡ true
  pub members : (e : Entry) → has s.entries e ≡ has t.entries e

-- have the same outcomes and relvars, whatever their numbers and limits
abbrev pub SitesAgree : Type 0
SitesAgree = (s t : Seen) → HoldTheSame s t → (os ps : List (Stamp × Outcome)) (d e : DatabaseData) → IsTold s os d → IsTold t ps e → (os ≡ ps) × (d ≡ e)
