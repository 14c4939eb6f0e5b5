-- What a site is seen as: the script that it started from, its number, the most entries that it may hold, those that it
-- holds, in stamp order, and whether it is open.
use Rattle.std.specs.Prelude.{◌≡◌, ◌≤◌, ℕ, nat_le, Bool, true, ◌&&◌, List, length}
use Rattle.std.specs.List.{list_all}
use Rattle.td_stamps.specs.Entries.{in_range}
use Rattle.td_stamps.specs.Sets.{Holding, is_set}
use Rattle.td_stamps.specs.declared.entry.Entry.{Entry}
use Rattle.td_stamps.specs.declared.entry.Stamp.{Stamp}
use Rattle.td_semantics.specs.Databases.{DatabaseData}
use Rattle.td_semantics.specs.declared.outcome.Outcome.{Outcome}
use Rattle.td_replica.specs.Histories.{IsHistory}

pub record Seen : Type 0 where
  pub script : List ℕ
  pub site : ℕ
  pub limit : ℕ
  pub entries : List Entry
  pub live : Bool

-- a site that is always open
pub record Contents : Type 0 where
  pub script : List ℕ
  pub site : ℕ
  pub limit : ℕ
  pub entries : List Entry

abbrev pub always_open : Contents → Seen
always_open s = record { script = s.script; site = s.site; limit = s.limit; entries = s.entries; live = true }

abbrev pub with_entries : Seen → List Entry → Seen
with_entries s es = record { script = s.script; site = s.site; limit = s.limit; entries = es; live = s.live }

abbrev pub holding : Seen → Holding
holding s = record { entries = s.entries; limit = s.limit }

-- the outcomes of the history of what it holds, and the database after it
abbrev pub IsTold : Seen → List (Stamp × Outcome) → DatabaseData → Type 0
IsTold s os d = IsHistory s.script s.entries os d

abbrev pub AreOutcomes : Seen → List (Stamp × Outcome) → Type 0
AreOutcomes s os = (d : DatabaseData) × IsTold s os d

abbrev pub Leaves : Seen → DatabaseData → Type 0
Leaves s d = (os : List (Stamp × Outcome)) × IsTold s os d

-- the most entries that a site may hold
abbrev pub is_limit : ℕ → Bool
is_limit n = nat_le 1 n && nat_le n 100000

-- what every site keeps to: its number is one, it holds a set within its limit, and its script was accepted
pub record IsSound (s : Seen) : Type 0 where
  pub site : 1 ≤ s.site
  pub limit : is_limit s.limit ≡ true
  pub set : is_set s.entries ≡ true
  pub ranges : list_all in_range s.entries ≡ true
  pub within : length s.entries ≤ s.limit
  pub outcomes : List (Stamp × Outcome)
  pub told : AreOutcomes s outcomes
