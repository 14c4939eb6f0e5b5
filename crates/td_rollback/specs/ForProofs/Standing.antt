-- Where a replay stands.
use Rattle.std.specs.Prelude.{◌≡◌, ◌↔◌, ◌≤◌, ◌+◌, ℕ, suc, List, [], ◌∷◌, drop}
use Rattle.std.specs.List.{All, Contains}
use Rattle.td_stamps.specs.declared.entry.Entry.{Entry}
use Rattle.td_stamps.specs.declared.entry.Stamp.{Stamp}
use Rattle.td_stamps.specs.Entries.{stamp_of}
use Rattle.td_stamps.specs.History.{History}
use Rattle.td_rollback.specs.Going.{AreAlikeBut}
use Rattle.td_rollback.specs.Touched.{AreMore, IsTargetOf, Runs}
use Rattle.td_rollback.specs.Turns.{settled}
use Rattle.td_rollback.specs.ForProofs.Ways.{Way}
use Rattle.td_rollback.specs.declared.turns.ReplayedRecord.{ReplayedRecord}
use Rattle.td_rollback.specs.declared.turns.ReplayedRecord.TheVariants.{Kept, Again, Fresh}

-- how many old records the turns pass
abbrev pub passed : {R : Type 0} → List (ReplayedRecord R) → ℕ
passed [] = 0
passed (Fresh p ∷ ts) = passed ts
passed (Kept ∷ ts) = suc (passed ts)
passed (Again p ∷ ts) = suc (passed ts)

-- the entry's step leads on, and this is its record with its stamp
pub record Ran {S R : Type 0} (Step : S → Entry → R → S → Type 0) (s : S) (e : Entry) (p : Stamp × R) (t : S) : Type 0 where
  pub stamp : p.0 ≡ stamp_of e
  pub step : Step s e p.1 t

-- each of these was read of its entry
abbrev pub AreRead : {R : Type 0} → (Entry → R → Type 0) → List (Entry × R) → Type 0
AreRead IsRead xs = All (λ p. IsRead p.0 p.1) xs

-- the old entries and the new ones, as a replay begins with them
pub record Begun (S R : Type 0) : Type 0 where
  pub state : S
  pub old : List Entry
  pub log : List (Stamp × R)
  pub new : List Entry
  pub count : ℕ

-- the old entries that are left, with their records, the new ones before and those that are left
pub record Left (R : Type 0) : Type 0 where
  pub old : List Entry
  pub log : List (Stamp × R)
  pub before : List Entry
  pub new : List Entry

-- After these turns the state is u: it is alike, but for targets of those that ran, to the state that was there before
-- the old entries that are left, and no more ran than the count allows.
pub record Stands {S R : Type 0} (w : Way S R) (b : Begun S R) (l : Left R) (names : List ℕ) (turns : List (ReplayedRecord R)) (u : S) (count : ℕ) : Type 0 where
  pub ran : List Entry
  pub was : S
  pub last : S
  pub was_sound : w.Sound was
  pub is_sound : w.Sound u
  pub alike : AreAlikeBut w.Alike w.Target ran was u
  pub named : (n : ℕ) → Contains names n ↔ IsTargetOf w.Target ran n
  pub rest : History w.Step was l.old l.log last
  pub done : History w.Step b.state l.before (settled b.log turns) u
  pub left : drop (passed turns) b.log ≡ l.log
  pub more : AreMore l.old l.new
  pub counted : (n : ℕ) → Runs w.Footprint w.Target [] b.old b.new n → (m : ℕ) × Runs w.Footprint w.Target ran l.old l.new m × (count + m ≤ b.count + n)
