-- Cut meetings: the link fails while a site is sent entries, and the site takes those that came whole.
use Rattle.std.specs.Prelude.{◌≡◌, ◌≤◌, ◌⊎◌, ℕ, suc, ◌+◌, Bool, true, false, length, take}
use Rattle.std.specs.List.{filter}
use Rattle.td_stamps.specs.Checks.{fresh_count}
use Rattle.td_stamps.specs.Sets.{has}
use Rattle.td_stamps.specs.Vectors.{IsVector, VersionVector, after_vector, lacks}
use Rattle.td_stamps.specs.declared.entry.Entry.{Entry}
use Rattle.td_replica.specs.Calls.{TakesBatch}
use Rattle.td_replica.specs.Seen.{Seen, IsSound}
use Rattle.td_replica.specs.declared.calls.Taken.{Taken}

-- Of the entries that pass a test, such as those of sites that are not left out, another site sends those after the
-- site's version vector, in stamp order. The site takes a front of them as one batch.
pub record TakesSome (keep : Entry → Bool) (s t : Seen) (gains : Taken) (after : Seen) : Type 0 where
  pub vector : VersionVector
  pub is : IsVector s.entries vector
  pub count : ℕ
  pub takes : TakesBatch s (take count (filter keep (after_vector vector t.entries))) gains after

-- the vector counts each entry that the site holds: none of them stands behind a gap
abbrev pub CountsEach : VersionVector → Seen → Type 0
CountsEach v s = (e : Entry) → has s.entries e ≡ true → lacks v e ≡ false

-- so many cut meetings with a site that stays as it is, each of which brought something new
pub data TakesOften (keep : Entry → Bool) (t : Seen) : ℕ → Seen → Seen → Type 0 where
  none_came : {s : Seen} → TakesOften keep t 0 s s
  next_came : {n : ℕ} {s mid after : Seen} {gains : Taken} → TakesSome keep s t gains mid → 1 ≤ gains.fresh
      → TakesOften keep t n mid after → TakesOften keep t (suc n) s after

-- how many of another site's entries that pass the test a site lacks
abbrev pub lacking : (Entry → Bool) → Seen → Seen → ℕ
lacking keep s t = fresh_count s.entries (filter keep t.entries)

-- behind it the site has what it held, and else only what the other one has and passes the test
abbrev pub CutMeetingKeeps : Type 0
CutMeetingKeeps =
    (keep : Entry → Bool) (s t : Seen) (gains : Taken) (after : Seen) → IsSound s → TakesSome keep s t gains after
    → (e : Entry) → (has s.entries e ≡ true → has after.entries e ≡ true)
    × (has after.entries e ≡ true → (has s.entries e ≡ true) ⊎ ((has t.entries e ≡ true) × (keep e ≡ true)))

-- and where the site has no gap, each entry that comes is new
abbrev pub CutMeetingBringsNew : Type 0
CutMeetingBringsNew =
    (keep : Entry → Bool) (s t : Seen) (gains : Taken) (after : Seen) → IsSound s → IsSound t
    → (some : TakesSome keep s t gains after) → CountsEach some.vector s
    → gains.fresh ≡ length (take some.count (filter keep (after_vector some.vector t.entries)))

-- after n of them, each of which brings something new, the site lacks at least n fewer
abbrev pub CutMeetingsProgress : Type 0
CutMeetingsProgress =
    (keep : Entry → Bool) (t s after : Seen) (n : ℕ) → IsSound s → IsSound t → TakesOften keep t n s after
    → lacking keep after t + n ≤ lacking keep s t

-- after as many of them as it lacked entries, it has all that pass the test
abbrev pub CutMeetingsEnd : Type 0
CutMeetingsEnd =
    (keep : Entry → Bool) (t s after : Seen) → IsSound s → IsSound t → TakesOften keep t (lacking keep s t) s after
    → (e : Entry) → keep e ≡ true → has t.entries e ≡ true → has after.entries e ≡ true
