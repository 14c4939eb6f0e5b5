-- What the calls on held entries answer: whether a batch may be added, and the numbers of a site's next entry.
use Rattle.std.specs.Prelude.{◌≡◌, ℕ, suc, ◌+◌, true, ◌&&◌, nat_lt, nat_le, ◌==◌, List, [], ◌∷◌, ◌++◌, length, max, Option, Some, None, Result, Ok, Err, if◌then◌else◌}
use Rattle.std.specs.List.{list_any, list_all}
use Rattle.td_stamps.specs.declared.entry.Entry.{Entry}
use Rattle.td_stamps.specs.declared.errors.CheckError.{CheckError}
use Rattle.td_stamps.specs.declared.errors.CheckError.TheVariants.{BadEntry, Clash, Full}
use Rattle.td_stamps.specs.declared.errors.NextError.{NextError}
use Rattle.td_stamps.specs.declared.errors.NextError.TheVariants.{ClockEnd}
use Rattle.td_stamps.specs.declared.errors.PrepareError.{PrepareError}
use Rattle.td_stamps.specs.declared.errors.PrepareError.TheVariants as prepare
use Rattle.td_stamps.specs.Entries.{same, clash, in_range}
use Rattle.td_stamps.specs.Sets.{Holding, Joining, has, union}

-- the first of a batch that clashes with one seen before it
abbrev pub first_clash : List Entry → List Entry → Option Entry
first_clash seen [] = None
first_clash seen (e ∷ es) = if list_any (clash e) seen then Some e else first_clash (seen ++ e ∷ []) es

-- how many of a batch were not seen before
abbrev pub fresh_count : List Entry → List Entry → ℕ
fresh_count seen [] = 0
fresh_count seen (e ∷ es) = (if has seen e then 0 else 1) + fresh_count (seen ++ e ∷ []) es

-- and which these are, in batch order
abbrev pub fresh_of : List Entry → List Entry → List Entry
fresh_of seen [] = []
fresh_of seen (e ∷ es) = (if has seen e then [] else e ∷ []) ++ fresh_of (seen ++ e ∷ []) es

-- a clash refuses, and else the rest decides
abbrev pub clash_or : Option Entry → Result ℕ CheckError → Result ℕ CheckError
clash_or None rest = rest
clash_or (Some e) rest = Err (Clash e.site e.seq)

-- the fresh entries, where they and the held ones are within the limit
abbrev pub room_for : ℕ → ℕ → ℕ → Result ℕ CheckError
room_for held limit fresh = if nat_le (held + fresh) limit then Ok fresh else Err Full

-- what `check` answers: the first refusal in order, or the number of fresh entries
abbrev pub check_of : List Entry → ℕ → List Entry → Result ℕ CheckError
check_of held limit batch =
    if list_all in_range batch then clash_or (first_clash held batch) (room_for (length held) limit (fresh_count held batch)) else Err BadEntry

-- how many entries two lists begin with alike
abbrev pub shared_front : List Entry → List Entry → ℕ
shared_front [] ys = 0
shared_front (x ∷ xs) [] = 0
shared_front (x ∷ xs) (y ∷ ys) = if same x y then suc (shared_front xs ys) else 0

-- what `prepare` may answer: what `check` answers, the union, and how far it is what is held, save that want of memory
-- may stand for all but a bad entry
abbrev pub Prepares : Holding → List Entry → Result Joining PrepareError → Type 0
Prepares h batch (Ok p) = (check_of h.entries h.limit batch ≡ Ok p.fresh) × (p.entries ≡ union h.entries batch) × (p.front ≡ shared_front h.entries p.entries)
Prepares h batch (Err prepare.BadEntry) = check_of h.entries h.limit batch ≡ Err BadEntry
Prepares h batch (Err (prepare.Clash site seq)) = check_of h.entries h.limit batch ≡ Err (Clash site seq)
Prepares h batch (Err prepare.Full) = check_of h.entries h.limit batch ≡ Err Full
Prepares h batch (Err prepare.OutOfMemory) = list_all in_range batch ≡ true

-- the greatest sequence number of a site, 0 where it has none
abbrev pub last_seq : ℕ → List Entry → ℕ
last_seq site [] = 0
last_seq site (x ∷ xs) = if x.site == site then max x.seq (last_seq site xs) else last_seq site xs

-- the greatest clock of all sites, 0 where there is none
abbrev pub last_clock : List Entry → ℕ
last_clock [] = 0
last_clock (x ∷ xs) = max x.clock (last_clock xs)

-- what `next` answers: the numbers of the site's next entry, each one more than the greatest, where both are in range
abbrev pub next_of : ℕ → List Entry → Result (ℕ × ℕ) NextError
next_of site xs = if nat_lt (last_seq site xs) 1000000000 && nat_lt (last_clock xs) 1000000000000000000 then Ok (last_seq site xs + 1, last_clock xs + 1) else Err ClockEnd
