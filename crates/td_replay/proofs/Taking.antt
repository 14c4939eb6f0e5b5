-- What taking a batch answers.
use Rattle.std.proofs.Common.{◌≡◌, true, List, Ok, sym}
use Rattle.td_stamps.specs.declared.entry.Entry.{Entry}
use Rattle.td_stamps.specs.Checks.{check_of}
use Rattle.td_stamps.specs.Sets.{is_set, union}
use Rattle.td_stamps.proofs.Known.{known_adds_nothing}
use Rattle.td_replica.specs.Seen.{Seen, with_entries}

-- a batch that has nothing fresh changes nothing
pub nothing_new : (s : Seen) (batch : List Entry) → is_set s.entries ≡ true → check_of s.entries s.limit batch ≡ Ok 0 → s ≡ with_entries s (union s.entries batch)
nothing_new s batch set h = let same = known_adds_nothing s.entries s.limit batch set h in λ i. with_entries s (sym same i)
