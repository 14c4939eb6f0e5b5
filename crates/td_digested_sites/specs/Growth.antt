-- What a site holds before and after a call that adds entries. Only proofs and private functions use it.
use Rattle.std.specs.Prelude.{◌≡◌, true}
use Rattle.std.specs.List.{list_all}
use Rattle.td_stamps.specs.Entries.{in_range}
use Rattle.td_stamps.specs.Sets.{has, is_set}
use Rattle.td_stamps.specs.declared.entry.Entry.{Entry}
use Rattle.td_replica.specs.Seen.{Seen}

-- a set before and after, in its ranges, and all that was there is there
pub record StaysHeld (s after : Seen) : Type 0 where
  pub was_set : is_set s.entries ≡ true
  pub set : is_set after.entries ≡ true
  pub ranges : list_all in_range after.entries ≡ true
  pub stays : (e : Entry) → has s.entries e ≡ true → has after.entries e ≡ true
