use Rattle.std.proofs.Common.{◌≡◌, ℕ, [], ◌++◌, None, get_or}
use Rattle.std.specs.Vec.Iter.{into_iter_items}
use Rattle.td_stamps.specs.Sets.{union}
use Rattle.td_stamps.specs.Checks.{first_clash, last_seq}
use Rattle.td_stamps.proofs.merge.without_repeats.Given as goal

abbrev pub invariant-loop-entry : goal.invariant-loop-entry
invariant-loop-entry l = record {
  seen : l.fn.sorted.items ≡ l.yielded ++ into_iter_items l.entry-iterator;
  clear : first_clash [] l.yielded ≡ None;
  items : l.entries.items ≡ union [] l.yielded;
  latest : (site : ℕ) → get_or l.latest.items site 0 ≡ last_seq site l.entries.items;
}
