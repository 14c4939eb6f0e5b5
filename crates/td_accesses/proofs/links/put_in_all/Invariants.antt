use Rattle.std.proofs.Common.{◌≡◌, ◌<◌, ℕ, get_or, length}
use Rattle.td_algebra.specs.KeyIndexes.{KeyIndexData}
use Rattle.td_accesses.specs.ForProofs.Growing.{AreLinksGrown}
use Rattle.td_accesses.proofs.Growing.{has_all}
use Rattle.td_accesses.proofs.links.put_in_all.Given as goal

abbrev pub invariant-loop-at : goal.invariant-loop-at
invariant-loop-at l = record {
  kept : AreLinksGrown l.initial.links.items l.links.items;
  long : length l.links.items ≡ length l.initial.links.items;
  there : (j : ℕ) (d : KeyIndexData) → j < l.at → has_all l.relation (get_or l.links.items j d);
}
