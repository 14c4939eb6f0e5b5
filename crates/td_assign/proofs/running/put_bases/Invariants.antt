use Rattle.std.proofs.Common.{◌≡◌, All}
use Rattle.std.specs.Vec.Iter.{into_iter_items}
use Rattle.td_semantics.specs.Given.{with_given}
use Rattle.td_assign.specs.ForProofs.Given.{AreDistinct, IsChange}
use Rattle.td_assign.specs.ForProofs.Lists.{IsKeyed, changes_of, given_to}
use Rattle.td_assign.proofs.running.put_bases.Given as goal

abbrev pub invariant-loop-target : goal.invariant-loop-target
invariant-loop-target l = record {
  same : l.database.catalogue ≡ l.initial.database.catalogue;
  left : with_given (given_to (changes_of (into_iter_items l.target-iterator))) l.database.stored ≡ with_given (given_to (changes_of l.fn.bases.items)) l.initial.database.stored;
  distinct : AreDistinct (changes_of (into_iter_items l.target-iterator));
  each : All (IsChange l.initial.database.catalogue) (changes_of (into_iter_items l.target-iterator));
  keyed : All (IsKeyed l.initial.database.catalogue) (into_iter_items l.target-iterator);
}
