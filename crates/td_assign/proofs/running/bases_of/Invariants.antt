use Rattle.std.proofs.Common.{◌≡◌, ◌++◌, All}
use Rattle.std.specs.Vec.Iter.{into_iter_items}
use Rattle.td_assign.specs.ForProofs.Given.{IsChange}
use Rattle.td_assign.specs.ForProofs.Lists.{IsKeyed, changes_of}
use Rattle.td_assign.proofs.running.bases_of.Given as goal

abbrev pub invariant-loop-change : goal.invariant-loop-change
invariant-loop-change l = record {
  made : l.fn.changes.items ≡ changes_of l.bases.items ++ into_iter_items l.change-iterator;
  keyed : All (IsKeyed l.database.catalogue) l.bases.items;
  each : All (IsChange l.database.catalogue) (into_iter_items l.change-iterator);
}
