use Rattle.std.proofs.Common.{◌≡◌, ◌++◌, drop, length}
use Rattle.td_semantics.specs.Openings.{all_empty}
use Rattle.td_relvars.specs.ForProofs.Kept.{AreFirst, keys_of, rows_of}
use Rattle.td_relvars.proofs.database.all_empty.Given as goal

abbrev pub invariant-loop-place : goal.invariant-loop-place
invariant-loop-place l = record {
  left : all_empty l.catalogue.origins l.catalogue.schema.relvars ≡ rows_of l.stored.items ++ all_empty (drop l.place l.catalogue.origins) (drop l.place l.catalogue.schema.relvars);
  many : l.place ≡ length l.stored.items;
  first : AreFirst l.catalogue (keys_of l.stored.items);
}
