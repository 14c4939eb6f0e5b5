use Rattle.std.proofs.Common.{◌≡◌, ℕ, All, map}
use Rattle.std.specs.Vec.Iter.{into_iter_items}
use Rattle.td_values.specs.Rows.{RowsData}
use Rattle.td_semantics.specs.Databases.{Belongs}
use Rattle.td_relvars.specs.ForProofs.Kept.{copied_keys, copies_of}
use Rattle.td_relvars.specs.Keys.{key_at}
use Rattle.td_relvars.specs.Parts.{put_part}
use Rattle.td_relvars.proofs.database.Database.put_back.Given as goal

abbrev pub invariant-loop-relvar : goal.invariant-loop-relvar
invariant-loop-relvar l = record {
  same : l.self.catalogue ≡ l.initial.self.catalogue;
  left : put_part (copies_of (into_iter_items l.relvar-iterator)) l.self.stored ≡ put_part l.fn.part.copies l.initial.self.stored;
  each : All (λ (p : ℕ × RowsData). Belongs l.initial.self.catalogue p.0 p.1) (copies_of (into_iter_items l.relvar-iterator));
  keys : copied_keys (into_iter_items l.relvar-iterator) ≡ map (λ (p : ℕ × RowsData). key_at l.initial.self.catalogue p.0) (copies_of (into_iter_items l.relvar-iterator));
}
