use Rattle.std.proofs.Common.{◌≡◌, ◌++◌, ℕ, drop, map}
use Rattle.td_values.specs.Rows.{RowsData}
use Rattle.td_relvars.specs.ForProofs.Kept.{copied_keys, copies_of}
use Rattle.td_relvars.specs.Keys.{key_at}
use Rattle.td_relvars.specs.Parts.{part_of}
use Rattle.td_relvars.proofs.parts.copies_at.Given as goal

abbrev pub invariant-loop-relvar : goal.invariant-loop-relvar
invariant-loop-relvar l = record {
  left : part_of l.database.stored l.relvars ≡ copies_of l.bases.items ++ part_of l.database.stored (drop l.relvar-index l.relvars);
  keys : copied_keys l.bases.items ≡ map (λ (p : ℕ × RowsData). key_at l.database.catalogue p.0) (copies_of l.bases.items);
}
