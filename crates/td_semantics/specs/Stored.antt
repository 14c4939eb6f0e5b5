-- Relvars that are stored: each base relvar has a relation of its heading.
use Rattle.std.specs.Prelude.{◌≡◌, ℕ, true, Some, Ok, slice_get}
use Rattle.td_values.specs.Headings.{Header}
use Rattle.td_values.specs.Rows.{RowsData}
use Rattle.td_syntax.specs.declared.tree.Named.{Named}
use Rattle.td_headings.specs.Catalogues.{CatalogueData}
use Rattle.td_headings.specs.Reached.{is_base}
use Rattle.td_meaning.specs.Mean.{Relvars}
use Rattle.td_type_soundness.specs.Meanings.{IsRelationOver}

abbrev pub AreStored : CatalogueData → Relvars → Type 0
AreStored c relvars = (n : ℕ) (v : Named Header) → is_base (slice_get c.origins n) ≡ true → slice_get c.schema.relvars n ≡ Some v → (r : RowsData) × (relvars n ≡ Ok r) × IsRelationOver c.schema v.value r
