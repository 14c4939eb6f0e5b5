-- What a test is of.
use Rattle.std.specs.Prelude.{◌≡◌, ℕ, true, Some, Result, Ok, slice_get}
use Rattle.td_values.specs.Headings.{Header}
use Rattle.td_values.specs.Rows.{RowsData}
use Rattle.td_syntax.specs.declared.tree.Named.{Named}
use Rattle.td_algebra.specs.declared.errors.Stop.{Stop}
use Rattle.td_headings.specs.Catalogues.{CatalogueData}
use Rattle.td_headings.specs.Reached.{is_base}
use Rattle.td_headings.specs.declared.defined.Test.{Test}
use Rattle.td_headings.specs.declared.defined.Test.TheVariants as test

-- the test of a key is one of a base relvar
abbrev pub HasRelvar : CatalogueData → Test → Type 0
HasRelvar c (test.Key n key) = (v : Named Header) × (slice_get c.schema.relvars n ≡ Some v) × (is_base (slice_get c.origins n) ≡ true)
HasRelvar c (test.Constraint x u) = Unit {0}

-- the relvar has a relation
abbrev pub HasRelation : Result RowsData Stop → Type 0
HasRelation m = (r : RowsData) × (m ≡ Ok r)

-- the test stands at this place
abbrev pub StandsAt : CatalogueData → ℕ → Test → Type 0
StandsAt c n t = slice_get c.tests n ≡ Some t
