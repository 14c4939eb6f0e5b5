-- The laws of tests.
use Rattle.std.specs.Prelude.{◌≡◌, ◌↔◌, ℕ, true, List, None}
use Rattle.std.specs.List.Sorted.{IsStrictlySortedBy}
use Rattle.td_values.specs.Order.{attrs_order}
use Rattle.td_values.specs.Rows.{RowsData}
use Rattle.td_algebra.specs.Keys.{TellApart}
use Rattle.td_headings.specs.Catalogues.{CatalogueData}
use Rattle.td_meaning.specs.Mean.{Relvars}
use Rattle.td_semantics.specs.Tests.{AreLegal, failing, is_key}

-- the test of a key is true where no two different tuples of the relation agree on its attributes
abbrev pub KeysTellTuplesApart : Type 0
KeysTellTuplesApart = (key : List (List ℕ)) (r : RowsData) → IsStrictlySortedBy attrs_order r.tuples → (is_key key r.tuples ≡ true) ↔ TellApart key r

-- no test fails where every test is true
abbrev pub NoneFailsOfLegal : Type 0
NoneFailsOfLegal = (c : CatalogueData) (relvars : Relvars) → (failing c relvars c.tests ≡ None) ↔ AreLegal c relvars
