-- What is told of a test that fails.
use Rattle.std.specs.Prelude.{◌≡◌, ℕ, List, [], Option, None, Some, option_map, slice_get}
use Rattle.td_values.specs.Headings.{Header}
use Rattle.td_syntax.specs.declared.tree.Named.{Named}
use Rattle.td_algebra.specs.declared.errors.Stop.{Stop}
use Rattle.td_headings.specs.Catalogues.{CatalogueData}
use Rattle.td_headings.specs.declared.defined.Test.{Test}
use Rattle.td_headings.specs.declared.defined.Test.TheVariants as test
use Rattle.td_semantics.specs.Raises.{stop_of}
use Rattle.td_semantics.specs.declared.broken.BrokenTest.{BrokenTest}
use Rattle.td_semantics.specs.declared.broken.BrokenTest.TheVariants as broken
use Rattle.td_semantics.specs.declared.broken.TestFailure.{TestFailure}

-- the name of the relvar at a place
abbrev pub name_in : Option (Named Header) → List ℕ
name_in None = []
name_in (Some v) = v.name

-- a key is told by its relvar, a constraint by its name
abbrev pub title : CatalogueData → Test → BrokenTest
title c (test.Key n key) = broken.Key (name_in (slice_get c.schema.relvars n))
title c (test.Constraint x u) = broken.Constraint x

-- the report is of this test and its error
abbrev pub IsReport : CatalogueData → Option (Test × Option Stop) → Option TestFailure → Type 0
IsReport c None o = o ≡ None
IsReport c (Some p) None = ⊥
IsReport c (Some p) (Some f) = (f.test ≡ title c p.0) × (option_map stop_of f.raised ≡ p.1)
