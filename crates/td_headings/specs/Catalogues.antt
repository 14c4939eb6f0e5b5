-- What a script has defined: the types and relvars that expressions name, and beside them what typing does not ask for.
use Rattle.std.specs.Prelude.{List, [], Option}
use Rattle.td_schema.specs.Schemas.{SchemaData, empty_schema}
use Rattle.td_typed_trees.specs.declared.tree.Typed.{Typed}
use Rattle.td_headings.specs.declared.defined.Origin.{Origin}
use Rattle.td_headings.specs.declared.defined.Test.{Test}

pub record CatalogueData : Type 0 where
  pub schema : SchemaData
  -- for each possrep its CONSTRAINT
  pub limits : List (Option Typed)
  -- for each relvar where its value comes from
  pub origins : List Origin
  -- in the order of the script: one for each KEY, as written, and one for each CONSTRAINT
  pub tests : List Test

abbrev pub nothing_defined : CatalogueData
nothing_defined = record { schema = empty_schema; limits = []; origins = []; tests = [] }
