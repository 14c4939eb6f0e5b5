-- By which a proof tells catalogues and expressions apart.
use Rattle.std.specs.Prelude.{List, Option, refl}
use Rattle.std.specs.Coded.{Coded, code_by, coded×, coded_list, coded_option}
use Rattle.td_schema.specs.Schemas.{SchemaData}
use Rattle.td_schema.specs.ForProofs.Codes.{schema_code}
use Rattle.td_typed_trees.specs.contracts.expression.Expression.{the_row}
use Rattle.td_typed_trees.specs.contracts.tree.Typed as typed
use Rattle.td_typed_trees.specs.declared.expression.Expression.{Expression}
use Rattle.td_typed_trees.specs.declared.tree.Typed.{Typed}
use Rattle.td_headings.specs.contracts.defined.Origin as origin
use Rattle.td_headings.specs.contracts.defined.Test as test
use Rattle.td_headings.specs.declared.defined.Origin.{Origin}
use Rattle.td_headings.specs.declared.defined.Test.{Test}
use Rattle.td_headings.specs.Catalogues.{CatalogueData}

abbrev pub catalogue_code : Coded CatalogueData
catalogue_code =
    code_by (SchemaData × (List (Option Typed) × (List Origin × List Test))) (coded× schema_code (coded× (coded_list (coded_option typed.the_row.coded)) (coded× (coded_list origin.the_row.coded) (coded_list test.the_row.coded)))) (λ c. (c.schema, (c.limits, (c.origins, c.tests)))) (λ p. record { schema = p.0; limits = p.1.0; origins = p.1.1.0; tests = p.1.1.1 }) (λ _. refl)

abbrev pub tests_code : Coded (List Test)
tests_code = coded_list test.the_row.coded

abbrev pub expression_code : Coded Expression
expression_code = the_row.coded
