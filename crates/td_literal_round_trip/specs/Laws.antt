-- The law of literals.
use Rattle.std.specs.Prelude.{◌≡◌, Ok}
use Rattle.td_values.specs.Data.{Datum}
use Rattle.td_values.specs.Shown.{shown}
use Rattle.td_values.specs.View.{ty_of}
use Rattle.td_values.specs.Whole.{type_of}
use Rattle.td_values.specs.declared.TypeKind.{TypeKind}
use Rattle.td_syntax.specs.declared.tree.Expr.{Expr}
use Rattle.td_typed_trees.specs.declared.tree.Typed.{Typed}
use Rattle.td_grammar.specs.Grammar.{IsQuery}
use Rattle.td_schema.specs.Schemas.{SchemaData}
use Rattle.td_schema.specs.Scopes.{Scope}
use Rattle.td_typing.specs.Types.{Types}
use Rattle.td_meaning.specs.Mean.{Names, Relvars, Selection, mean}
use Rattle.td_literal_round_trip.specs.Literals.{IsLiteral}

-- the shown text of a value is a query, which has the value's type in any scope, and means the value
abbrev pub ShownIsReadBack : Type 0
ShownIsReadBack = (s : SchemaData) (relvars : Relvars) (selection : Selection) (scope : Scope) (names : Names) (d : Datum) (k : TypeKind) → type_of d ≡ ty_of k → IsLiteral s selection d → (e : Expr) × (u : Typed) × IsQuery (shown d) e × Types s scope e u k × (mean relvars selection u names ≡ Ok d)
