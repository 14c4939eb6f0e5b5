-- The law of types and meanings.
use Rattle.td_values.specs.declared.TypeKind.{TypeKind}
use Rattle.td_syntax.specs.declared.tree.Expr.{Expr}
use Rattle.td_typed_trees.specs.declared.tree.Typed.{Typed}
use Rattle.td_schema.specs.Schemas.{SchemaData}
use Rattle.td_schema.specs.Scopes.{Scope}
use Rattle.td_typing.specs.Types.{Types}
use Rattle.td_meaning.specs.Mean.{Names, Relvars, Selection, mean}
use Rattle.td_type_soundness.specs.Meanings.{AreMeant, GivesValue, Selects}

-- where relvars, selectors and names are as typing takes them, a typed expression means a value of its type or one of
-- the errors
abbrev pub TypedHasMeaning : Type 0
TypedHasMeaning = (s : SchemaData) (relvars : Relvars) (selection : Selection) (scope : Scope) (names : Names) (e : Expr) (u : Typed) (k : TypeKind) → Types s scope e u k → AreMeant s relvars scope names → Selects s selection → GivesValue s k (mean relvars selection u names)
