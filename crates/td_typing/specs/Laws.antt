-- The laws of the typing.
use Rattle.std.specs.Prelude.{◌≡◌, ◌↔◌, Some}
use Rattle.td_values.specs.declared.TypeKind.{TypeKind}
use Rattle.td_syntax.specs.declared.tree.Expr.{Expr}
use Rattle.td_schema.specs.Schemas.{SchemaData}
use Rattle.td_schema.specs.Scopes.{Scope}
use Rattle.td_typed_trees.specs.declared.tree.Typed.{Typed}
use Rattle.td_typing.specs.Trees.{typing}
use Rattle.td_typing.specs.ForProofs.Growth.{IsEarlier, KeepsNames}
use Rattle.td_typing.specs.Types.{Types}
use Rattle.td_typing.specs.ForProofs.Infer.{infer}

-- what is inferred is the typing, and what has a typing is inferred
abbrev pub InferenceDecides : Type 0
InferenceDecides = (cat : SchemaData) (s : Scope) (a : Expr) (u : Typed) (k : TypeKind) → (infer cat a s ≡ Some (typing u k)) ↔ Types cat s a u k

-- in one scope an expression has one tree and one kind at most
abbrev pub TypeIsUnique : Type 0
TypeIsUnique = (cat : SchemaData) (s : Scope) (a : Expr) (u v : Typed) (j k : TypeKind) → Types cat s a u j → Types cat s a v k → (u ≡ v) × (j ≡ k)

-- an expression keeps its tree and its kind where more is defined
abbrev pub TypeStays : Type 0
TypeStays = (early late : SchemaData) (s w : Scope) (a : Expr) (u : Typed) (k : TypeKind) → IsEarlier early late → KeepsNames s w → Types early s a u k → Types late w a u k
