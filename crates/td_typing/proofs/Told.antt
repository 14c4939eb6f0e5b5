-- What the call says of an expression, from what it gives of inference.
use Rattle.std.proofs.Common.{◌≡◌, Result, Ok, Err, IfOk, sym, ◌∙◌}
use Rattle.td_syntax.specs.declared.tree.Expr.{Expr}
use Rattle.td_typed_trees.specs.declared.tree.Typing.{Typing}
use Rattle.td_schema.specs.declared.error.TypeError.{TypeError}
use Rattle.td_schema.specs.declared.error.TypeError.TheVariants as type_error
use Rattle.td_schema.specs.Results.{Gives}
use Rattle.td_schema.specs.Schemas.{SchemaData}
use Rattle.td_schema.specs.Scopes.{Scope}
use Rattle.td_typing.specs.Types.{Types, IsIllTyped}
use Rattle.td_typing.specs.ForProofs.Infer.{infer}
use Rattle.td_typing.proofs.Complete.{complete}
use Rattle.td_typing.proofs.Sound.{sound}

pub typed : (cat : SchemaData) (s : Scope) (a : Expr) (r : Result Typing TypeError) → Gives (infer cat a s) r → IfOk r (λ y. Types cat s a y.tree y.kind)
typed cat s a (Ok y) h = sound cat a s y h
typed cat s a (Err e) h = tt

pub refused : (cat : SchemaData) (s : Scope) (a : Expr) (r : Result Typing TypeError) → Gives (infer cat a s) r → r ≡ Err type_error.IllTyped → IsIllTyped cat s a
refused cat s a (Ok y) h is = λ u k d. cc
refused cat s a (Err type_error.IllTyped) h is = λ u k d. let e = sym h ∙ complete cat d in cc
refused cat s a (Err type_error.OutOfMemory) h is = λ u k d. cc
