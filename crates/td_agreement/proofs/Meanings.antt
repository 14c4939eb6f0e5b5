-- What is said of a query and of a relvar is one.
use Rattle.std.proofs.Common.{◌≡◌, ℕ, List, Some, Result, Ok, Err, sym, ap, ◌∙◌, subst}
use Rattle.td_values.specs.Data.{Datum, no_attrs}
use Rattle.td_values.specs.Headings.{Header}
use Rattle.td_values.specs.Rows.{RowsData}
use Rattle.td_values.specs.declared.raises.Raise.{Raise}
use Rattle.td_values.specs.declared.raises.Raise.TheVariants as raise
use Rattle.td_syntax.specs.declared.tree.Expr.{Expr}
use Rattle.td_syntax.specs.declared.tree.Named.{Named}
use Rattle.td_grammar.specs.Grammar.{IsQuery}
use Rattle.td_grammar.proofs.OneTree.{reader_decides_queries}
use Rattle.td_typed_trees.specs.declared.expression.Expression.{Expression}
use Rattle.td_typed_trees.specs.declared.tree.Typed.{Typed}
use Rattle.td_typing.specs.Trees.{typing}
use Rattle.td_typing.proofs.Complete.{complete}
use Rattle.td_algebra.specs.declared.errors.Stop.{Stop}
use Rattle.td_headings.specs.Catalogues.{CatalogueData}
use Rattle.td_headings.specs.Expressions.{IsExpression, no_tuple}
use Rattle.td_semantics.specs.Answers.{SaysRelation, TellsRelvar}
use Rattle.td_replica.specs.Calls.{AsksQuery}
use Rattle.td_semantics.specs.Answers.{SaysValue}
use Rattle.td_semantics.specs.Databases.{DatabaseData, stored_relvars}
use Rattle.td_semantics.specs.Raises.{stop_of}
use Rattle.td_replica.specs.Seen.{Seen}
use Rattle.td_semantics.specs.Trees.{all_relvars, tree_means}
use Rattle.td_semantics.specs.declared.answer.Answer.{Answer}
use Rattle.td_semantics.specs.declared.answer.Answer.TheVariants as answer

some_same : {A : Type 0} (a b : A) → Some a ≡ Some b → a ≡ b
some_same a b h = cc

ok_same : {A : Type 0} (a b : A) → ◌≡◌ {A = Result A Stop} (Ok a) (Ok b) → a ≡ b
ok_same a b h = cc

err_same : {A : Type 0} (e f : Stop) → ◌≡◌ {A = Result A Stop} (Err e) (Err f) → e ≡ f
err_same e f h = cc

ok_err : {A P : Type 0} (a : A) (e : Stop) → ◌≡◌ {A = Result A Stop} (Ok a) (Err e) → P
ok_err a e h = cc

-- an error is told in one way
abbrev told_as : Stop → Raise
told_as Stop.Untyped = raise.Overflow
told_as (Stop.Error e) = e

pub one_raise : (e f : Raise) → stop_of e ≡ stop_of f → e ≡ f
one_raise e f h = ap told_as h

one_asked : (m : Result Datum Stop) (r q : Answer Datum) → SaysValue r m → SaysValue q m → r ≡ q
one_asked m (answer.Value v) (answer.Value w) p q = ap answer.Value (ok_same v w (sym p ∙ q))
one_asked m (answer.Value v) (answer.Raised f) p q = ok_err v (stop_of f) (sym p ∙ q)
one_asked m (answer.Raised e) (answer.Value w) p q = ok_err w (stop_of e) (sym q ∙ p)
one_asked m (answer.Raised e) (answer.Raised f) p q = ap answer.Raised (one_raise e f (err_same {A = Datum} (stop_of e) (stop_of f) (sym p ∙ q)))

one_answer : (m : Result RowsData Stop) (a b : Answer RowsData) → SaysRelation a m → SaysRelation b m → a ≡ b
one_answer m (answer.Value r) (answer.Value s) p q = ap answer.Value (ok_same r s (sym p ∙ q))
one_answer m (answer.Value r) (answer.Raised f) p q = ok_err r (stop_of f) (sym p ∙ q)
one_answer m (answer.Raised e) (answer.Value s) p q = ok_err s (stop_of e) (sym q ∙ p)
one_answer m (answer.Raised e) (answer.Raised f) p q = ap answer.Raised (one_raise e f (err_same {A = RowsData} (stop_of e) (stop_of f) (sym p ∙ q)))

-- ---- a text is one query, of one tree
pub one_query : (text : List ℕ) (a b : Expr) → IsQuery text a → IsQuery text b → a ≡ b
one_query text a b p q = some_same a b (sym ((reader_decides_queries text a).1 p) ∙ (reader_decides_queries text b).1 q)

one_tree : (c : CatalogueData) (a : Expr) (x y : Expression) → IsExpression c no_tuple a x → IsExpression c no_tuple a y → x.tree ≡ y.tree
one_tree c a x y p q = ap (λ z. z.tree) (some_same (typing x.tree x.kind) (typing y.tree y.kind) (sym (complete c.schema p.types) ∙ complete c.schema q.types))

-- ---- over one database
pub asks_one : (s t : Seen) (text : List ℕ) (r q : Answer Datum) (p : AsksQuery s text r) (o : AsksQuery t text q) → p.database ≡ o.database → r ≡ q
asks_one s t text r q p o one =
    let d = p.database in
    let types =
    subst (λ (a : Expr). IsExpression d.catalogue no_tuple a o.expression) (one_query text o.query p.query o.reads p.reads)
    (subst (λ (e : DatabaseData). IsExpression e.catalogue no_tuple o.query o.expression) (sym one) o.types) in
    let tree = one_tree d.catalogue p.query p.expression o.expression p.types types in
    let says =
    subst (λ (u : Typed). SaysValue q (tree_means d.catalogue (stored_relvars d.stored) u no_attrs)) (sym tree)
    (subst (λ (e : DatabaseData). SaysValue q (tree_means e.catalogue (stored_relvars e.stored) o.expression.tree no_attrs)) (sym one) o.says) in
    one_asked (tree_means d.catalogue (stored_relvars d.stored) p.expression.tree no_attrs) r q p.says says

pub tells_one : (d : DatabaseData) (x : List ℕ) (a b : Answer RowsData) → TellsRelvar d x (Ok a) → TellsRelvar d x (Ok b) → a ≡ b
tells_one d x a b p q =
    let same = some_same (p.0, p.1) (q.0, q.1) (sym p.2 ∙ q.2) in
    let place : p.0 ≡ q.0 = ap (λ (z : ℕ × Named Header). z.0) same in
    let says = subst (λ (n : ℕ). SaysRelation b (all_relvars d.catalogue (stored_relvars d.stored) n)) (sym place) q.3 in
    one_answer (all_relvars d.catalogue (stored_relvars d.stored) p.0) a b p.3 says
