-- A text has one outcome, and leaves one database.
use Rattle.std.proofs.Common.{◌≡◌, ℕ, Bool, true, false, List, [], ◌∷◌, Option, Some, None, Result, Ok, Err, refl, ap, sym, ◌∙◌, subst}
use Rattle.td_values.specs.Data.{no_attrs}
use Rattle.td_values.specs.declared.raises.Raise.{Raise}
use Rattle.td_values.specs.declared.raises.Raise.TheVariants as raise
use Rattle.td_syntax.specs.declared.script.Action.{Action}
use Rattle.td_syntax.specs.declared.script.Statement.{Statement}
use Rattle.td_syntax.specs.declared.script.Statement.TheVariants as statement
use Rattle.td_syntax.specs.declared.tree.Expr.{Expr}
use Rattle.td_grammar.specs.Statements as grammar
use Rattle.td_grammar.proofs.OneStatement.{reader_decides_statements}
use Rattle.td_typing.specs.Trees.{typing}
use Rattle.td_typing.proofs.Complete.{complete}
use Rattle.td_algebra.specs.Raising.{and_then}
use Rattle.td_algebra.specs.declared.errors.Stop.{Stop}
use Rattle.td_headings.specs.Catalogues.{CatalogueData}
use Rattle.td_headings.specs.Statements.{IsAssignment, IsCondition, AreAssignments, no_assignments, next_assignment, TypesStatement, types_assignment, types_conditional}
use Rattle.td_headings.specs.declared.defined.Test.{Test}
use Rattle.td_headings.specs.declared.statement.TypedAssignment.{TypedAssignment}
use Rattle.td_headings.specs.declared.statement.TypedStatement.{TypedStatement}
use Rattle.td_meaning.specs.Mean.{Relvars}
use Rattle.td_operators.specs.Values.{rows_of, truth_of}
use Rattle.td_typed_trees.specs.declared.expression.Expression.{Expression}
use Rattle.td_semantics.specs.Raises.{stop_of}
use Rattle.td_semantics.specs.Trees.{tree_means}
use Rattle.td_semantics.specs.Databases.{DatabaseData, stored_relvars}
use Rattle.td_semantics.specs.Given.{Given, gives, nothing_given, seen}
use Rattle.td_semantics.specs.Sources.{given_over, made_where, sources}
use Rattle.td_semantics.specs.Steps.{IsRead, Steps, unread, raised, refused, done, TellsTest, failing_with, given_by, with_all}
use Rattle.td_semantics.specs.declared.outcome.Outcome.{Outcome}
use Rattle.td_semantics.specs.declared.outcome.Outcome.TheVariants as outcome

some_same : {A : Type 0} (a b : A) → Some a ≡ Some b → a ≡ b
some_same a b h = cc

ok_same : {A : Type 0} (a b : A) → ◌≡◌ {A = Result A Stop} (Ok a) (Ok b) → a ≡ b
ok_same a b h = cc

err_same : {A : Type 0} (e f : Stop) → ◌≡◌ {A = Result A Stop} (Err e) (Err f) → e ≡ f
err_same e f h = cc

ok_err : {A P : Type 0} (a : A) (e : Stop) → ◌≡◌ {A = Result A Stop} (Ok a) (Err e) → P
ok_err a e h = cc

some_none : {A P : Type 0} (a : A) → Some a ≡ None → P
some_none a h = cc

-- ---- an error is told in one way
abbrev back : Stop → Raise
back Stop.Untyped = raise.Overflow
back (Stop.Error e) = e

one_raise : (e f : Raise) → stop_of e ≡ stop_of f → e ≡ f
one_raise e f h = ap back h

-- ---- a text is one statement
pub one_text : (dialect : ℕ) (text : List ℕ) (s t : Statement) → grammar.IsStatementIn dialect text s → grammar.IsStatementIn dialect text t → s ≡ t
one_text dialect text s t p q = some_same s t (sym ((reader_decides_statements text s).1 p.reads) ∙ (reader_decides_statements text t).1 q.reads)

module _ (c : CatalogueData) (r : Relvars) where
  one_target : (a : Action) (x y : TypedAssignment) → IsAssignment c a x → IsAssignment c a y → x.target ≡ y.target
  one_target a x y p q = ap (λ z. z.0) (some_same (x.target, p.relvar) (y.target, q.relvar) (sym p.names ∙ q.names))

  one_tree : (a : Action) (x y : TypedAssignment) → IsAssignment c a x → IsAssignment c a y → x.source.tree ≡ y.source.tree
  one_tree a x y p q = ap (λ z. z.tree) (some_same (typing x.source.tree x.source.kind) (typing y.source.tree y.source.kind) (sym (complete c.schema p.source.types) ∙ complete c.schema q.source.types))

  -- whose sources give one thing
  one_meaning : (as' : List Action) (xs ys : List TypedAssignment) → AreAssignments c as' xs → AreAssignments c as' ys → (cs : Given) → sources c r cs xs ≡ sources c r cs ys
  one_meaning [] [] [] no_assignments no_assignments cs = refl
  one_meaning [] [] (y ∷ ys) p q cs = elim q [ ]
  one_meaning [] (x ∷ xs) ys p q cs = elim p [ ]
  one_meaning (a ∷ as') [] ys p q cs = elim p [ ]
  one_meaning (a ∷ as') (x ∷ xs) [] p q cs = elim q [ ]
  one_meaning (a ∷ as') (x ∷ xs) (y ∷ ys) (next_assignment p ps) (next_assignment q qs) cs =
      λ i. and_then (and_then (tree_means c (seen cs (one_target a x y p q i) r) (one_tree a x y p q i) no_attrs) rows_of) (λ v. one_meaning as' xs ys ps qs (gives (one_target a x y p q i) v cs) i)

  -- whose condition is one
  one_condition : (a : Expr) (u v : Expression) → IsCondition c a u → IsCondition c a v → u.tree ≡ v.tree
  one_condition a u v p q = ap (λ z. z.tree) (some_same (typing u.tree u.kind) (typing v.tree v.kind) (sym (complete c.schema p.expression.types) ∙ complete c.schema q.expression.types))

  by_truth : (m : Result Bool Stop) (xs ys zs ws : List TypedAssignment)
      → sources c r nothing_given xs ≡ sources c r nothing_given zs
      → sources c r nothing_given ys ≡ sources c r nothing_given ws
      → and_then (and_then m (made_where xs ys)) (sources c r nothing_given) ≡ and_then (and_then m (made_where zs ws)) (sources c r nothing_given)
  by_truth (Ok true) xs ys zs ws h k = h
  by_truth (Ok false) xs ys zs ws h k = k
  by_truth (Err e) xs ys zs ws h k = refl

  one_choice : (s : Statement) (x y : TypedStatement) → TypesStatement c s x → TypesStatement c s y → given_over c r x ≡ given_over c r y
  one_choice (statement.Assignment as') x y (types_assignment {xs = xs} p) (types_assignment {xs = ys} q) = one_meaning as' xs ys p q nothing_given
  one_choice (statement.Conditional a as' bs) x y (types_conditional {u = u} {xs = xs} {ys = ys} i p q) (types_conditional {u = v} {xs = zs} {ys = ws} j k l) =
      (λ n. and_then (and_then (and_then (tree_means c r (one_condition a u v i j n) no_attrs) truth_of) (made_where xs ys)) (sources c r nothing_given))
      ∙ by_truth (and_then (tree_means c r v.tree no_attrs) truth_of) xs ys zs ws (one_meaning as' xs zs p k nothing_given) (one_meaning bs ys ws q l nothing_given)

  one_reading : (dialect : ℕ) (text : List ℕ) (x y : TypedStatement) → IsRead c dialect text x → IsRead c dialect text y → given_over c r x ≡ given_over c r y
  one_reading dialect text x y p q =
      one_choice p.statement x y p.types (subst (λ s. TypesStatement c s y) (one_text dialect text q.statement p.statement q.reads p.reads) q.types)

-- ---- a test is told in one way
one_telling : (c : CatalogueData) (t : Test) (o : Option Stop) (p q : Outcome) → TellsTest c t o p → TellsTest c t o q → p ≡ q
one_telling c t None (outcome.BreaksKey m) (outcome.BreaksKey n) h k = let same = sym h ∙ k in cc
one_telling c t None (outcome.BreaksKey m) (outcome.BreaksConstraint n) h k = let same = sym h ∙ k in cc
one_telling c t None (outcome.BreaksConstraint m) (outcome.BreaksKey n) h k = let same = sym h ∙ k in cc
one_telling c t None (outcome.BreaksConstraint m) (outcome.BreaksConstraint n) h k = let same = sym h ∙ k in cc
one_telling c t (Some e) (outcome.Raised a) (outcome.Raised b) h k = ap outcome.Raised (one_raise a b (sym h ∙ k))
one_telling c t None outcome.Done q h k = absurd h
one_telling c t None outcome.Unread q h k = absurd h
one_telling c t None (outcome.Raised a) q h k = absurd h
one_telling c t None (outcome.BreaksKey m) outcome.Done h k = absurd k
one_telling c t None (outcome.BreaksKey m) outcome.Unread h k = absurd k
one_telling c t None (outcome.BreaksKey m) (outcome.Raised b) h k = absurd k
one_telling c t None (outcome.BreaksConstraint m) outcome.Done h k = absurd k
one_telling c t None (outcome.BreaksConstraint m) outcome.Unread h k = absurd k
one_telling c t None (outcome.BreaksConstraint m) (outcome.Raised b) h k = absurd k
one_telling c t (Some e) outcome.Done q h k = absurd h
one_telling c t (Some e) outcome.Unread q h k = absurd h
one_telling c t (Some e) (outcome.Raised a) outcome.Done h k = absurd k
one_telling c t (Some e) (outcome.Raised a) outcome.Unread h k = absurd k
one_telling c t (Some e) (outcome.Raised a) (outcome.BreaksKey n) h k = absurd k
one_telling c t (Some e) (outcome.Raised a) (outcome.BreaksConstraint n) h k = absurd k
one_telling c t (Some e) (outcome.BreaksKey m) q h k = absurd h
one_telling c t (Some e) (outcome.BreaksConstraint m) q h k = absurd h

-- ---- a step ends in one way
module _ (d : DatabaseData) (dialect : ℕ) (text : List ℕ) where
  same_given : (x y : TypedStatement) → IsRead d.catalogue dialect text x → IsRead d.catalogue dialect text y → given_by d x ≡ given_by d y
  same_given x y p q = one_reading d.catalogue (stored_relvars d.stored) dialect text x y p q

  same_changes : (x y : TypedStatement) (cs ds : Given) → IsRead d.catalogue dialect text x → IsRead d.catalogue dialect text y → given_by d x ≡ Ok cs → given_by d y ≡ Ok ds → cs ≡ ds
  same_changes x y cs ds p q h k = ok_same cs ds (sym h ∙ same_given x y p q ∙ k)

  differ : {P : Type 0} (x y : TypedStatement) (cs : Given) (e : Stop) → IsRead d.catalogue dialect text x → IsRead d.catalogue dialect text y → given_by d x ≡ Ok cs → given_by d y ≡ Err e → P
  differ x y cs e p q h k = ok_err cs e (sym h ∙ same_given x y p q ∙ k)

  abbrev IsOne : Outcome → DatabaseData → Outcome → DatabaseData → Type 0
  IsOne o e p f = (o ≡ p) × (e ≡ f)

  same_refusal : (cs ds : Given) (t u : Test) (o q : Option Stop) (a b : Outcome) → cs ≡ ds → failing_with d cs ≡ Some (t, o) → failing_with d ds ≡ Some (u, q) → TellsTest d.catalogue t o a → TellsTest d.catalogue u q b → a ≡ b
  same_refusal cs ds t u o q a b same h k told asked =
      let one = some_same (t, o) (u, q) (sym h ∙ ap (failing_with d) same ∙ k) in
      one_telling d.catalogue t o a b told (subst (λ (z : Test × Option Stop). TellsTest d.catalogue z.0 z.1 b) (sym one) asked)

  pub one_step : (e f : DatabaseData) (a b : Outcome) → Steps d dialect text a e → Steps d dialect text b f → IsOne a e b f
  one_step e f a b (unread h) (unread k) = (refl, refl)
  one_step e f a b (unread h) (raised {x = y} q k) = absurd (h y q)
  one_step e f a b (unread h) (refused {x = y} q k l m) = absurd (h y q)
  one_step e f a b (unread h) (done {x = y} q k l) = absurd (h y q)
  one_step e f a b (raised {x = x} p h) (unread k) = absurd (k x p)
  one_step e f a b (raised {x = x} {e = r} p h) (raised {x = y} {e = s} q k) = (ap outcome.Raised (one_raise r s (err_same (stop_of r) (stop_of s) (sym h ∙ same_given x y p q ∙ k))), refl)
  one_step e f a b (raised {x = x} {e = r} p h) (refused {x = y} {g = ds} q k l m) = differ y x ds (stop_of r) q p k h
  one_step e f a b (raised {x = x} {e = r} p h) (done {x = y} {g = ds} q k l) = differ y x ds (stop_of r) q p k h
  one_step e f a b (refused {x = x} p h i j) (unread k) = absurd (k x p)
  one_step e f a b (refused {x = x} {g = cs} p h i j) (raised {x = y} {e = s} q k) = differ x y cs (stop_of s) p q h k
  one_step e f a b (refused {x = x} {g = cs} {t = t} {o = o} p h i j) (refused {x = y} {g = ds} {t = u} {o = v} q k l m) = (same_refusal cs ds t u o v a b (same_changes x y cs ds p q h k) i l j m, refl)
  one_step e f a b (refused {x = x} {g = cs} {t = t} {o = o} p h i j) (done {x = y} {g = ds} q k l) = some_none (t, o) (sym i ∙ ap (failing_with d) (same_changes x y cs ds p q h k) ∙ l)
  one_step e f a b (done {x = x} p h i) (unread k) = absurd (k x p)
  one_step e f a b (done {x = x} {g = cs} p h i) (raised {x = y} {e = s} q k) = differ x y cs (stop_of s) p q h k
  one_step e f a b (done {x = x} {g = cs} p h i) (refused {x = y} {g = ds} {t = u} {o = v} q k l m) = some_none (u, v) (sym l ∙ sym (ap (failing_with d) (same_changes x y cs ds p q h k)) ∙ i)
  one_step e f a b (done {x = x} {g = cs} p h i) (done {x = y} {g = ds} q k l) = (refl, ap (with_all d) (same_changes x y cs ds p q h k))
