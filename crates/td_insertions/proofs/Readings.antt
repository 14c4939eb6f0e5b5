-- Two readings of a text give their targets the same.
use Rattle.std.proofs.Common.{◌≡◌, ℕ, Bool, true, false, List, [], ◌∷◌, Some, Result, Ok, Err, refl, ap, sym, ◌∙◌, subst}
use Rattle.td_values.specs.Data.{no_attrs}
use Rattle.td_syntax.specs.declared.script.Action.{Action}
use Rattle.td_syntax.specs.declared.script.Statement.{Statement}
use Rattle.td_syntax.specs.declared.script.Statement.TheVariants as statement
use Rattle.td_syntax.specs.declared.tree.Expr.{Expr}
use Rattle.td_typing.specs.Trees.{typing}
use Rattle.td_typing.proofs.Complete.{complete}
use Rattle.td_algebra.specs.Raising.{and_then}
use Rattle.td_algebra.specs.declared.errors.Stop.{Stop}
use Rattle.td_headings.specs.Catalogues.{CatalogueData}
use Rattle.td_headings.specs.Statements.{IsAssignment, IsCondition, AreAssignments, no_assignments, next_assignment, TypesStatement, types_assignment, types_conditional}
use Rattle.td_headings.specs.declared.statement.TypedAssignment.{TypedAssignment}
use Rattle.td_headings.specs.declared.statement.TypedStatement.{TypedStatement}
use Rattle.td_meaning.specs.Mean.{Relvars}
use Rattle.td_operators.specs.Values.{rows_of, truth_of}
use Rattle.td_typed_trees.specs.declared.expression.Expression.{Expression}
use Rattle.td_semantics.specs.Trees.{tree_means}
use Rattle.td_semantics.specs.Given.{Given, gives, nothing_given, seen}
use Rattle.td_semantics.specs.Sources.{given_over, made_where, sources}
use Rattle.td_semantics.specs.Steps.{IsRead}
use Rattle.td_semantics.proofs.Unique.{one_text}

some_same : {A : Type 0} (a b : A) → Some a ≡ Some b → a ≡ b
some_same a b h = cc

module _ (c : CatalogueData) (r : Relvars) where
  one_target : (a : Action) (x y : TypedAssignment) → IsAssignment c a x → IsAssignment c a y → x.target ≡ y.target
  one_target a x y p q = ap (λ z. z.0) (some_same (x.target, p.relvar) (y.target, q.relvar) (sym p.names ∙ q.names))

  one_tree : (a : Action) (x y : TypedAssignment) → IsAssignment c a x → IsAssignment c a y → x.source.tree ≡ y.source.tree
  one_tree a x y p q = ap (λ z. z.tree) (some_same (typing x.source.tree x.source.kind) (typing y.source.tree y.source.kind) (sym (complete c.schema p.source.types) ∙ complete c.schema q.source.types))

  one_meaning : (as' : List Action) (xs ys : List TypedAssignment) → AreAssignments c as' xs → AreAssignments c as' ys → (cs : Given) → sources c r cs xs ≡ sources c r cs ys
  one_meaning [] [] [] no_assignments no_assignments cs = refl
  one_meaning [] [] (y ∷ ys) p q cs = elim q [ ]
  one_meaning [] (x ∷ xs) ys p q cs = elim p [ ]
  one_meaning (a ∷ as') [] ys p q cs = elim p [ ]
  one_meaning (a ∷ as') (x ∷ xs) [] p q cs = elim q [ ]
  one_meaning (a ∷ as') (x ∷ xs) (y ∷ ys) (next_assignment p ps) (next_assignment q qs) cs =
      λ i. and_then (and_then (tree_means c (seen cs (one_target a x y p q i) r) (one_tree a x y p q i) no_attrs) rows_of) (λ v. one_meaning as' xs ys ps qs (gives (one_target a x y p q i) v cs) i)

  one_condition : (a : Expr) (u v : Expression) → IsCondition c a u → IsCondition c a v → u.tree ≡ v.tree
  one_condition a u v p q = ap (λ z. z.tree) (some_same (typing u.tree u.kind) (typing v.tree v.kind) (sym (complete c.schema p.expression.types) ∙ complete c.schema q.expression.types))

  by_truth : (m : Result Bool Stop) (xs ys zs ws : List TypedAssignment)
      → sources c r nothing_given xs ≡ sources c r nothing_given zs
      → sources c r nothing_given ys ≡ sources c r nothing_given ws
      → and_then (and_then m (made_where xs ys)) (sources c r nothing_given) ≡ and_then (and_then m (made_where zs ws)) (sources c r nothing_given)
  by_truth (Ok true) xs ys zs ws h k = h
  by_truth (Ok false) xs ys zs ws h k = k
  by_truth (Err e) xs ys zs ws h k = refl

  one_choice : (s : Statement) (x y : TypedStatement) → TypesStatement c s x → TypesStatement c s y → given_over c r x ≡ given_over c r y
  one_choice (statement.Assignment as') x y (types_assignment {xs = xs} p) (types_assignment {xs = ys} q) = one_meaning as' xs ys p q nothing_given
  one_choice (statement.Conditional a as' bs) x y (types_conditional {u = u} {xs = xs} {ys = ys} i p q) (types_conditional {u = v} {xs = zs} {ys = ws} j k l) =
      (λ n. and_then (and_then (and_then (tree_means c r (one_condition a u v i j n) no_attrs) truth_of) (made_where xs ys)) (sources c r nothing_given))
      ∙ by_truth (and_then (tree_means c r v.tree no_attrs) truth_of) xs ys zs ws (one_meaning as' xs zs p k nothing_given) (one_meaning bs ys ws q l nothing_given)

  pub one_reading : (dialect : ℕ) (text : List ℕ) (x y : TypedStatement) → IsRead c dialect text x → IsRead c dialect text y → given_over c r x ≡ given_over c r y
  one_reading dialect text x y p q =
      one_choice p.statement x y p.types (subst (λ s. TypesStatement c s y) (one_text dialect text q.statement p.statement q.reads p.reads) q.types)
