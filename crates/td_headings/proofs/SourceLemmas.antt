-- What is found for the source of an action is what is inferred for it.
use Rattle.std.proofs.Common.{◌≡◌, false, List, Option, Some, None, refl, ap, ◌∙◌}
use Rattle.td_syntax.specs.declared.tree.Expr.{Expr}
use Rattle.td_syntax.specs.declared.tree.Expr.TheVariants as e
use Rattle.td_syntax.specs.declared.tree.BinaryOperator.TheVariants as binary
use Rattle.td_syntax.specs.declared.tree.UnaryOperator.TheVariants as unary
use Rattle.td_syntax.specs.declared.tree.Extension.TheVariants as extension
use Rattle.td_syntax.specs.declared.tree.Named.{Named}
use Rattle.td_syntax.specs.declared.script.Action.{Action}
use Rattle.td_syntax.specs.declared.script.Action.TheVariants as action
use Rattle.td_schema.specs.Kinds.{Name, relation_heading}
use Rattle.td_schema.specs.Results.{where_some}
use Rattle.td_schema.specs.Schemas.{SchemaData}
use Rattle.td_schema.specs.Scopes.{relvars_of, within_tuple}
use Rattle.td_typing.specs.ForProofs.Infer.{Inferred, infer, infer_name, infer_by, infer_binary, infer_where, infer_extend, by_unary, by_binary, restricted}
use Rattle.td_typing.proofs.Equations.{of_name, of_truth, of_unary, of_binary, of_where, of_extend}
use Rattle.td_headings.specs.ForProofs.Sources.{others, selected, no_tuples, changed, inserted, all_updated, updated, found}
use Rattle.td_headings.specs.Statements.{source_of}

in_turn : {A B C : Type 0} (o : Option A) (f : A → Option B) (g : B → Option C) → where_some (where_some o f) g ≡ where_some o (λ a. where_some (f a) g)
in_turn None f g = refl
in_turn (Some a) f g = refl

module _ (s : SchemaData) where
  is_others : (x : Name) (c : Expr) → infer s (e.Where (e.Name x) (e.Unary unary.Not c)) (relvars_of s) ≡ others s x c
  unfolding others infer_where infer_by
  is_others x c =
      ap (λ (f : Inferred). f (relvars_of s)) (of_where s (e.Name x) (e.Unary unary.Not c)) ∙ (λ i. infer_where (of_name s x i) (of_unary s unary.Not c i) (relvars_of s))
      ∙ (λ i. where_some (infer_name x (relvars_of s)) (λ r. where_some (relation_heading r.kind) (λ h. in_turn (infer s c (within_tuple h (relvars_of s))) (by_unary unary.Not) (restricted r) i)))

  is_selected : (x : Name) (c : Expr) → infer s (e.Where (e.Name x) c) (relvars_of s) ≡ selected s x c
  unfolding selected infer_where
  is_selected x c = ap (λ (f : Inferred). f (relvars_of s)) (of_where s (e.Name x) c) ∙ (λ i. infer_where (of_name s x i) (infer s c) (relvars_of s))

  is_none : (x : Name) → infer s (e.Where (e.Name x) (e.Truth false)) (relvars_of s) ≡ no_tuples s x
  unfolding no_tuples infer_where
  is_none x = ap (λ (f : Inferred). f (relvars_of s)) (of_where s (e.Name x) (e.Truth false)) ∙ (λ i. infer_where (of_name s x i) (of_truth s false i) (relvars_of s))

  is_inserted : (x : Name) (a : Expr) → infer s (e.Binary binary.Union (e.Name x) a) (relvars_of s) ≡ inserted s x a
  unfolding inserted infer_binary
  is_inserted x a = ap (λ (f : Inferred). f (relvars_of s)) (of_binary s binary.Union (e.Name x) a) ∙ (λ i. infer_binary binary.Union (of_name s x i) (infer s a) (relvars_of s))

  is_changed : (r : Expr) (xs : List (Named Expr)) → infer s (e.Extend extension.Assign r xs) (relvars_of s) ≡ where_some (infer s r (relvars_of s)) (changed s (relvars_of s) xs)
  unfolding changed infer_extend
  is_changed r xs = ap (λ (f : Inferred). f (relvars_of s)) (of_extend s extension.Assign r xs)

  is_all_updated : (x : Name) (xs : List (Named Expr)) → infer s (e.Extend extension.Assign (e.Name x) xs) (relvars_of s) ≡ all_updated s x xs
  unfolding all_updated
  is_all_updated x xs = is_changed (e.Name x) xs ∙ ap (λ (f : Inferred). where_some (f (relvars_of s)) (changed s (relvars_of s) xs)) (of_name s x)

  is_updated : (x : Name) (c : Expr) (xs : List (Named Expr)) → infer s (e.Binary binary.Union (e.Where (e.Name x) (e.Unary unary.Not c)) (e.Extend extension.Assign (e.Where (e.Name x) c) xs)) (relvars_of s) ≡ updated s x c xs
  unfolding updated infer_binary
  is_updated x c xs =
      ap (λ (f : Inferred). f (relvars_of s)) (of_binary s binary.Union (e.Where (e.Name x) (e.Unary unary.Not c)) (e.Extend extension.Assign (e.Where (e.Name x) c) xs))
      ∙ (λ i. where_some (is_others x c i) (λ r. where_some ((is_changed (e.Where (e.Name x) c) xs ∙ ap (λ o. where_some o (changed s (relvars_of s) xs)) (is_selected x c)) i) (by_binary binary.Union r)))
      ∙ (λ i. where_some (others s x c) (λ r. in_turn (selected s x c) (changed s (relvars_of s) xs) (by_binary binary.Union r) i))

  pub is_found : (a : Action) → infer s (source_of a) (relvars_of s) ≡ found s a
  is_found (action.Assign x a) = refl
  is_found (action.Insert x a) = is_inserted x a
  is_found (action.Delete x None) = is_none x
  is_found (action.Delete x (Some c)) = is_others x c
  is_found (action.Update x None xs) = is_all_updated x xs
  is_found (action.Update x (Some c) xs) = is_updated x c xs
