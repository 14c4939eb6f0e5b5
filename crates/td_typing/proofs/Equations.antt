-- The equations of inference, form by form.
use Rattle.std.proofs.Common.{◌≡◌, ℤ, Bool, List, [], ◌∷◌, map, Option, Some, None, refl, ap, sym, ◌∙◌}
use Rattle.std.specs.FinMap as by_name
use Rattle.td_values.specs.declared.TypeKind.TheVariants as kind
use Rattle.td_syntax.specs.declared.tree.UnaryOperator.{UnaryOperator}
use Rattle.td_syntax.specs.declared.tree.BinaryOperator.{BinaryOperator}
use Rattle.td_syntax.specs.declared.tree.Nesting.{Nesting}
use Rattle.td_syntax.specs.declared.tree.Extension.{Extension}
use Rattle.td_syntax.specs.declared.tree.Aggregate.{Aggregate}
use Rattle.td_syntax.specs.declared.tree.Attributes.{Attributes}
use Rattle.td_syntax.specs.declared.tree.Renaming.{Renaming}
use Rattle.td_syntax.specs.declared.tree.Named.{Named}
use Rattle.td_syntax.specs.declared.tree.SummaryTerm.{SummaryTerm}
use Rattle.td_syntax.specs.declared.tree.SummaryTerm.TheVariants as summary
use Rattle.td_syntax.specs.declared.tree.Groups.{Groups}
use Rattle.td_syntax.specs.declared.tree.Groups.TheVariants as groups
use Rattle.td_syntax.specs.declared.tree.TypeExpr.{TypeExpr}
use Rattle.td_syntax.specs.declared.tree.Expr.{Expr}
use Rattle.td_syntax.specs.declared.tree.Expr.TheVariants as e
use Rattle.td_syntax.specs.declared.tree.Expr.TheOpen.{Expr-F}
use Rattle.td_syntax.specs.declared.tree.Expr.TheShapes.{former-Expr-Summarize-2-at-5}
use Rattle.td_syntax.specs.declared.tree.Expr.TheFolds.{fold-roll-Expr}
use Rattle.td_typed_trees.specs.declared.tree.Typed.TheVariants as t
use Rattle.td_schema.specs.Kinds.{Name}
use Rattle.td_schema.specs.Schemas.{SchemaData}
use Rattle.td_schema.specs.Written.{names}
use Rattle.td_typing.specs.Trees.{typing, named}
use Rattle.td_typing.specs.ForProofs.Infer.{Inferred, infer, infer_step, infer_name, infer_by, by_unary, by_from, by_project, by_rename, by_nest, by_unnest, by_lone, infer_binary, infer_if, infer_where, infer_aggregate, infer_call, infer_relation, infer_tuple, infer_extend, infer_summarize, infer_with, all_inferred, named_inferred, groups_inferred, summary_inferred, summaries_inferred}

module _ (cat : SchemaData) where
  pub of_integer : (n : ℤ) → infer cat (e.Integer n) ≡ (λ s. Some (typing (t.Integer n) kind.Integer))
  of_integer n = ap (infer cat) (sym (e.rolls-Integer n)) ∙ fold-roll-Expr Inferred (infer_step cat) (Expr-F.Integer n)

  pub of_text : (x : Name) → infer cat (e.Text x) ≡ (λ s. Some (typing (t.Text x) kind.Char))
  of_text x = ap (infer cat) (sym (e.rolls-Text x)) ∙ fold-roll-Expr Inferred (infer_step cat) (Expr-F.Text x)

  pub of_truth : (b : Bool) → infer cat (e.Truth b) ≡ (λ s. Some (typing (t.Truth b) kind.Boolean))
  of_truth b = ap (infer cat) (sym (e.rolls-Truth b)) ∙ fold-roll-Expr Inferred (infer_step cat) (Expr-F.Truth b)

  pub of_dee : infer cat e.TableDee ≡ (λ s. Some (typing (t.Relation by_name.empty (t.Tuple [] ∷ [])) (kind.Relation by_name.empty)))
  of_dee = ap (infer cat) (sym e.rolls-TableDee) ∙ fold-roll-Expr Inferred (infer_step cat) Expr-F.TableDee

  pub of_dum : infer cat e.TableDum ≡ (λ s. Some (typing (t.Relation by_name.empty []) (kind.Relation by_name.empty)))
  of_dum = ap (infer cat) (sym e.rolls-TableDum) ∙ fold-roll-Expr Inferred (infer_step cat) Expr-F.TableDum

  pub of_name : (x : Name) → infer cat (e.Name x) ≡ infer_name x
  of_name x = ap (infer cat) (sym (e.rolls-Name x)) ∙ fold-roll-Expr Inferred (infer_step cat) (Expr-F.Name x)

  pub of_call : (x : Name) (xs : List Expr) → infer cat (e.Call x xs) ≡ infer_call cat x (all_inferred cat xs)
  of_call x xs = ap (infer cat) (sym (e.rolls-Call x xs)) ∙ fold-roll-Expr Inferred (infer_step cat) (Expr-F.Call x xs)

  pub of_relation : (h : Option (List (Named TypeExpr))) (xs : List Expr) → infer cat (e.Relation h xs) ≡ infer_relation cat h (all_inferred cat xs)
  of_relation h xs = ap (infer cat) (sym (e.rolls-Relation h xs)) ∙ fold-roll-Expr Inferred (infer_step cat) (Expr-F.Relation h xs)

  pub of_unary : (o : UnaryOperator) (a : Expr) → infer cat (e.Unary o a) ≡ infer_by (by_unary o) (infer cat a)
  of_unary o a = ap (infer cat) (sym (e.rolls-Unary o a)) ∙ fold-roll-Expr Inferred (infer_step cat) (Expr-F.Unary o a)

  pub of_binary : (o : BinaryOperator) (a b : Expr) → infer cat (e.Binary o a b) ≡ infer_binary o (infer cat a) (infer cat b)
  of_binary o a b = ap (infer cat) (sym (e.rolls-Binary o a b)) ∙ fold-roll-Expr Inferred (infer_step cat) (Expr-F.Binary o a b)

  pub of_from : (x : Name) (a : Expr) → infer cat (e.From x a) ≡ infer_by (by_from x) (infer cat a)
  of_from x a = ap (infer cat) (sym (e.rolls-From x a)) ∙ fold-roll-Expr Inferred (infer_step cat) (Expr-F.From x a)

  pub of_project : (a : Expr) (xs : Attributes) → infer cat (e.Project a xs) ≡ infer_by (by_project xs) (infer cat a)
  of_project a xs = ap (infer cat) (sym (e.rolls-Project a xs)) ∙ fold-roll-Expr Inferred (infer_step cat) (Expr-F.Project a xs)

  pub of_where : (a b : Expr) → infer cat (e.Where a b) ≡ infer_where (infer cat a) (infer cat b)
  of_where a b = ap (infer cat) (sym (e.rolls-Where a b)) ∙ fold-roll-Expr Inferred (infer_step cat) (Expr-F.Where a b)

  pub of_rename : (a : Expr) (xs : List Renaming) → infer cat (e.Rename a xs) ≡ infer_by (by_rename xs) (infer cat a)
  of_rename a xs = ap (infer cat) (sym (e.rolls-Rename a xs)) ∙ fold-roll-Expr Inferred (infer_step cat) (Expr-F.Rename a xs)

  pub of_nest : (o : Nesting) (a : Expr) (xs : Attributes) (c : Name) → infer cat (e.Nest o a xs c) ≡ infer_by (by_nest o xs c) (infer cat a)
  of_nest o a xs c = ap (infer cat) (sym (e.rolls-Nest o a xs c)) ∙ fold-roll-Expr Inferred (infer_step cat) (Expr-F.Nest o a xs c)

  pub of_unnest : (o : Nesting) (a : Expr) (c : Name) → infer cat (e.Unnest o a c) ≡ infer_by (by_unnest o c) (infer cat a)
  of_unnest o a c = ap (infer cat) (sym (e.rolls-Unnest o a c)) ∙ fold-roll-Expr Inferred (infer_step cat) (Expr-F.Unnest o a c)

  pub of_aggregate_lone : (o : Aggregate) (a : Expr) → infer cat (e.Aggregate o a None) ≡ infer_by (by_lone o) (infer cat a)
  of_aggregate_lone o a = ap (infer cat) (sym (e.rolls-Aggregate o a None)) ∙ fold-roll-Expr Inferred (infer_step cat) (Expr-F.Aggregate o a None)

  pub of_aggregate : (o : Aggregate) (a b : Expr) → infer cat (e.Aggregate o a (Some b)) ≡ infer_aggregate o (infer cat a) (infer cat b)
  of_aggregate o a b = ap (infer cat) (sym (e.rolls-Aggregate o a (Some b))) ∙ fold-roll-Expr Inferred (infer_step cat) (Expr-F.Aggregate o a (Some b))

  pub of_if : (a b c : Expr) → infer cat (e.If a b c) ≡ infer_if (infer cat a) (infer cat b) (infer cat c)
  of_if a b c = ap (infer cat) (sym (e.rolls-If a b c)) ∙ fold-roll-Expr Inferred (infer_step cat) (Expr-F.If a b c)

  -- ---- lists of named expressions

  names_inferred : (xs : List (Named Expr)) → names (named_inferred cat xs) ≡ names xs
  names_inferred [] = refl
  names_inferred (x ∷ xs) = ap (λ ns. x.name ∷ ns) (names_inferred xs)

  pub of_tuple : (xs : List (Named Expr)) → infer cat (e.Tuple xs) ≡ infer_tuple (names xs) (named_inferred cat xs)
  of_tuple xs = ap (infer cat) (sym (e.rolls-Tuple xs)) ∙ fold-roll-Expr Inferred (infer_step cat) (Expr-F.Tuple xs) ∙ ap (λ ns. infer_tuple ns (named_inferred cat xs)) (names_inferred xs)

  pub of_extend : (o : Extension) (a : Expr) (xs : List (Named Expr)) → infer cat (e.Extend o a xs) ≡ infer_extend o (infer cat a) (names xs) (named_inferred cat xs)
  of_extend o a xs = ap (infer cat) (sym (e.rolls-Extend o a xs)) ∙ fold-roll-Expr Inferred (infer_step cat) (Expr-F.Extend o a xs) ∙ ap (λ ns. infer_extend o (infer cat a) ns (named_inferred cat xs)) (names_inferred xs)

  pub of_with : (xs : List (Named Expr)) (a : Expr) → infer cat (e.With xs a) ≡ infer_with (named_inferred cat xs) (infer cat a)
  of_with xs a = ap (infer cat) (sym (e.rolls-With xs a)) ∙ fold-roll-Expr Inferred (infer_step cat) (Expr-F.With xs a)

  -- ---- summaries

  abbrev mapped : Named (SummaryTerm Expr) → Named (SummaryTerm Inferred)
  mapped = former-Expr-Summarize-2-at-5.map Expr Inferred (infer cat)

  one_mapped : (n : Name) (x : SummaryTerm Expr) → mapped (named n x) ≡ named n (summary_inferred cat x)
  one_mapped n summary.Count = refl
  one_mapped n (summary.Of o a) = refl

  all_mapped : (xs : List (Named (SummaryTerm Expr))) → map mapped xs ≡ summaries_inferred cat xs
  all_mapped [] = refl
  all_mapped (x ∷ xs) = ap (λ y. y ∷ map mapped xs) (one_mapped x.name x.value) ∙ ap (λ ys. named x.name (summary_inferred cat x.value) ∷ ys) (all_mapped xs)

  summary_names_inferred : (xs : List (Named (SummaryTerm Expr))) → names (summaries_inferred cat xs) ≡ names xs
  summary_names_inferred [] = refl
  summary_names_inferred (x ∷ xs) = ap (λ ns. x.name ∷ ns) (summary_names_inferred xs)

  told : (f : Inferred) (g : Groups Inferred) (xs : List (Named (SummaryTerm Expr))) → infer_summarize f g (names (map mapped xs)) (map mapped xs) ≡ infer_summarize f g (names xs) (summaries_inferred cat xs)
  told f g xs = ap (λ ys. infer_summarize f g (names ys) ys) (all_mapped xs) ∙ ap (λ ns. infer_summarize f g ns (summaries_inferred cat xs)) (summary_names_inferred xs)

  pub of_summarize : (a : Expr) (g : Groups Expr) (xs : List (Named (SummaryTerm Expr))) → infer cat (e.Summarize a g xs) ≡ infer_summarize (infer cat a) (groups_inferred cat g) (names xs) (summaries_inferred cat xs)
  of_summarize a groups.Whole xs = ap (infer cat) (sym (e.rolls-Summarize a groups.Whole xs)) ∙ (fold-roll-Expr Inferred (infer_step cat) (Expr-F.Summarize a groups.Whole xs) ∙ told (infer cat a) groups.Whole xs)
  of_summarize a (groups.Per p) xs = ap (infer cat) (sym (e.rolls-Summarize a (groups.Per p) xs)) ∙ (fold-roll-Expr Inferred (infer_step cat) (Expr-F.Summarize a (groups.Per p) xs) ∙ told (infer cat a) (groups.Per (infer cat p)) xs)
  of_summarize a (groups.By ns) xs = ap (infer cat) (sym (e.rolls-Summarize a (groups.By ns) xs)) ∙ (fold-roll-Expr Inferred (infer_step cat) (Expr-F.Summarize a (groups.By ns) xs) ∙ told (infer cat a) (groups.By ns) xs)
