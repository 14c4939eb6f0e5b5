-- The levels of each form.
use Rattle.std.proofs.Common.{◌≡◌, ◌≤◌, ℕ, suc, max, List, [], ◌∷◌, map, Option, Some, None, refl, ap, sym, ◌∙◌, rules, arith}
use Rattle.td_syntax.specs.declared.tree.Named.{Named}
use Rattle.td_syntax.specs.declared.tree.Attributes.{Attributes}
use Rattle.td_syntax.specs.declared.tree.Renaming.{Renaming}
use Rattle.td_syntax.specs.declared.tree.TypeExpr.{TypeExpr}
use Rattle.td_syntax.specs.declared.tree.UnaryOperator.{UnaryOperator}
use Rattle.td_syntax.specs.declared.tree.BinaryOperator.{BinaryOperator}
use Rattle.td_syntax.specs.declared.tree.Aggregate.{Aggregate}
use Rattle.td_syntax.specs.declared.tree.Nesting.{Nesting}
use Rattle.td_syntax.specs.declared.tree.Extension.{Extension}
use Rattle.td_syntax.specs.declared.tree.SummaryTerm.{SummaryTerm}
use Rattle.td_syntax.specs.declared.tree.SummaryTerm.TheVariants as summary
use Rattle.td_syntax.specs.declared.tree.Groups.{Groups}
use Rattle.td_syntax.specs.declared.tree.Groups.TheVariants as groups
use Rattle.td_syntax.specs.declared.tree.Expr.{Expr, the_lemmas}
use Rattle.td_syntax.specs.declared.tree.Expr.TheVariants as e
use Rattle.td_syntax.specs.declared.tree.Expr.TheOpen.{Expr-F}
use Rattle.td_syntax.specs.declared.tree.Expr.TheFolds.{fold-roll-Expr}
use Rattle.td_syntax.specs.declared.tree.Expr.TheShapes.{former-Expr-Summarize-2-at-5}
use Rattle.td_syntax.specs.Levels.{named_levels, levels, levels_step, deepest, deepest_named, deepest_summary, of_summary}
use Rattle.td_syntax.specs.ForProofs.Parts.{list_levels, summary_levels, summaries_levels, groups_levels}

some_step : (x : Expr-F ℕ) → 1 ≤ levels_step x
some_step _ = grind arith

-- every expression has a level
pub some_level : (a : Expr) → 1 ≤ levels a
some_level a = search (rules, the_lemmas, some_step)

-- ---- lists

list_of : (all : List Expr) → deepest (map levels all) ≡ list_levels all
list_of [] = refl
list_of (a ∷ all) = ap (max (levels a)) (list_of all)

abbrev named_of : Named Expr → Named ℕ
named_of x = record { name = x.name; value = levels x.value }

named_list_of : (xs : List (Named Expr)) → deepest_named (map named_of xs) ≡ named_levels xs
named_list_of [] = refl
named_list_of (x ∷ xs) = ap (max (levels x.value)) (named_list_of xs)

-- ---- forms

pub of_call : (x : List ℕ) (all : List Expr) → levels (e.Call x all) ≡ suc (list_levels all)
of_call x all = search (rules, the_lemmas, list_of)

pub of_tuple : (xs : List (Named Expr)) → levels (e.Tuple xs) ≡ suc (named_levels xs)
of_tuple xs = search (rules, the_lemmas, named_list_of)

pub of_relation : (h : Option (List (Named TypeExpr))) (all : List Expr) → levels (e.Relation h all) ≡ suc (list_levels all)
of_relation h all = search (rules, the_lemmas, list_of)

pub of_unary : (o : UnaryOperator) (a : Expr) → levels (e.Unary o a) ≡ suc (levels a)
of_unary o a = search (rules, the_lemmas)

pub of_binary : (o : BinaryOperator) (a b : Expr) → levels (e.Binary o a b) ≡ suc (max (levels a) (levels b))
of_binary o a b = search (rules, the_lemmas)

pub of_from : (x : List ℕ) (a : Expr) → levels (e.From x a) ≡ suc (levels a)
of_from x a = search (rules, the_lemmas)

pub of_project : (a : Expr) (xs : Attributes) → levels (e.Project a xs) ≡ suc (levels a)
of_project a xs = search (rules, the_lemmas)

pub of_where : (a b : Expr) → levels (e.Where a b) ≡ suc (max (levels a) (levels b))
of_where a b = search (rules, the_lemmas)

pub of_rename : (a : Expr) (xs : List Renaming) → levels (e.Rename a xs) ≡ suc (levels a)
of_rename a xs = search (rules, the_lemmas)

pub of_nest : (g : Nesting) (a : Expr) (xs : Attributes) (x : List ℕ) → levels (e.Nest g a xs x) ≡ suc (levels a)
of_nest g a xs x = search (rules, the_lemmas)

pub of_unnest : (g : Nesting) (a : Expr) (x : List ℕ) → levels (e.Unnest g a x) ≡ suc (levels a)
of_unnest g a x = search (rules, the_lemmas)

pub of_aggregate_all : (g : Aggregate) (a : Expr) → levels (e.Aggregate g a None) ≡ suc (max (levels a) 0)
of_aggregate_all g a = search (rules, the_lemmas)

pub of_aggregate : (g : Aggregate) (a b : Expr) → levels (e.Aggregate g a (Some b)) ≡ suc (max (levels a) (levels b))
of_aggregate g a b = search (rules, the_lemmas)

pub of_choice : (a b c : Expr) → levels (e.If a b c) ≡ suc (max (levels a) (max (levels b) (levels c)))
of_choice a b c = search (rules, the_lemmas)

pub of_extend : (k : Extension) (a : Expr) (xs : List (Named Expr)) → levels (e.Extend k a xs) ≡ suc (max (levels a) (named_levels xs))
of_extend k a xs = search (rules, the_lemmas, named_list_of)

pub of_with : (xs : List (Named Expr)) (a : Expr) → levels (e.With xs a) ≡ suc (max (named_levels xs) (levels a))
of_with xs a = search (rules, the_lemmas, named_list_of)

abbrev summary_of : Named (SummaryTerm Expr) → Named (SummaryTerm ℕ)
summary_of = former-Expr-Summarize-2-at-5.map Expr ℕ levels

of_one : (n : List ℕ) (s : SummaryTerm Expr) → of_summary (summary_of (record { name = n; value = s })).value ≡ summary_levels s
of_one n summary.Count = refl
of_one n (summary.Of g a) = refl

summary_list_of : (xs : List (Named (SummaryTerm Expr))) → deepest_summary (map summary_of xs) ≡ summaries_levels xs
summary_list_of [] = refl
summary_list_of (x ∷ xs) = rw (of_one x.name x.value, summary_list_of xs) refl

pub of_summarize : (a : Expr) (g : Groups Expr) (xs : List (Named (SummaryTerm Expr))) → levels (e.Summarize a g xs) ≡ suc (max (levels a) (max (groups_levels g) (summaries_levels xs)))
of_summarize a groups.Whole xs = ap levels (sym (e.rolls-Summarize a groups.Whole xs)) ∙ (fold-roll-Expr ℕ levels_step (Expr-F.Summarize a groups.Whole xs) ∙ ap (λ n. suc (max (levels a) (max 0 n))) (summary_list_of xs))
of_summarize a (groups.Per b) xs = ap levels (sym (e.rolls-Summarize a (groups.Per b) xs)) ∙ (fold-roll-Expr ℕ levels_step (Expr-F.Summarize a (groups.Per b) xs) ∙ ap (λ n. suc (max (levels a) (max (levels b) n))) (summary_list_of xs))
of_summarize a (groups.By ys) xs = ap levels (sym (e.rolls-Summarize a (groups.By ys) xs)) ∙ (fold-roll-Expr ℕ levels_step (Expr-F.Summarize a (groups.By ys) xs) ∙ ap (λ n. suc (max (levels a) (max 0 n))) (summary_list_of xs))
