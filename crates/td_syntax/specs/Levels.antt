-- How deep an expression is.
use Rattle.std.specs.Prelude.{ℕ, suc, max, List, [], ◌∷◌, Option, Some, None}
use Rattle.td_syntax.specs.declared.tree.Named.{Named}
use Rattle.td_syntax.specs.declared.tree.SummaryTerm.{SummaryTerm}
use Rattle.td_syntax.specs.declared.tree.SummaryTerm.TheVariants as summary
use Rattle.td_syntax.specs.declared.tree.Groups.{Groups}
use Rattle.td_syntax.specs.declared.tree.Groups.TheVariants as groups
use Rattle.td_syntax.specs.declared.tree.Expr.{Expr}
use Rattle.td_syntax.specs.declared.tree.Expr.TheOpen.{Expr-F}
use Rattle.td_syntax.specs.declared.tree.Expr.TheFolds.{fold-Expr}

-- the levels of the deepest
abbrev pub deepest : List ℕ → ℕ
deepest [] = 0
deepest (n ∷ ns) = max n (deepest ns)

abbrev pub deepest_named : List (Named ℕ) → ℕ
deepest_named [] = 0
deepest_named (n ∷ ns) = max n.value (deepest_named ns)

abbrev pub of_summary : SummaryTerm ℕ → ℕ
of_summary summary.Count = 0
of_summary (summary.Of a n) = n

abbrev pub deepest_summary : List (Named (SummaryTerm ℕ)) → ℕ
deepest_summary [] = 0
deepest_summary (s ∷ ss) = max (of_summary s.value) (deepest_summary ss)

abbrev pub of_groups : Groups ℕ → ℕ
of_groups (groups.Per n) = n
of_groups _ = 0

abbrev pub of_option : Option ℕ → ℕ
of_option None = 0
of_option (Some n) = n

-- one level more than the expressions in it
abbrev pub levels_step : Expr-F ℕ → ℕ
levels_step (Expr-F.Integer n) = 1
levels_step (Expr-F.Text s) = 1
levels_step (Expr-F.Truth b) = 1
levels_step Expr-F.TableDee = 1
levels_step Expr-F.TableDum = 1
levels_step (Expr-F.Name x) = 1
levels_step (Expr-F.Call x all) = suc (deepest all)
levels_step (Expr-F.Tuple all) = suc (deepest_named all)
levels_step (Expr-F.Relation h all) = suc (deepest all)
levels_step (Expr-F.Unary o a) = suc a
levels_step (Expr-F.Binary o a b) = suc (max a b)
levels_step (Expr-F.From x a) = suc a
levels_step (Expr-F.Project a xs) = suc a
levels_step (Expr-F.Where a b) = suc (max a b)
levels_step (Expr-F.Rename a xs) = suc a
levels_step (Expr-F.Nest g a xs x) = suc a
levels_step (Expr-F.Unnest g a x) = suc a
levels_step (Expr-F.Aggregate g a b) = suc (max a (of_option b))
levels_step (Expr-F.If a b c) = suc (max a (max b c))
levels_step (Expr-F.Extend k a all) = suc (max a (deepest_named all))
levels_step (Expr-F.Summarize a g all) = suc (max a (max (of_groups g) (deepest_summary all)))
levels_step (Expr-F.With all a) = suc (max (deepest_named all) a)

-- A form with no expression in it has one level, and every other one more than the deepest in it.
abbrev pub levels : Expr → ℕ
levels = fold-Expr ℕ levels_step

-- the levels of the deepest
abbrev pub named_levels : List (Named Expr) → ℕ
named_levels [] = 0
named_levels (x ∷ xs) = max (levels x.value) (named_levels xs)
