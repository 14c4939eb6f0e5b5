-- How deep the deepest expression of a list is, of a summary and of groups.
use Rattle.std.specs.Prelude.{ℕ, max, List, [], ◌∷◌}
use Rattle.td_syntax.specs.declared.tree.Named.{Named}
use Rattle.td_syntax.specs.declared.tree.SummaryTerm.{SummaryTerm}
use Rattle.td_syntax.specs.declared.tree.SummaryTerm.TheVariants as summary
use Rattle.td_syntax.specs.declared.tree.Groups.{Groups}
use Rattle.td_syntax.specs.declared.tree.Groups.TheVariants as groups
use Rattle.td_syntax.specs.declared.tree.Expr.{Expr}
use Rattle.td_syntax.specs.Levels.{levels}

abbrev pub list_levels : List Expr → ℕ
list_levels [] = 0
list_levels (a ∷ all) = max (levels a) (list_levels all)

abbrev pub summary_levels : SummaryTerm Expr → ℕ
summary_levels summary.Count = 0
summary_levels (summary.Of g a) = levels a

abbrev pub summaries_levels : List (Named (SummaryTerm Expr)) → ℕ
summaries_levels [] = 0
summaries_levels (x ∷ xs) = max (summary_levels x.value) (summaries_levels xs)

abbrev pub groups_levels : Groups Expr → ℕ
groups_levels (groups.Per a) = levels a
groups_levels _ = 0
