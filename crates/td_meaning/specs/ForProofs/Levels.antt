-- How deep an expression is, and how much selectors may add to that.
use Rattle.std.specs.Prelude.{ℕ, suc, max, ◌+◌, ◌*◌, List, [], ◌∷◌, Option, None, Some}
use Rattle.td_syntax.specs.declared.tree.Named.{Named}
use Rattle.td_tuples.specs.declared.items.Item.{Item}
use Rattle.td_tuples.specs.declared.items.Summary.{Summary}
use Rattle.td_tuples.specs.declared.items.Summary.TheVariants as summary
use Rattle.td_typed_trees.specs.declared.expression.Selector.{Selector}
use Rattle.td_typed_trees.specs.declared.tree.TypedGroups.{TypedGroups}
use Rattle.td_typed_trees.specs.declared.tree.TypedGroups.TheVariants as groups
use Rattle.td_typed_trees.specs.declared.tree.Typed.{Typed}
use Rattle.td_typed_trees.specs.declared.tree.Typed.TheOpen.{Typed-F}
use Rattle.td_typed_trees.specs.declared.tree.Typed.TheFolds.{fold-Typed}

abbrev pub deepest : List ℕ → ℕ
deepest [] = 0
deepest (n ∷ ns) = max n (deepest ns)

abbrev pub deepest_item : List (Item ℕ) → ℕ
deepest_item [] = 0
deepest_item (n ∷ ns) = max n.term (deepest_item ns)

abbrev pub deepest_named : List (Named ℕ) → ℕ
deepest_named [] = 0
deepest_named (n ∷ ns) = max n.value (deepest_named ns)

abbrev pub of_summary : Summary ℕ → ℕ
of_summary summary.Count = 0
of_summary (summary.Sum n) = n
of_summary (summary.Max n) = n
of_summary (summary.Min n) = n
of_summary (summary.And n) = n
of_summary (summary.Or n) = n

abbrev pub deepest_summary : List (Item (Summary ℕ)) → ℕ
deepest_summary [] = 0
deepest_summary (s ∷ ss) = max (of_summary s.term) (deepest_summary ss)

abbrev pub of_groups : TypedGroups ℕ → ℕ
of_groups groups.Whole = 0
of_groups (groups.Per n) = n
of_groups (groups.By xs) = 0

abbrev pub levels_step : Typed-F ℕ → ℕ
levels_step (Typed-F.Integer n) = 1
levels_step (Typed-F.Text s) = 1
levels_step (Typed-F.Truth b) = 1
levels_step (Typed-F.Local x) = 1
levels_step (Typed-F.Relvar n) = 1
levels_step (Typed-F.Select n all) = suc (deepest all)
levels_step (Typed-F.Component i a) = suc a
levels_step (Typed-F.Tuple items) = suc (deepest_item items)
levels_step (Typed-F.Relation h all) = suc (deepest all)
levels_step (Typed-F.Unary o a) = suc a
levels_step (Typed-F.Binary o a b) = suc (max a b)
levels_step (Typed-F.From x a) = suc a
levels_step (Typed-F.Project a xs) = suc a
levels_step (Typed-F.Where a b) = suc (max a b)
levels_step (Typed-F.Rename a xs) = suc a
levels_step (Typed-F.Nest o a xs c) = suc a
levels_step (Typed-F.Unnest o a c) = suc a
levels_step (Typed-F.Aggregate a s) = suc (max a (of_summary s))
levels_step (Typed-F.If c a b) = suc (max c (max a b))
levels_step (Typed-F.Extend a items) = suc (max a (deepest_item items))
levels_step (Typed-F.Summarize a g items) = suc (max a (max (of_groups g) (deepest_summary items)))
levels_step (Typed-F.With xs a) = suc (max (deepest_named xs) a)

abbrev pub levels : Typed → ℕ
levels = fold-Typed ℕ levels_step

-- ---- the levels of the deepest of these
abbrev pub list_levels : List Typed → ℕ
list_levels [] = 0
list_levels (a ∷ all) = max (levels a) (list_levels all)

abbrev pub item_levels : List (Item Typed) → ℕ
item_levels [] = 0
item_levels (i ∷ is) = max (levels i.term) (item_levels is)

abbrev pub named_levels : List (Named Typed) → ℕ
named_levels [] = 0
named_levels (n ∷ ns) = max (levels n.value) (named_levels ns)

abbrev pub summary_levels : Summary Typed → ℕ
summary_levels summary.Count = 0
summary_levels (summary.Sum a) = levels a
summary_levels (summary.Max a) = levels a
summary_levels (summary.Min a) = levels a
summary_levels (summary.And a) = levels a
summary_levels (summary.Or a) = levels a

abbrev pub summaries_levels : List (Item (Summary Typed)) → ℕ
summaries_levels [] = 0
summaries_levels (i ∷ is) = max (summary_levels i.term) (summaries_levels is)

abbrev pub groups_levels : TypedGroups Typed → ℕ
groups_levels groups.Whole = 0
groups_levels (groups.Per a) = levels a
groups_levels (groups.By xs) = 0

-- ---- selectors: what the evaluation of their CONSTRAINTs, one within another, takes
abbrev pub limit_levels : Option Typed → ℕ
limit_levels None = 0
limit_levels (Some a) = levels a

abbrev pub weight : List Selector → ℕ
weight [] = 0
weight (s ∷ ss) = 12 * limit_levels s.limit + 4 + weight ss
