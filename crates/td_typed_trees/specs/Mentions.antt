-- Which relvars and possreps an expression names, in the order in which it is written.
use Rattle.std.specs.Prelude.{ℕ, List, [], ◌∷◌, ◌++◌}
use Rattle.td_syntax.specs.declared.tree.Named.{Named}
use Rattle.td_tuples.specs.declared.items.Item.{Item}
use Rattle.td_tuples.specs.declared.items.Summary.{Summary}
use Rattle.td_tuples.specs.declared.items.Summary.TheVariants as summary
use Rattle.td_typed_trees.specs.declared.mentions.Mention.{Mention}
use Rattle.td_typed_trees.specs.declared.mentions.Mention.TheVariants as mention
use Rattle.td_typed_trees.specs.declared.tree.TypedGroups.{TypedGroups}
use Rattle.td_typed_trees.specs.declared.tree.TypedGroups.TheVariants as groups
use Rattle.td_typed_trees.specs.declared.tree.Typed.{Typed}
use Rattle.td_typed_trees.specs.declared.tree.Typed.TheOpen.{Typed-F}
use Rattle.td_typed_trees.specs.declared.tree.Typed.TheFolds.{fold-Typed}

abbrev pub Mentions : Type 0
Mentions = List Mention

-- those of several expressions
abbrev pub of_all : List Mentions → Mentions
of_all [] = []
of_all (m ∷ ms) = m ++ of_all ms

abbrev pub of_items : List (Item Mentions) → Mentions
of_items [] = []
of_items (i ∷ is) = i.term ++ of_items is

abbrev pub of_named : List (Named Mentions) → Mentions
of_named [] = []
of_named (n ∷ ns) = n.value ++ of_named ns

abbrev pub mentioned_by_summary : Summary Mentions → Mentions
mentioned_by_summary summary.Count = []
mentioned_by_summary (summary.Sum m) = m
mentioned_by_summary (summary.Max m) = m
mentioned_by_summary (summary.Min m) = m
mentioned_by_summary (summary.And m) = m
mentioned_by_summary (summary.Or m) = m

abbrev pub of_summaries : List (Item (Summary Mentions)) → Mentions
of_summaries [] = []
of_summaries (i ∷ is) = mentioned_by_summary i.term ++ of_summaries is

abbrev pub mentioned_by_groups : TypedGroups Mentions → Mentions
mentioned_by_groups groups.Whole = []
mentioned_by_groups (groups.Per m) = m
mentioned_by_groups (groups.By ns) = []

abbrev pub mentioned_step : Typed-F Mentions → Mentions
mentioned_step (Typed-F.Integer n) = []
mentioned_step (Typed-F.Text s) = []
mentioned_step (Typed-F.Truth b) = []
mentioned_step (Typed-F.Local x) = []
mentioned_step (Typed-F.Relvar n) = mention.Relvar n ∷ []
mentioned_step (Typed-F.Select n all) = mention.Possrep n ∷ of_all all
mentioned_step (Typed-F.Component i a) = a
mentioned_step (Typed-F.Tuple all) = of_items all
mentioned_step (Typed-F.Relation h all) = of_all all
mentioned_step (Typed-F.Unary o a) = a
mentioned_step (Typed-F.Binary o a b) = a ++ b
mentioned_step (Typed-F.From x a) = a
mentioned_step (Typed-F.Project a ns) = a
mentioned_step (Typed-F.Where a b) = a ++ b
mentioned_step (Typed-F.Rename a ns) = a
mentioned_step (Typed-F.Nest o a ns n) = a
mentioned_step (Typed-F.Unnest o a n) = a
mentioned_step (Typed-F.Aggregate a s) = a ++ mentioned_by_summary s
mentioned_step (Typed-F.If a b c) = a ++ (b ++ c)
mentioned_step (Typed-F.Extend a all) = a ++ of_items all
mentioned_step (Typed-F.Summarize a g all) = a ++ (mentioned_by_groups g ++ of_summaries all)
mentioned_step (Typed-F.With all a) = of_named all ++ a

abbrev pub mentioned : Typed → Mentions
mentioned = fold-Typed Mentions mentioned_step

-- the places of the relvars among them, and of the possreps
abbrev pub relvars_in : Mentions → List ℕ
relvars_in [] = []
relvars_in (mention.Relvar n ∷ ms) = n ∷ relvars_in ms
relvars_in (mention.Possrep n ∷ ms) = relvars_in ms

abbrev pub possreps_in : Mentions → List ℕ
possreps_in [] = []
possreps_in (mention.Relvar n ∷ ms) = possreps_in ms
possreps_in (mention.Possrep n ∷ ms) = n ∷ possreps_in ms
