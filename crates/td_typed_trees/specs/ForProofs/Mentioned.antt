-- What lists of expressions mention.
use Rattle.std.specs.Prelude.{List, [], ◌∷◌, ◌++◌}
use Rattle.td_syntax.specs.declared.tree.Named.{Named}
use Rattle.td_tuples.specs.declared.items.Item.{Item}
use Rattle.td_tuples.specs.declared.items.Summary.{Summary}
use Rattle.td_tuples.specs.declared.items.Summary.TheVariants as summary
use Rattle.td_typed_trees.specs.declared.tree.TypedGroups.{TypedGroups}
use Rattle.td_typed_trees.specs.declared.tree.TypedGroups.TheVariants as groups
use Rattle.td_typed_trees.specs.declared.tree.Typed.{Typed}
use Rattle.td_typed_trees.specs.Mentions.{Mentions, mentioned}

abbrev pub list_mentioned : List Typed → Mentions
list_mentioned [] = []
list_mentioned (a ∷ all) = mentioned a ++ list_mentioned all

abbrev pub items_mentioned : List (Item Typed) → Mentions
items_mentioned [] = []
items_mentioned (i ∷ is) = mentioned i.term ++ items_mentioned is

abbrev pub named_mentioned : List (Named Typed) → Mentions
named_mentioned [] = []
named_mentioned (n ∷ ns) = mentioned n.value ++ named_mentioned ns

abbrev pub summary_mentioned : Summary Typed → Mentions
summary_mentioned summary.Count = []
summary_mentioned (summary.Sum a) = mentioned a
summary_mentioned (summary.Max a) = mentioned a
summary_mentioned (summary.Min a) = mentioned a
summary_mentioned (summary.And a) = mentioned a
summary_mentioned (summary.Or a) = mentioned a

abbrev pub summaries_mentioned : List (Item (Summary Typed)) → Mentions
summaries_mentioned [] = []
summaries_mentioned (i ∷ is) = summary_mentioned i.term ++ summaries_mentioned is

abbrev pub groups_mentioned : TypedGroups Typed → Mentions
groups_mentioned groups.Whole = []
groups_mentioned (groups.Per a) = mentioned a
groups_mentioned (groups.By ns) = []
