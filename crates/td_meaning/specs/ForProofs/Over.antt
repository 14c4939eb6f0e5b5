-- The forms with terms, over the expressions themselves and not over their meanings.
use Rattle.std.specs.Prelude.{List, map, Result}
use Rattle.td_values.specs.Data.{Datum, Attrs}
use Rattle.td_values.specs.Rows.{RowsData}
use Rattle.td_syntax.specs.declared.tree.Named.{Named}
use Rattle.td_tuples.specs.declared.items.Item.{Item}
use Rattle.td_tuples.specs.declared.items.Summary.{Summary}
use Rattle.td_typed_trees.specs.declared.tree.TypedGroups.{TypedGroups}
use Rattle.td_typed_trees.specs.declared.tree.TypedGroups.TheVariants as groups
use Rattle.td_typed_trees.specs.declared.tree.Typed.{Typed}
use Rattle.td_algebra.specs.declared.errors.Stop.{Stop}
use Rattle.td_algebra.specs.Functions.{extended, summarized}
use Rattle.td_algebra.specs.Raising.{and_then}
use Rattle.td_algebra.specs.Summaries.{summary_over}
use Rattle.td_meaning.specs.Mean.{Names, Meaning, within, rows_in, groups_at}
use Rattle.td_operators.specs.Operators.{as_value}

-- what terms mean, and their values at tuples
abbrev pub Means : Type 0
Means = Typed → Meaning

unfoldable pub terms : Means → Names → Typed → Attrs → Result Datum Stop
terms m names e t = m e (within t names)

-- the meanings of lists
abbrev pub list_meant : Means → List Typed → List Meaning
list_meant m all = map m all

abbrev pub item_meant : Means → Item Typed → Item Meaning
item_meant m i = record { name = i.name; ty = i.ty; term = m i.term }

abbrev pub items_meant : Means → List (Item Typed) → List (Item Meaning)
items_meant m items = map (item_meant m) items

abbrev pub named_meant : Means → Named Typed → Named Meaning
named_meant m n = record { name = n.name; value = m n.value }

abbrev pub all_meant : Means → List (Named Typed) → List (Named Meaning)
all_meant m xs = map (named_meant m) xs

abbrev pub groups_meant : Means → TypedGroups Typed → TypedGroups Meaning
groups_meant m groups.Whole = groups.Whole
groups_meant m (groups.Per a) = groups.Per (m a)
groups_meant m (groups.By xs) = groups.By xs

-- the forms
unfoldable pub over_aggregate : Means → Typed → Summary Typed → Meaning
over_aggregate m r s names = and_then (rows_in (m r) names) (λ ts. summary_over (terms m names) ts.tuples s)

unfoldable pub over_extend : Means → Typed → List (Item Typed) → Meaning
over_extend m r items names = and_then (rows_in (m r) names) (λ ts. and_then (extended (terms m names) items ts) as_value)

-- the summaries per the groups of a relation
unfoldable pub summarized_over : Means → TypedGroups Typed → List (Item (Summary Typed)) → Names → RowsData → Result RowsData Stop
summarized_over m g items names ts = and_then (groups_at (groups_meant m g) names ts) (summarized (terms m names) items ts)

unfoldable pub over_summarize : Means → Typed → TypedGroups Typed → List (Item (Summary Typed)) → Meaning
over_summarize m r g items names = and_then (rows_in (m r) names) (λ ts. and_then (summarized_over m g items names ts) as_value)
