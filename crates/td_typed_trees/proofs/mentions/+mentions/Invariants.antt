use Rattle.std.proofs.Common.{◌≡◌, ◌++◌, drop}
use Rattle.td_typed_trees.specs.ForProofs.Mentioned.{list_mentioned, items_mentioned, named_mentioned, summaries_mentioned}
use Rattle.td_typed_trees.proofs.mentions.+mentions.Given as goal

abbrev pub invariant-add_list-loop-tree : goal.invariant-add_list-loop-tree
invariant-add_list-loop-tree l = l.initial.found.items ++ list_mentioned l.trees ≡ l.found.items ++ list_mentioned (drop l.tree-index l.trees)

abbrev pub invariant-add_items-loop-item : goal.invariant-add_items-loop-item
invariant-add_items-loop-item l = l.initial.found.items ++ items_mentioned l.items ≡ l.found.items ++ items_mentioned (drop l.item-index l.items)

abbrev pub invariant-add_named-loop-name : goal.invariant-add_named-loop-name
invariant-add_named-loop-name l = l.initial.found.items ++ named_mentioned l.names ≡ l.found.items ++ named_mentioned (drop l.name-index l.names)

abbrev pub invariant-add_summaries-loop-item : goal.invariant-add_summaries-loop-item
invariant-add_summaries-loop-item l = l.initial.found.items ++ summaries_mentioned l.items ≡ l.found.items ++ summaries_mentioned (drop l.item-index l.items)
