use Rattle.std.proofs.Common.{◌≤◌, max}
use Rattle.td_meaning.specs.ForProofs.Levels.{item_levels, list_levels, named_levels, summaries_levels}
use Rattle.td_meaning.specs.ForProofs.Right.{deepest_in}
use Rattle.td_meaning.proofs.closed.+survey.Given as goal

abbrev pub invariant-of_items-loop-item : goal.invariant-of_items-loop-item
invariant-of_items-loop-item l = deepest_in l.found.items ≤ max (deepest_in l.fn.found.items) (item_levels l.items)

abbrev pub invariant-of_list-loop-tree : goal.invariant-of_list-loop-tree
invariant-of_list-loop-tree l = deepest_in l.found.items ≤ max (deepest_in l.fn.found.items) (list_levels l.trees)

abbrev pub invariant-of_names-loop-i : goal.invariant-of_names-loop-i
invariant-of_names-loop-i l = deepest_in l.found.items ≤ max (deepest_in l.fn.found.items) (named_levels l.xs)

abbrev pub invariant-of_summaries-loop-item : goal.invariant-of_summaries-loop-item
invariant-of_summaries-loop-item l = deepest_in l.found.items ≤ max (deepest_in l.fn.found.items) (summaries_levels l.items)
