use Rattle.std.proofs.Common.{ap, sym, ◌∙◌, arith}
use Rattle.td_syntax.specs.declared.tree.Named.{Named}
use Rattle.td_tuples.specs.declared.items.Item.{Item}
use Rattle.td_tuples.specs.declared.items.Summary.{Summary}
use Rattle.td_typed_trees.specs.declared.tree.Typed.{Typed}
use Rattle.td_meaning.specs.ForProofs.Levels.{item_levels, levels, list_levels, named_levels, summaries_levels, summary_levels}
use Rattle.td_meaning.specs.ForProofs.Right.{deepest_in}
use Rattle.td_meaning.proofs.Deepest.{front_is_no_deeper, of_its_term, one_more_deep, relation_levels, select_levels}
use Rattle.std.proofs.lemmas.Result.{on_ok_weaker}
use Rattle.td_meaning.proofs.Depths.{of_extend, of_summarize, of_tuple, of_with}
use Rattle.td_meaning.proofs.Falls.{in_items, in_list, in_named, summary_item}
use Rattle.td_meaning.proofs.closed.+survey.Goals as goal
use Rattle.td_meaning.proofs.closed.+survey.Goals.{of_summaries-in-Count, of_summaries-in-Sum+in_ok-next-in-Sum}

pub of_items-loop-item-preserved : goal.of_items-loop-item-preserved
of_items-loop-item-preserved t c = omega (arith, c.loop-item.invariant, c.in_ok-next.ensures, in_items c.args.items.now c.loop-item.item-index c.item-item.result c.get.result.now c.loop-item-test.true c.item-item.is c.get.ensures)

pub of_list-loop-tree-preserved : goal.of_list-loop-tree-preserved
of_list-loop-tree-preserved t c = omega (arith, c.loop-tree.invariant, c.in_ok-next.ensures, in_list c.args.trees.now c.loop-tree.tree-index c.tree-item.result c.get.result.now c.loop-tree-test.true c.tree-item.is c.get.ensures)

pub of_names-loop-i-preserved : goal.of_names-loop-i-preserved
of_names-loop-i-preserved t c = omega (arith, c.loop-i.invariant, c.in_ok-next.ensures, in_named c.args.xs.now c.loop-i.i c.index-xs-i.result c.get.result.now c.loop-i-test.true c.index-xs-i.is (c.get.ensures ∙ ap (λ (n : Named Typed). n.value) (sym c.index-xs-i.is)))

pub survey-returns-in_ok-push : goal.survey-returns-in_ok-push
survey-returns-in_ok-push t c = omega (arith, ap deepest_in c.in_ok-push.ensures.items, one_more_deep c.truncate.new.self.items c.args.tree, ap deepest_in c.truncate.ensures.items, front_is_no_deeper c.len-mark.result c.of_parts.new.found.items, c.in_ok-reach.ensures)

pub survey-returns-else-is_worth_keeping : goal.survey-returns-else-is_worth_keeping
survey-returns-else-is_worth_keeping t c = omega (arith, ap deepest_in c.truncate.ensures.items, front_is_no_deeper c.len-mark.result c.of_parts.new.found.items, c.in_ok-reach.ensures)

pub of_terms-returns-in_ok-second-in-Extend : goal.of_terms-returns-in_ok-second-in-Extend
of_terms-returns-in_ok-second-in-Extend t c = omega (arith, ap levels c.in-Extend.is, of_extend c.in-Extend.r c.in-Extend.items, ap levels c.get-in-Extend.ensures, ap item_levels c.as_slice.ensures, c.in_ok-first-in-Extend.ensures, c.in_ok-second-in-Extend.ensures)

pub of_terms-returns-in_ok-third-in-Summarize : goal.of_terms-returns-in_ok-third-in-Summarize
of_terms-returns-in_ok-third-in-Summarize t c = omega (arith, ap levels c.in-Summarize.is, of_summarize c.in-Summarize.r c.in-Summarize.groups c.in-Summarize.items, ap levels c.get-in-Summarize.ensures, ap summaries_levels c.as_slice-in-Summarize.ensures, c.in_ok-first-in-Summarize.ensures, c.in_ok-second-in-Summarize.ensures, c.in_ok-third-in-Summarize.ensures)

pub of_terms-returns-in_ok-second-in-With : goal.of_terms-returns-in_ok-second-in-With
of_terms-returns-in_ok-second-in-With t c = omega (arith, ap levels c.in-With.is, of_with c.in-With.xs c.in-With.body, ap levels c.get-in-With.ensures, ap named_levels c.as_slice-in-With.ensures, c.in_ok-first-in-With.ensures, c.in_ok-second-in-With.ensures)

pub of_parts-returns-in-Tuple : goal.of_parts-returns-in-Tuple
of_parts-returns-in-Tuple t c = on_ok_weaker c.of_items.result (λ h. omega (arith, h, ap levels c.in-Tuple.is, of_tuple c.in-Tuple.items, ap item_levels c.as_slice-in-Tuple.ensures)) c.of_items.ensures

pub of_parts-returns-in_ok-of_list-in-Select : goal.of_parts-returns-in_ok-of_list-in-Select
of_parts-returns-in_ok-of_list-in-Select t c = omega (arith, select_levels _ _ _ c.in-Select.is, ap list_levels c.as_slice.ensures, c.in_ok-of_list-in-Select.ensures)

pub of_parts-returns-in_ok-of_list-in-Relation : goal.of_parts-returns-in_ok-of_list-in-Relation
of_parts-returns-in_ok-of_list-in-Relation t c = omega (arith, relation_levels _ _ _ c.in-Relation.is, ap list_levels c.as_slice-in-Relation.ensures, c.in_ok-of_list-in-Relation.ensures)

pub of_summaries-loop-item-preserved : goal.of_summaries-loop-item-preserved
of_summaries-loop-item-preserved t c =
    let deep = ap (λ (i : Item (Summary Typed)). summary_levels i.term) c.item-item.is in
    let among = summary_item c.args.items.now c.loop-item.item-index c.item-item.result c.loop-item-test.true in
    elim c.match-item.branch [
      | of_summaries-in-Count w ↦ omega (arith, c.loop-item.invariant, ap (λ v. deepest_in v.items) w.found-is)
      | of_summaries-in-Sum+in_ok-next-in-Sum w ↦ omega (arith, c.loop-item.invariant, ap (λ v. deepest_in v.items) w.found-is, w.in_ok-next-in-Sum.ensures, ap levels w.get.ensures, of_its_term c.item-item.result.term w.in-Sum.term w.in-Sum.is, deep, among)
    ]
