use Rattle.std.proofs.Common.{◌≡◌, ◌+◌, ◌*◌, max, drop}
use Rattle.td_meaning.specs.ForProofs.Checks.{all_hold, check_levels, deepest_check}
use Rattle.td_meaning.specs.ForProofs.Levels.{levels, list_levels, item_levels, named_levels, summary_levels, summaries_levels, groups_levels, limit_levels, weight}
use Rattle.td_meaning.specs.ForProofs.Right.{deepest_in}
use Rattle.td_meaning.specs.ForProofs.ReadyTerms.{deepest_item, deepest_summary, ready_levels, summary_depth}
use Rattle.td_meaning.specs.ForProofs.Terms.{terms_levels}
use Rattle.td_meaning.specs.ForProofs.Over.{list_meant, items_meant, all_meant}
use Rattle.td_operators.specs.ForProofs.Turns.{turn}
use Rattle.td_meaning.specs.Mean.{at, named_at, introduced}
use Rattle.td_operators.specs.Operators.{in_turn}
use Rattle.td_meaning.specs.Parts.{AreRight}
use Rattle.td_meaning.specs.Seen.{all_given, mean_in, names_bound}
use Rattle.td_meaning.proofs.evaluator.+evaluation.Given as goal

abbrev pub decreases-Evaluator::by_form : goal.decreases-Evaluator::by_form
decreases-Evaluator::by_form g l = 12 * levels l.tree.now + weight l.self.now.env.now.selectors.now

abbrev pub decreases-Evaluator::evaluate : goal.decreases-Evaluator::evaluate
decreases-Evaluator::evaluate g l = 12 * levels l.tree.now + 1 + weight l.self.now.env.now.selectors.now

abbrev pub decreases-Evaluator::operand : goal.decreases-Evaluator::operand
decreases-Evaluator::operand g l = 12 * levels l.tree.now + 1 + weight l.self.now.env.now.selectors.now

abbrev pub decreases-Evaluator::rows : goal.decreases-Evaluator::rows
decreases-Evaluator::rows g l = 12 * levels l.a.now + 2 + weight l.self.now.env.now.selectors.now

abbrev pub decreases-Evaluator::truth : goal.decreases-Evaluator::truth
decreases-Evaluator::truth g l = 12 * levels l.a.now + 2 + weight l.self.now.env.now.selectors.now

abbrev pub decreases-Evaluator::unary : goal.decreases-Evaluator::unary
decreases-Evaluator::unary g l = 12 * levels l.a.now + 5 + weight l.self.now.env.now.selectors.now

abbrev pub decreases-Evaluator::join_count : goal.decreases-Evaluator::join_count
decreases-Evaluator::join_count g l = 12 * max (levels l.a.now) (levels l.b.now) + 2 + weight l.self.now.env.now.selectors.now

abbrev pub decreases-Evaluator::count_ready_extension-extension_len : goal.decreases-Evaluator::count_ready_extension-extension_len
decreases-Evaluator::count_ready_extension-extension_len g l = 12 * ready_levels l.term.now + 3 + weight l.self.now.env.now.selectors.now

abbrev pub decreases-Evaluator::count_ready_extension : goal.decreases-Evaluator::count_ready_extension
decreases-Evaluator::count_ready_extension g l = 12 * deepest_item l.items.now + 4 + weight l.self.now.env.now.selectors.now

abbrev pub decreases-Evaluator::count_prepared_extension : goal.decreases-Evaluator::count_prepared_extension
decreases-Evaluator::count_prepared_extension g l = 12 * item_levels l.items.now + 5 + weight l.self.now.env.now.selectors.now

abbrev pub decreases-Evaluator::count_extension : goal.decreases-Evaluator::count_extension
decreases-Evaluator::count_extension g l = 12 * item_levels l.items.now + 7 + weight l.self.now.env.now.selectors.now

abbrev pub decreases-Evaluator::extension_count : goal.decreases-Evaluator::extension_count
decreases-Evaluator::extension_count g l = 12 * max (levels l.r.now) (item_levels l.items.now) + 8 + weight l.self.now.env.now.selectors.now

abbrev pub decreases-Evaluator::count_of_value : goal.decreases-Evaluator::count_of_value
decreases-Evaluator::count_of_value g l = 12 * levels l.a.now + 2 + weight l.self.now.env.now.selectors.now

abbrev pub decreases-Evaluator::count_by_form : goal.decreases-Evaluator::count_by_form
decreases-Evaluator::count_by_form g l = 12 * levels l.a.now + 3 + weight l.self.now.env.now.selectors.now

abbrev pub decreases-Evaluator::count : goal.decreases-Evaluator::count
decreases-Evaluator::count g l = 12 * levels l.a.now + 4 + weight l.self.now.env.now.selectors.now

abbrev pub decreases-Evaluator::component : goal.decreases-Evaluator::component
decreases-Evaluator::component g l = 12 * levels l.a.now + 2 + weight l.self.now.env.now.selectors.now

abbrev pub decreases-Evaluator::attribute : goal.decreases-Evaluator::attribute
decreases-Evaluator::attribute g l = 12 * levels l.a.now + 2 + weight l.self.now.env.now.selectors.now

abbrev pub decreases-Evaluator::projection : goal.decreases-Evaluator::projection
decreases-Evaluator::projection g l = 12 * levels l.a.now + 2 + weight l.self.now.env.now.selectors.now

abbrev pub decreases-Evaluator::renaming : goal.decreases-Evaluator::renaming
decreases-Evaluator::renaming g l = 12 * levels l.a.now + 2 + weight l.self.now.env.now.selectors.now

abbrev pub decreases-Evaluator::nesting : goal.decreases-Evaluator::nesting
decreases-Evaluator::nesting g l = 12 * levels l.a.now + 2 + weight l.self.now.env.now.selectors.now

abbrev pub decreases-Evaluator::unnesting : goal.decreases-Evaluator::unnesting
decreases-Evaluator::unnesting g l = 12 * levels l.a.now + 2 + weight l.self.now.env.now.selectors.now

abbrev pub decreases-Evaluator::both : goal.decreases-Evaluator::both
decreases-Evaluator::both g l = 12 * max (levels l.a.now) (levels l.b.now) + 3 + weight l.self.now.env.now.selectors.now

abbrev pub decreases-Evaluator::either : goal.decreases-Evaluator::either
decreases-Evaluator::either g l = 12 * max (levels l.a.now) (levels l.b.now) + 3 + weight l.self.now.env.now.selectors.now

abbrev pub decreases-Evaluator::two : goal.decreases-Evaluator::two
decreases-Evaluator::two g l = 12 * max (levels l.a.now) (levels l.b.now) + 2 + weight l.self.now.env.now.selectors.now

abbrev pub decreases-Evaluator::within_part : goal.decreases-Evaluator::within_part
decreases-Evaluator::within_part g l = 12 * max (levels l.a.now) (levels l.whole.now) + 2 + weight l.self.now.env.now.selectors.now

abbrev pub decreases-Evaluator::around_part : goal.decreases-Evaluator::around_part
decreases-Evaluator::around_part g l = 12 * max (levels l.whole.now) (levels l.b.now) + 2 + weight l.self.now.env.now.selectors.now

abbrev pub decreases-Evaluator::at_most : goal.decreases-Evaluator::at_most
decreases-Evaluator::at_most g l = 12 * max (levels l.a.now) (levels l.b.now) + 3 + weight l.self.now.env.now.selectors.now

abbrev pub decreases-Evaluator::at_least : goal.decreases-Evaluator::at_least
decreases-Evaluator::at_least g l = 12 * max (levels l.a.now) (levels l.b.now) + 3 + weight l.self.now.env.now.selectors.now

abbrev pub decreases-Evaluator::binary : goal.decreases-Evaluator::binary
decreases-Evaluator::binary g l = 12 * max (levels l.a.now) (levels l.b.now) + 4 + weight l.self.now.env.now.selectors.now

abbrev pub decreases-Evaluator::choice : goal.decreases-Evaluator::choice
decreases-Evaluator::choice g l = 12 * max (levels l.c.now) (max (levels l.a.now) (levels l.b.now)) + 3 + weight l.self.now.env.now.selectors.now

abbrev pub decreases-Evaluator::values : goal.decreases-Evaluator::values
decreases-Evaluator::values g l = 12 * list_levels l.trees.now + 2 + weight l.self.now.env.now.selectors.now

abbrev pub decreases-Evaluator::relation : goal.decreases-Evaluator::relation
decreases-Evaluator::relation g l = 12 * list_levels l.trees.now + 3 + weight l.self.now.env.now.selectors.now

abbrev pub decreases-Evaluator::admits : goal.decreases-Evaluator::admits
decreases-Evaluator::admits g l = 12 * limit_levels l.limit.now + 3 + weight l.earlier.now

abbrev pub decreases-Evaluator::select : goal.decreases-Evaluator::select
decreases-Evaluator::select g l = 12 * limit_levels l.selector.now.limit + 4 + weight l.earlier.now

abbrev pub decreases-Evaluator::selection : goal.decreases-Evaluator::selection
decreases-Evaluator::selection g l = 12 * list_levels l.trees.now + 5 + weight l.self.now.env.now.selectors.now

abbrev pub decreases-Evaluator::fields : goal.decreases-Evaluator::fields
decreases-Evaluator::fields g l = 12 * item_levels l.items.now + 2 + weight l.self.now.env.now.selectors.now

abbrev pub decreases-Evaluator::tuple : goal.decreases-Evaluator::tuple
decreases-Evaluator::tuple g l = 12 * item_levels l.items.now + 3 + weight l.self.now.env.now.selectors.now

abbrev pub decreases-Evaluator::introduce : goal.decreases-Evaluator::introduce
decreases-Evaluator::introduce g l = 12 * named_levels l.xs.now + 2 + weight l.self.now.env.now.selectors.now

abbrev pub decreases-Evaluator::with : goal.decreases-Evaluator::with
decreases-Evaluator::with g l = 12 * max (named_levels l.xs.now) (levels l.body.now) + 3 + weight l.self.now.env.now.selectors.now

abbrev pub decreases-Evaluator::holds_at : goal.decreases-Evaluator::holds_at
decreases-Evaluator::holds_at g l = 12 * check_levels l.check.now + 3 + weight l.self.now.env.now.selectors.now

abbrev pub decreases-Evaluator::all_hold : goal.decreases-Evaluator::all_hold
decreases-Evaluator::all_hold g l = 12 * deepest_check l.checks.now + 4 + weight l.self.now.env.now.selectors.now

abbrev pub decreases-Evaluator::restrict_by_checks-restrict : goal.decreases-Evaluator::restrict_by_checks-restrict
decreases-Evaluator::restrict_by_checks-restrict g l = 12 * deepest_check l.checks.now + 5 + weight l.self.now.env.now.selectors.now

abbrev pub decreases-Evaluator::restrict_by_checks : goal.decreases-Evaluator::restrict_by_checks
decreases-Evaluator::restrict_by_checks g l = 12 * deepest_check l.checks.now + 6 + weight l.self.now.env.now.selectors.now

abbrev pub decreases-Evaluator::restrict_prepared : goal.decreases-Evaluator::restrict_prepared
decreases-Evaluator::restrict_prepared g l = 12 * levels l.c.now + 7 + weight l.self.now.env.now.selectors.now

abbrev pub invariant-Evaluator::all_hold-loop-check : goal.invariant-Evaluator::all_hold-loop-check
invariant-Evaluator::all_hold-loop-check g l =
    all_hold (mean_in l.self.env.now) (names_bound l.scope) l.t l.checks
    ≡ all_hold (mean_in l.self.env.now) (names_bound l.scope) l.t (drop l.check-index l.checks)

abbrev pub decreases-Evaluator::restriction : goal.decreases-Evaluator::restriction
decreases-Evaluator::restriction g l = 12 * max (levels l.r.now) (levels l.c.now) + 9 + weight l.self.now.env.now.selectors.now

abbrev pub decreases-Evaluator::value_at : goal.decreases-Evaluator::value_at
decreases-Evaluator::value_at g l = 12 * ready_levels l.term.now + 2 + weight l.self.now.env.now.selectors.now

abbrev pub decreases-Evaluator::aggregate_ready-aggregate : goal.decreases-Evaluator::aggregate_ready-aggregate
decreases-Evaluator::aggregate_ready-aggregate g l = 12 * ready_levels l.term.now + 3 + weight l.self.now.env.now.selectors.now

abbrev pub decreases-Evaluator::aggregate_ready : goal.decreases-Evaluator::aggregate_ready
decreases-Evaluator::aggregate_ready g l = 12 * summary_depth l.summary.now + 4 + weight l.self.now.env.now.selectors.now

abbrev pub decreases-Evaluator::aggregate_prepared : goal.decreases-Evaluator::aggregate_prepared
decreases-Evaluator::aggregate_prepared g l = 12 * summary_levels l.summary.now + 5 + weight l.self.now.env.now.selectors.now

abbrev pub decreases-Evaluator::aggregation : goal.decreases-Evaluator::aggregation
decreases-Evaluator::aggregation g l = 12 * max (levels l.r.now) (summary_levels l.summary.now) + 8 + weight l.self.now.env.now.selectors.now

abbrev pub decreases-Evaluator::extend_ready-extend : goal.decreases-Evaluator::extend_ready-extend
decreases-Evaluator::extend_ready-extend g l = 12 * ready_levels l.term.now + 3 + weight l.self.now.env.now.selectors.now

abbrev pub decreases-Evaluator::extend_ready : goal.decreases-Evaluator::extend_ready
decreases-Evaluator::extend_ready g l = 12 * deepest_item l.items.now + 4 + weight l.self.now.env.now.selectors.now

abbrev pub decreases-Evaluator::extend_prepared : goal.decreases-Evaluator::extend_prepared
decreases-Evaluator::extend_prepared g l = 12 * item_levels l.items.now + 5 + weight l.self.now.env.now.selectors.now

abbrev pub decreases-Evaluator::extension : goal.decreases-Evaluator::extension
decreases-Evaluator::extension g l = 12 * max (levels l.r.now) (item_levels l.items.now) + 8 + weight l.self.now.env.now.selectors.now

abbrev pub decreases-Evaluator::summarize_per-summarize : goal.decreases-Evaluator::summarize_per-summarize
decreases-Evaluator::summarize_per-summarize g l = 12 * ready_levels l.term.now + 3 + weight l.self.now.env.now.selectors.now

abbrev pub decreases-Evaluator::summarize_per : goal.decreases-Evaluator::summarize_per
decreases-Evaluator::summarize_per g l = 12 * deepest_summary l.items.now + 4 + weight l.self.now.env.now.selectors.now

abbrev pub decreases-Evaluator::summarize_in_runs-summarize_by : goal.decreases-Evaluator::summarize_in_runs-summarize_by
decreases-Evaluator::summarize_in_runs-summarize_by g l = 12 * ready_levels l.term.now + 3 + weight l.self.now.env.now.selectors.now

abbrev pub decreases-Evaluator::summarize_in_runs : goal.decreases-Evaluator::summarize_in_runs
decreases-Evaluator::summarize_in_runs g l = 12 * deepest_summary l.items.now + 4 + weight l.self.now.env.now.selectors.now

abbrev pub decreases-Evaluator::summarize_ready : goal.decreases-Evaluator::summarize_ready
decreases-Evaluator::summarize_ready g l = 12 * max (groups_levels l.groups.now) (deepest_summary l.items.now) + 5 + weight l.self.now.env.now.selectors.now

abbrev pub decreases-Evaluator::summarize_prepared : goal.decreases-Evaluator::summarize_prepared
decreases-Evaluator::summarize_prepared g l = 12 * max (groups_levels l.groups.now) (summaries_levels l.items.now) + 6 + weight l.self.now.env.now.selectors.now

abbrev pub decreases-Evaluator::summarization : goal.decreases-Evaluator::summarization
decreases-Evaluator::summarization g l = 12 * max (levels l.r.now) (max (groups_levels l.by.now) (summaries_levels l.items.now)) + 8 + weight l.self.now.env.now.selectors.now

abbrev pub invariant-Evaluator::values-loop-tree : goal.invariant-Evaluator::values-loop-tree
invariant-Evaluator::values-loop-tree g l =
    in_turn (at (names_bound l.scope)) (list_meant (mean_in l.self.env.now) l.trees)
    ≡ turn (at (names_bound l.scope)) l.found.items (list_meant (mean_in l.self.env.now) (drop l.tree-index l.trees))

abbrev pub invariant-Evaluator::fields-loop-item : goal.invariant-Evaluator::fields-loop-item
invariant-Evaluator::fields-loop-item g l =
    in_turn (named_at (names_bound l.scope)) (items_meant (mean_in l.self.env.now) l.items)
    ≡ turn (named_at (names_bound l.scope)) l.found.items (items_meant (mean_in l.self.env.now) (drop l.item-index l.items))

abbrev pub invariant-Evaluator::introduce-loop-x : goal.invariant-Evaluator::introduce-loop-x
invariant-Evaluator::introduce-loop-x g l =
    introduced (all_meant (mean_in l.self.env.now) l.xs) (names_bound l.scope)
    ≡ introduced (all_meant (mean_in l.self.env.now) (drop l.x-index l.xs)) (all_given l.found (names_bound l.scope))

abbrev pub decreases-Evaluator::restrict_by_condition : goal.decreases-Evaluator::restrict_by_condition
decreases-Evaluator::restrict_by_condition g l = 12 * levels l.c.now + 8 + weight l.self.now.env.now.selectors.now

abbrev pub decreases-Evaluator::aggregate_by_summary : goal.decreases-Evaluator::aggregate_by_summary
decreases-Evaluator::aggregate_by_summary g l = 12 * summary_levels l.summary.now + 7 + weight l.self.now.env.now.selectors.now

abbrev pub decreases-Evaluator::extend_by_items : goal.decreases-Evaluator::extend_by_items
decreases-Evaluator::extend_by_items g l = 12 * item_levels l.items.now + 7 + weight l.self.now.env.now.selectors.now

abbrev pub decreases-Evaluator::summarize_by_groups : goal.decreases-Evaluator::summarize_by_groups
decreases-Evaluator::summarize_by_groups g l = 12 * max (groups_levels l.groups.now) (summaries_levels l.items.now) + 7 + weight l.self.now.env.now.selectors.now

abbrev pub decreases-Evaluator::closed_value : goal.decreases-Evaluator::closed_value
decreases-Evaluator::closed_value g l = 12 * levels l.tree.now + 2 + weight l.self.now.env.now.selectors.now

abbrev pub decreases-Evaluator::keep : goal.decreases-Evaluator::keep
decreases-Evaluator::keep g l = 12 * levels l.tree.now + 3 + weight l.self.now.env.now.selectors.now

abbrev pub decreases-Evaluator::keep_all : goal.decreases-Evaluator::keep_all
decreases-Evaluator::keep_all g l = 12 * deepest_in l.trees.now + 4 + weight l.self.now.env.now.selectors.now

abbrev pub decreases-Evaluator::add_parts : goal.decreases-Evaluator::add_parts
decreases-Evaluator::add_parts g l = 12 * terms_levels l.terms + 5 + weight l.self.now.env.now.selectors.now

abbrev pub decreases-Evaluator::prepare : goal.decreases-Evaluator::prepare
decreases-Evaluator::prepare g l = 12 * terms_levels l.terms + 6 + weight l.self.now.env.now.selectors.now

abbrev pub invariant-Evaluator::keep_all-loop-tree : goal.invariant-Evaluator::keep_all-loop-tree
invariant-Evaluator::keep_all-loop-tree g l = AreRight l.self.env.now l.parts.items

abbrev pub invariant-Evaluator::add_parts-loop : goal.invariant-Evaluator::add_parts-loop
invariant-Evaluator::add_parts-loop g l = AreRight l.self.env.now l.parts.items
