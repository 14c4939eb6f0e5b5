use Rattle.std.proofs.Common.{◌+◌, ℕ, Bool, Result, List, Vec, Global, drop, length, rules, get_or, Ok, sym, ap, ◌∙◌, subst, arith}
use Rattle.td_values.specs.Data.{Datum}
use Rattle.td_values.specs.Rows.{RowsData}
use Rattle.td_syntax.specs.declared.tree.Named.{Named}
use Rattle.td_algebra.specs.Functions.{extended, project_of, restricted}
use Rattle.td_algebra.specs.Raising.{Answers, AnswersBy, and_then}
use Rattle.td_algebra.specs.declared.errors.Stop.{Stop}
use Rattle.td_algebra.proofs.Bridges.{counts_to, restricts_to, extends_to, summarizes_to}
use Rattle.td_meaning.specs.declared.scope.KnownValue.{KnownValue}
use Rattle.td_operators.specs.ForProofs.Lent.{operand_value}
use Rattle.td_meaning.specs.ForProofs.ReadyTerms.{AreReady, IsReady, IsReadySummary, ready_levels, ready_value}
use Rattle.td_meaning.specs.ForProofs.Over.{terms, list_meant, items_meant, all_meant, groups_meant, over_aggregate, over_extend, over_summarize, summarized_over}
use Rattle.td_operators.specs.ForProofs.Turns.{turn}
use Rattle.td_meaning.specs.Mean.{at, named_at, groups_at, introduced, truth_at, truth_in, rows_in, mean, mean_both, mean_by, mean_binary, mean_where, mean_if, mean_with}
use Rattle.td_syntax.specs.declared.tree.BinaryOperator.TheVariants as binary
use Rattle.td_syntax.specs.declared.tree.UnaryOperator.TheVariants as unary
use Rattle.td_operators.specs.Operators.{component_at, in_turn, operate, operate_on, attribute_at, part_at, with_new_names, nested, unnested}
use Rattle.td_tuples.specs.Parts.{Fits}
use Rattle.td_meaning.specs.ForProofs.Checks.{AreChecks, all_hold, check_holds}
use Rattle.td_meaning.specs.Parts.{AreRight}
use Rattle.td_meaning.proofs.Deepest.{in_deepest}
use Rattle.td_meaning.proofs.Checks.{check_within, hold_goes, hold_stops}
use Rattle.td_meaning.proofs.ReadyTerms.{of_ready, ready_extends, ready_summarizes, ready_summary_within, ready_within, summary_same}
use Rattle.td_meaning.proofs.Rightness.{error_means, right_in_slice, told_error, value_means}
use Rattle.td_meaning.specs.Seen.{held_value, all_given, mean_in, relvars_there, names_bound}
use Rattle.td_meaning.specs.Selections.{admits, no_relvars, selection}
use Rattle.td_meaning.proofs.Falls.{in_list, in_items, in_named, select_falls, relation_falls, tuple_falls, extend_falls, with_falls, summarize_falls}
use Rattle.td_meaning.proofs.Forms.{of_component, of_relvar, of_unary, of_binary, of_from, of_project, of_where, of_rename, of_nest, of_unnest, of_aggregate, of_if, of_extend, of_summarize, of_with}
use Rattle.td_meaning.proofs.Walks.{value_goes, value_stops, field_goes, field_stops, name_goes, name_stops, one_more_given, count_stops, counted_over, fails, made_over, stops_over}
use Rattle.td_operators.proofs.Turns.{turn_begins}
use Rattle.td_meaning.proofs.evaluator.+evaluation.Goals as goal

-- ---- closures

pub Evaluator::restrict_by_checks-returns : goal.Evaluator::restrict_by_checks-returns
unfolding truth_at
Evaluator::restrict_by_checks-returns g t c = λ a are.
    let names = names_bound c.args.scope.now in
    let h = c.args.ts.now.heading in
    let m = truth_at (mean_in c.args.self.now.env.now a) names in
    restricts_to m c.args.ts.now c.restrict.result (c.restrict.ensures m (λ k d lt r gave.
    let fit = subst (Fits h) (sym gave.shows) (c.rows_fit.ensures.fit k d lt) in
    subst (λ x. Answers r (m x)) gave.shows (subst (Answers r) (are gave.shown.now fit) gave.says.met)))

pub Evaluator::restrict_prepared-returns : goal.Evaluator::restrict_prepared-returns
Evaluator::restrict_prepared-returns g t c =
    let m = mean_in c.args.self.now.env.now in
    let names = names_bound c.args.scope.now in
    let a = c.args.c.now in
    let ts = c.args.ts.now in
    let are = subst (λ (r : RowsData). AreChecks m names r.heading a c.in_ok-checks.checks.items) c.get.ensures (subst (λ h. AreChecks m names h a c.in_ok-checks.checks.items) c.heading.ensures c.in_ok-checks.ensures.means) in
    subst (λ r. Answers c.restrict_by_checks-in-None.result (restricted (truth_at (m a) names) r)) c.get-in-None.ensures
    (c.restrict_by_checks-in-None.ensures a
    (subst (λ (r : RowsData). AreChecks m names r.heading a c.as_slice-in-None.result.now) (sym c.get-in-None.ensures) (subst (AreChecks m names ts.heading a) (sym c.as_slice-in-None.ensures.value) are)))

pub Evaluator::restrict_prepared-returns-in-Some : goal.Evaluator::restrict_prepared-returns-in-Some
unfolding truth_at
Evaluator::restrict_prepared-returns-in-Some g t c =
    let m = mean_in c.args.self.now.env.now in
    let names = names_bound c.args.scope.now in
    let a = c.args.c.now in
    let ts = c.args.ts.now in
    let part = c.in-Some.part in
    let are = subst (λ (r : RowsData). AreChecks m names r.heading a c.in_ok-checks.checks.items) c.get.ensures (subst (λ h. AreChecks m names h a c.in_ok-checks.checks.items) c.heading.ensures c.in_ok-checks.ensures.means) in
    let narrow = rw c.in-Some.is at c.in_ok-part.ensures in
    let sought = subst (AreChecks m names ts.heading a) (sym c.as_slice.ensures.value) are in
    let here = subst (AreChecks m names ts.heading a) (sym c.as_slice-in-Some.ensures.value) are in
    subst (Answers c.restrict_by_checks.result) (narrow.same m names (truth_at (m a) names) (λ u f. sym (sought u f)))
    (c.restrict_by_checks.ensures a (subst (λ h. AreChecks m names h a c.as_slice-in-Some.result.now) (sym narrow.heading) here))

pub Evaluator::extend_ready-extend-requires : goal.Evaluator::extend_ready-extend-requires
Evaluator::extend_ready-extend-requires g t c = λ k d lt i x among p q is_term is_tuple.
    (omega (arith, c.decreases, ready_within c.args.items.now i x p.now among is_term), λ a m. m)

pub Evaluator::extend_ready-returns : goal.Evaluator::extend_ready-returns
Evaluator::extend_ready-returns g t c =
    let m = ready_value (mean_in c.args.self.now.env.now) (names_bound c.args.scope.now) in
    extends_to m c.args.items.now c.args.ts.now c.extend.result (c.extend.ensures m (λ k d lt i x among p q a is_term is_tuple gave.
    subst (λ e. Answers a (m e (get_or c.args.ts.now.tuples k d))) is_term (subst (λ u. Answers a (m p.now u)) is_tuple gave)))

pub Evaluator::extend_prepared-returns : goal.Evaluator::extend_prepared-returns
Evaluator::extend_prepared-returns g t c =
    let m = mean_in c.args.self.now.env.now in
    let names = names_bound c.args.scope.now in
    let r = c.args.ts.now in
    let items = c.args.items.now in
    let are = subst (AreReady (IsReady m names r.heading) items) (sym c.as_slice.ensures.value) (subst (λ h. AreReady (IsReady m names h) items c.in_ok-ready.ready.items) c.heading.ensures c.in_ok-ready.ensures.means) in
    subst (Answers c.extend_ready.result) (ready_extends m names r c.rows_fit.ensures.fit items c.as_slice.result.now are) c.extend_ready.ensures

pub Evaluator::summarize_per-summarize-requires : goal.Evaluator::summarize_per-summarize-requires
Evaluator::summarize_per-summarize-requires g t c = λ k d lt i x among. of_ready _ (get_or c.args.items.now i x).term (λ e le p q is_term is_tuple.
    (omega (arith, c.decreases, ready_summary_within c.args.items.now i x e p.now among le is_term), λ a m. m))

pub Evaluator::summarize_per-returns : goal.Evaluator::summarize_per-returns
Evaluator::summarize_per-returns g t c =
    let m = ready_value (mean_in c.args.self.now.env.now) (names_bound c.args.scope.now) in
    summarizes_to m c.args.items.now c.args.ts.now c.args.us.now c.summarize.result (c.summarize.ensures m (λ k d lt i x among. of_ready _ (get_or c.args.items.now i x).term (λ e le p q a is_term is_tuple gave.
    subst (λ e. Answers a (m e (get_or c.args.ts.now.tuples k d))) is_term (subst (λ u. Answers a (m p.now u)) is_tuple gave))))

pub Evaluator::summarize_in_runs-summarize_by-requires : goal.Evaluator::summarize_in_runs-summarize_by-requires
Evaluator::summarize_in_runs-summarize_by-requires g t c = λ k d lt i x among. of_ready _ (get_or c.args.items.now i x).term (λ e le p q is_term is_tuple.
    (omega (arith, c.decreases, ready_summary_within c.args.items.now i x e p.now among le is_term), λ a m. m))

pub Evaluator::summarize_in_runs-returns : goal.Evaluator::summarize_in_runs-returns
Evaluator::summarize_in_runs-returns g t c =
    let m = ready_value (mean_in c.args.self.now.env.now) (names_bound c.args.scope.now) in
    summarizes_to m c.args.items.now c.args.ts.now (project_of c.args.names.now c.args.ts.now) c.summarize_by.result (c.summarize_by.ensures m (λ k d lt i x among. of_ready _ (get_or c.args.items.now i x).term (λ e le p q a is_term is_tuple gave.
    subst (λ e. Answers a (m e (get_or c.args.ts.now.tuples k d))) is_term (subst (λ u. Answers a (m p.now u)) is_tuple gave))))

pub Evaluator::summarize_prepared-returns : goal.Evaluator::summarize_prepared-returns
unfolding summarized_over
Evaluator::summarize_prepared-returns g t c =
    let m = mean_in c.args.self.now.env.now in
    let names = names_bound c.args.scope.now in
    let r = c.args.ts.now in
    let items = c.args.items.now in
    let are = subst (AreReady (IsReadySummary m names r.heading) items) (sym c.as_slice.ensures.value) (subst (λ h. AreReady (IsReadySummary m names h) items c.in_ok-ready.ready.items) c.heading.ensures c.in_ok-ready.ensures.means) in
    subst (Answers c.summarize_ready.result) (λ k. and_then (groups_at (groups_meant m c.args.groups.now) names r) (λ us. ready_summarizes m names r c.rows_fit.ensures.fit items c.as_slice.result.now are us k)) c.summarize_ready.ensures

pub Evaluator::aggregate_ready-aggregate-requires : goal.Evaluator::aggregate_ready-aggregate-requires
Evaluator::aggregate_ready-aggregate-requires g t c = λ k d lt. of_ready _ c.args.summary.now (λ e le p q is_term is_tuple.
    (omega (arith, c.decreases, le, ap ready_levels is_term), λ a m. m))

pub Evaluator::aggregate_ready-returns : goal.Evaluator::aggregate_ready-returns
Evaluator::aggregate_ready-returns g t c =
    let m = ready_value (mean_in c.args.self.now.env.now) (names_bound c.args.scope.now) in
    c.aggregate.ensures m (λ k d lt. of_ready _ c.args.summary.now (λ e le p q a is_term is_tuple gave.
    subst (λ x. Answers a (m x (get_or c.args.ts.now.tuples k d))) is_term (subst (λ u. Answers a (m p.now u)) is_tuple gave)))

pub Evaluator::aggregate_prepared-returns : goal.Evaluator::aggregate_prepared-returns
Evaluator::aggregate_prepared-returns g t c =
    let m = mean_in c.args.self.now.env.now in
    let names = names_bound c.args.scope.now in
    let r = c.args.ts.now in
    let same = subst (λ h. IsReadySummary m names h c.args.summary.now c.in_ok-ready.ready) c.heading.ensures c.in_ok-ready.ensures.means in
    subst (Answers c.aggregate_ready.result) (summary_same m names r.heading r.tuples c.rows_fit.ensures.fit c.args.summary.now c.in_ok-ready.ready same) c.aggregate_ready.ensures

-- ---- measures

pub Evaluator::values-evaluate-requires : goal.Evaluator::values-evaluate-requires
Evaluator::values-evaluate-requires g t c = λ κs within. (omega (arith, c.decreases, in_list c.args.trees.now c.loop-tree.tree-index c.tree-item.result _ c.loop-tree-test.true c.tree-item.is c.get.ensures), within)

pub Evaluator::fields-evaluate-requires : goal.Evaluator::fields-evaluate-requires
Evaluator::fields-evaluate-requires g t c = λ κs within. (omega (arith, c.decreases, in_items c.args.items.now c.loop-item.item-index c.item-item.result _ c.loop-item-test.true c.item-item.is c.get.ensures), within)

pub Evaluator::introduce-evaluate-requires : goal.Evaluator::introduce-evaluate-requires
Evaluator::introduce-evaluate-requires g t c = λ κs within. (omega (arith, c.decreases, in_named c.args.xs.now c.loop-x.x-index c.x-item.result _ c.loop-x-test.true c.x-item.is c.get.ensures), within)

pub Evaluator::all_hold-holds_at-requires : goal.Evaluator::all_hold-holds_at-requires
Evaluator::all_hold-holds_at-requires g t c = λ κs within. (omega (arith, c.decreases, check_within c.args.checks.now c.loop-check.check-index c.check-item.result c.check-item.result c.loop-check-test.true c.check-item.is), within)

pub Evaluator::by_form-selection-requires : goal.Evaluator::by_form-selection-requires
Evaluator::by_form-selection-requires g t c = λ κs within. (omega (arith, c.decreases, select_falls c.args.tree.now c.in-Select.place c.in-Select.trees _ c.in-Select.is c.as_slice.ensures), within)

pub Evaluator::by_form-tuple-requires : goal.Evaluator::by_form-tuple-requires
Evaluator::by_form-tuple-requires g t c = λ κs within. (omega (arith, c.decreases, tuple_falls c.args.tree.now c.in-Tuple.items _ c.in-Tuple.is c.as_slice-in-Tuple.ensures), within)

pub Evaluator::by_form-relation-requires : goal.Evaluator::by_form-relation-requires
Evaluator::by_form-relation-requires g t c = λ κs within. (omega (arith, c.decreases, relation_falls c.args.tree.now c.in-Relation.heading c.in-Relation.trees _ c.in-Relation.is c.as_slice-in-Relation.ensures), within)

pub Evaluator::by_form-extension-requires : goal.Evaluator::by_form-extension-requires
Evaluator::by_form-extension-requires g t c = λ κs within. (omega (arith, c.decreases, extend_falls c.args.tree.now c.in-Extend.r _ c.in-Extend.items _ c.in-Extend.is c.get-in-Extend.ensures c.as_slice-in-Extend.ensures), within)

pub Evaluator::by_form-summarization-requires : goal.Evaluator::by_form-summarization-requires
Evaluator::by_form-summarization-requires g t c = λ κs within. (omega (arith, c.decreases, summarize_falls c.args.tree.now c.in-Summarize.r _ c.in-Summarize.by c.in-Summarize.items _ c.in-Summarize.is c.get-in-Summarize.ensures c.as_slice-in-Summarize.ensures), within)

pub Evaluator::by_form-with-requires : goal.Evaluator::by_form-with-requires
Evaluator::by_form-with-requires g t c = λ κs within. (omega (arith, c.decreases, with_falls c.args.tree.now c.in-With.body _ c.in-With.xs _ c.in-With.is c.get-in-With.ensures c.as_slice-in-With.ensures), within)

-- ---- lists

pub Evaluator::values-loop-tree-init : goal.Evaluator::values-loop-tree-init
Evaluator::values-loop-tree-init g t c =
    let f = at (names_bound c.args.scope.now) in
    let ms = list_meant (mean_in c.args.self.now.env.now) c.args.trees.now in
    turn_begins f ms ∙ ap (λ xs. turn f xs ms) (sym c.new-found.ensures.items)

pub Evaluator::values-loop-tree-preserved : goal.Evaluator::values-loop-tree-preserved
Evaluator::values-loop-tree-preserved g t c =
    let m = mean_in c.args.self.now.env.now in
    let names = names_bound c.args.scope.now in
    let xs = c.args.trees.now in
    let i = c.loop-tree.tree-index in
    c.loop-tree.invariant
    ∙ value_goes m names xs i c.tree-item.result c.get.result.now c.loop-tree.found.items c.loop-tree-test.true c.tree-item.is c.get.ensures c.in_ok-value.value c.in_ok-value.ensures
    ∙ ap (λ ys. turn (at names) ys (list_meant m (drop (i + 1) xs))) (sym c.in_ok-add_value.ensures)

pub Evaluator::values-returns-in_err-value : goal.Evaluator::values-returns-in_err-value
Evaluator::values-returns-in_err-value g t c =
    let m = mean_in c.args.self.now.env.now in
    let names = names_bound c.args.scope.now in
    let xs = c.args.trees.now in
    let h = fails {A = Datum} (λ (v : Vec Datum Global). v.items) c.in_err-value.field-0.0 (m c.get.result.now names) (in_turn (at names) (list_meant m xs))
    (λ e stop. c.loop-tree.invariant ∙ value_stops m names xs c.loop-tree.tree-index c.tree-item.result c.get.result.now c.loop-tree.found.items c.loop-tree-test.true c.tree-item.is c.get.ensures e stop)
    c.in_err-value.ensures in
    search (rules, h)

pub Evaluator::fields-loop-item-init : goal.Evaluator::fields-loop-item-init
Evaluator::fields-loop-item-init g t c =
    let f = named_at (names_bound c.args.scope.now) in
    let ms = items_meant (mean_in c.args.self.now.env.now) c.args.items.now in
    turn_begins f ms ∙ ap (λ xs. turn f xs ms) (sym c.new-found.ensures.items)

pub Evaluator::fields-loop-item-preserved : goal.Evaluator::fields-loop-item-preserved
Evaluator::fields-loop-item-preserved g t c =
    let m = mean_in c.args.self.now.env.now in
    let names = names_bound c.args.scope.now in
    let xs = c.args.items.now in
    let i = c.loop-item.item-index in
    c.loop-item.invariant
    ∙ field_goes m names xs i c.item-item.result c.get.result.now c.loop-item.found.items c.loop-item-test.true c.item-item.is c.get.ensures c.in_ok-value.value c.in_ok-value.ensures
    ∙ ap (λ ys. turn (named_at names) ys (items_meant m (drop (i + 1) xs))) (sym c.in_ok-add_field.ensures)

pub Evaluator::fields-returns-in_err-value : goal.Evaluator::fields-returns-in_err-value
Evaluator::fields-returns-in_err-value g t c =
    let m = mean_in c.args.self.now.env.now in
    let names = names_bound c.args.scope.now in
    let xs = c.args.items.now in
    let h = fails {A = Datum} (λ (v : Vec (List ℕ × Datum) Global). v.items) c.in_err-value.field-0.0 (m c.get.result.now names) (in_turn (named_at names) (items_meant m xs))
    (λ e stop. c.loop-item.invariant ∙ field_stops m names xs c.loop-item.item-index c.item-item.result c.get.result.now c.loop-item.found.items c.loop-item-test.true c.item-item.is c.get.ensures e stop)
    c.in_err-value.ensures in
    search (rules, h)

pub Evaluator::introduce-loop-x-preserved : goal.Evaluator::introduce-loop-x-preserved
Evaluator::introduce-loop-x-preserved g t c =
    let m = mean_in c.args.self.now.env.now in
    let outer = names_bound c.args.scope.now in
    let xs = c.args.xs.now in
    let i = c.loop-x.x-index in
    let a = c.get.result.now in
    c.loop-x.invariant
    ∙ name_goes m (all_given c.loop-x.found outer) xs i c.x-item.result a c.loop-x-test.true c.x-item.is c.get.ensures c.in_ok-value.value
    (ap (λ fs. m a (all_given fs outer)) (sym c.as_slice.ensures) ∙ c.in_ok-value.ensures)
    ∙ ap (introduced (all_meant m (drop (i + 1) xs)))
    (sym (one_more_given c.loop-x.found c.add_held.new.found c.x-item.result.name c.in_ok-add_held.ensures.0 c.in_ok-value.value outer c.in_ok-add_held.ensures.1 c.in_ok-add_held.ensures.2))

pub Evaluator::introduce-returns-in_err-value : goal.Evaluator::introduce-returns-in_err-value
Evaluator::introduce-returns-in_err-value g t c =
    let m = mean_in c.args.self.now.env.now in
    let outer = names_bound c.args.scope.now in
    let xs = c.args.xs.now in
    let a = c.get.result.now in
    let h = fails {A = Datum} (λ (v : List (Named KnownValue)). all_given v outer) c.in_err-value.field-0.0 (m a (all_given c.as_slice.result.now outer)) (introduced (all_meant m xs) outer)
    (λ e stop. c.loop-x.invariant ∙ name_stops m (all_given c.loop-x.found outer) xs c.loop-x.x-index c.x-item.result a c.loop-x-test.true c.x-item.is c.get.ensures e
    (ap (λ fs. m a (all_given fs outer)) (sym c.as_slice.ensures) ∙ stop))
    c.in_err-value.ensures in
    search (rules, h)

pub Evaluator::all_hold-loop-check-preserved : goal.Evaluator::all_hold-loop-check-preserved
Evaluator::all_hold-loop-check-preserved g t c =
    let m = mean_in c.args.self.now.env.now in
    let names = names_bound c.args.scope.now in
    let u = c.args.t.now in
    let k = c.check-item.result in
    c.loop-check.invariant
    ∙ hold_goes m names u c.args.checks.now c.loop-check.check-index k c.loop-check-test.true c.check-item.is (c.in_ok-holds_at.ensures ∙ ap Ok c.if-not-branch.false)

pub Evaluator::all_hold-returns-in_err-holds_at : goal.Evaluator::all_hold-returns-in_err-holds_at
Evaluator::all_hold-returns-in_err-holds_at g t c =
    let m = mean_in c.args.self.now.env.now in
    let names = names_bound c.args.scope.now in
    let u = c.args.t.now in
    let k = c.check-item.result in
    let h = fails {A = Bool} (λ (b : Bool). b) c.in_err-holds_at.field-0.0 (check_holds m names u k) (all_hold m names u c.args.checks.now)
    (λ e stop. c.loop-check.invariant ∙ hold_stops m names u c.args.checks.now c.loop-check.check-index k c.loop-check-test.true c.check-item.is e stop)
    c.in_err-holds_at.ensures in
    search (rules, h)

pub Evaluator::admits-of-requires : goal.Evaluator::admits-of-requires
Evaluator::admits-of-requires g t c = g.met.W.Wanted.allows_none

pub Evaluator::admits-returns-in-Some : goal.Evaluator::admits-returns-in-Some
unfolding admits relvars_there
Evaluator::admits-returns-in-Some g t c =
    let names = names_bound c.args.scope.now in
    let earlier = selection c.args.earlier.now in
    subst (λ l. Answers c.truth.result (admits earlier l names)) (sym c.in-Some.is)
    (subst (λ e. Answers c.truth.result (truth_in (mean no_relvars earlier e) names)) c.get.ensures
    (subst (λ v. Answers c.truth.result (truth_in (mean_in v c.get.result.now) names)) c.of.ensures c.truth.ensures))

-- ---- over tuples

pub Evaluator::extension-returns : goal.Evaluator::extension-returns
unfolding over_extend
Evaluator::extension-returns g t c =
    let m = mean_in c.args.self.now.env.now in
    let names = names_bound c.args.scope.now in
    made_over (rows_in (m c.args.r.now) names) (extended (terms m names) c.args.items.now) c.in_ok-ts.ts c.get.result.now c.in_ok-ts.ensures c.get.ensures
    c.in_ok-extend_by_items.field-0 c.relation_value.result c.in_ok-extend_by_items.ensures c.relation_value.ensures

pub Evaluator::extension-returns-in_err-extend_by_items : goal.Evaluator::extension-returns-in_err-extend_by_items
unfolding over_extend
Evaluator::extension-returns-in_err-extend_by_items g t c =
    let m = mean_in c.args.self.now.env.now in
    let names = names_bound c.args.scope.now in
    let f = extended (terms m names) c.args.items.now in
    let h = fails {A = RowsData} (λ (d : Datum). d) c.in_err-extend_by_items.field-0.0 (f c.get.result.now) (over_extend m c.args.r.now c.args.items.now names)
    (λ e stop. stops_over (rows_in (m c.args.r.now) names) f c.in_ok-ts.ts c.get.result.now c.in_ok-ts.ensures c.get.ensures e stop)
    c.in_err-extend_by_items.ensures in
    search (rules, h)

pub Evaluator::summarization-returns : goal.Evaluator::summarization-returns
unfolding over_summarize
Evaluator::summarization-returns g t c =
    let m = mean_in c.args.self.now.env.now in
    let names = names_bound c.args.scope.now in
    made_over (rows_in (m c.args.r.now) names) (summarized_over m c.args.by.now c.args.items.now names) c.in_ok-ts.ts c.get.result.now c.in_ok-ts.ensures c.get.ensures
    c.in_ok-summarize_by_groups.field-0 c.relation_value.result c.in_ok-summarize_by_groups.ensures c.relation_value.ensures

pub Evaluator::summarization-returns-in_err-summarize_by_groups : goal.Evaluator::summarization-returns-in_err-summarize_by_groups
unfolding over_summarize
Evaluator::summarization-returns-in_err-summarize_by_groups g t c =
    let m = mean_in c.args.self.now.env.now in
    let names = names_bound c.args.scope.now in
    let f = summarized_over m c.args.by.now c.args.items.now names in
    let h = fails {A = RowsData} (λ (d : Datum). d) c.in_err-summarize_by_groups.field-0.0 (f c.get.result.now) (over_summarize m c.args.r.now c.args.by.now c.args.items.now names)
    (λ e stop. stops_over (rows_in (m c.args.r.now) names) f c.in_ok-ts.ts c.get.result.now c.in_ok-ts.ensures c.get.ensures e stop)
    c.in_err-summarize_by_groups.ensures in
    search (rules, h)

-- ---- counts

pub Evaluator::count_ready_extension-extension_len-requires : goal.Evaluator::count_ready_extension-extension_len-requires
Evaluator::count_ready_extension-extension_len-requires g t c = λ k d lt i x among p q is_term is_tuple.
    (omega (arith, c.decreases, ready_within c.args.items.now i x p.now among is_term), λ a m. m)

pub Evaluator::count_ready_extension-returns : goal.Evaluator::count_ready_extension-returns
Evaluator::count_ready_extension-returns g t c =
    let m = ready_value (mean_in c.args.self.now.env.now) (names_bound c.args.scope.now) in
    counts_to m c.args.items.now c.args.ts.now c.extension_len.result (c.extension_len.ensures m (λ k d lt i x among p q a is_term is_tuple gave.
    subst (λ e. Answers a (m e (get_or c.args.ts.now.tuples k d))) is_term (subst (λ u. Answers a (m p.now u)) is_tuple gave)))

pub Evaluator::count_prepared_extension-returns : goal.Evaluator::count_prepared_extension-returns
Evaluator::count_prepared_extension-returns g t c =
    let m = mean_in c.args.self.now.env.now in
    let names = names_bound c.args.scope.now in
    let r = c.args.ts.now in
    let items = c.args.items.now in
    let are = subst (AreReady (IsReady m names r.heading) items) (sym c.as_slice.ensures.value) (subst (λ h. AreReady (IsReady m names h) items c.in_ok-ready.ready.items) c.heading.ensures c.in_ok-ready.ensures.means) in
    subst (λ x. Answers c.count_ready_extension.result (and_then x (λ (s : RowsData). Ok (length s.tuples)))) (ready_extends m names r c.rows_fit.ensures.fit items c.as_slice.result.now are) c.count_ready_extension.ensures

pub Evaluator::count_extension-invariant_of-around : goal.Evaluator::count_extension-invariant_of-around
Evaluator::count_extension-invariant_of-around g t c = record { right = right_in_slice c.args.self.now.env.now c.in_ok-parts.field-0 c.in-Some.parts c.as_slice.result.now c.in_ok-parts.ensures c.in-Some.is c.as_slice.ensures.value; allowed = c.args.self.now.allowed }

pub Evaluator::extension_count-returns : goal.Evaluator::extension_count-returns
unfolding mean_by over_extend
Evaluator::extension_count-returns g t c =
    let m = mean_in c.args.self.now.env.now in
    let names = names_bound c.args.scope.now in
    subst (Answers c.count_value.result) (sym (counted_over (rows_in (m c.args.r.now) names) (extended (terms m names) c.args.items.now) c.in_ok-ts.ts c.get.result.now c.in_ok-ts.ensures c.get.ensures c.in_ok-count.count c.in_ok-count.ensures)) c.count_value.ensures

pub Evaluator::extension_count-returns-in_err-count : goal.Evaluator::extension_count-returns-in_err-count
unfolding mean_by over_extend
Evaluator::extension_count-returns-in_err-count g t c =
    let m = mean_in c.args.self.now.env.now in
    let names = names_bound c.args.scope.now in
    let f = extended (terms m names) c.args.items.now in
    let h = fails {A = ℕ} (λ (d : Datum). d) c.in_err-count.field-0.0 (and_then (f c.get.result.now) (λ (r : RowsData). Ok (length r.tuples))) (mean_by (operate_on unary.Count) (over_extend m c.args.r.now c.args.items.now) names)
    (λ e stop. count_stops (rows_in (m c.args.r.now) names) f c.in_ok-ts.ts c.get.result.now c.in_ok-ts.ensures c.get.ensures e stop)
    c.in_err-count.ensures in
    search (rules, h)

pub Evaluator::count_by_form-extension_count-requires : goal.Evaluator::count_by_form-extension_count-requires
Evaluator::count_by_form-extension_count-requires g t c = λ κs within. (omega (arith, c.decreases, extend_falls c.args.a.now c.in-Extend.r _ c.in-Extend.items _ c.in-Extend.is c.get-in-Extend.ensures c.as_slice.ensures), within)

pub Evaluator::count_by_form-returns-in-Extend : goal.Evaluator::count_by_form-returns-in-Extend
Evaluator::count_by_form-returns-in-Extend g t c =
    let m = mean_in c.args.self.now.env.now in
    let is = ap m c.in-Extend.is ∙ of_extend (relvars_there c.args.self.now.env.now) (selection c.args.self.now.env.now.selectors.now) c.in-Extend.r c.in-Extend.items ∙ (λ i. over_extend m (sym c.get-in-Extend.ensures i) (sym c.as_slice.ensures i)) in
    subst (λ f. Answers c.extension_count.result (mean_by (operate_on unary.Count) f (names_bound c.args.scope.now))) (sym is) c.extension_count.ensures

-- ---- forms

pub Evaluator::by_form-returns-in-Relvar : goal.Evaluator::by_form-returns-in-Relvar
Evaluator::by_form-returns-in-Relvar g t c =
    let names = names_bound c.args.scope.now in
    let is = ap (mean_in c.args.self.now.env.now) c.in-Relvar.is ∙ of_relvar (relvars_there c.args.self.now.env.now) (selection c.args.self.now.env.now.selectors.now) c.in-Relvar.place in
    subst (λ f. Answers c.relvar.result (f names)) (sym is) (c.relvar.ensures names)

pub Evaluator::operand-returns-in-Relvar : goal.Evaluator::operand-returns-in-Relvar
Evaluator::operand-returns-in-Relvar g t c = c.relvar_operand.ensures (names_bound c.args.scope.now)

pub Evaluator::by_form-returns-in-Unary : goal.Evaluator::by_form-returns-in-Unary
Evaluator::by_form-returns-in-Unary g t c =
    let m = mean_in c.args.self.now.env.now in
    let is = ap m c.in-Unary.is ∙ of_unary (relvars_there c.args.self.now.env.now) (selection c.args.self.now.env.now.selectors.now) c.in-Unary.operator c.in-Unary.a ∙ ap (λ a. mean_by (operate_on c.in-Unary.operator) (m a)) (sym c.get-in-Unary.ensures) in
    subst (λ f. Answers c.unary.result (f (names_bound c.args.scope.now))) (sym is) c.unary.ensures

pub Evaluator::by_form-returns-in-Binary : goal.Evaluator::by_form-returns-in-Binary
Evaluator::by_form-returns-in-Binary g t c =
    let m = mean_in c.args.self.now.env.now in
    let is = ap m c.in-Binary.is ∙ of_binary (relvars_there c.args.self.now.env.now) (selection c.args.self.now.env.now.selectors.now) c.in-Binary.operator c.in-Binary.a c.in-Binary.b ∙ (λ i. mean_binary c.in-Binary.operator (m (sym c.get-in-Binary.ensures i)) (m (sym c.get-in-Binary-2.ensures i))) in
    subst (λ f. Answers c.binary.result (f (names_bound c.args.scope.now))) (sym is) c.binary.ensures

pub Evaluator::by_form-returns-in-Component : goal.Evaluator::by_form-returns-in-Component
Evaluator::by_form-returns-in-Component g t c =
    let m = mean_in c.args.self.now.env.now in
    let is = ap m c.in-Component.is ∙ of_component (relvars_there c.args.self.now.env.now) (selection c.args.self.now.env.now.selectors.now) c.in-Component.at c.in-Component.a ∙ ap (λ a. mean_by (component_at c.in-Component.at) (m a)) (sym c.get.ensures) in
    subst (λ f. Answers c.component.result (f (names_bound c.args.scope.now))) (sym is) c.component.ensures

pub Evaluator::by_form-returns-in-From : goal.Evaluator::by_form-returns-in-From
Evaluator::by_form-returns-in-From g t c =
    let m = mean_in c.args.self.now.env.now in
    let is = ap m c.in-From.is ∙ of_from (relvars_there c.args.self.now.env.now) (selection c.args.self.now.env.now.selectors.now) c.in-From.name c.in-From.a ∙ ap (λ a. mean_by (attribute_at c.in-From.name) (m a)) (sym c.get-in-From.ensures) in
    subst (λ f. Answers c.attribute.result (f (names_bound c.args.scope.now))) (sym is) c.attribute.ensures

pub Evaluator::by_form-returns-in-Project : goal.Evaluator::by_form-returns-in-Project
Evaluator::by_form-returns-in-Project g t c =
    let m = mean_in c.args.self.now.env.now in
    let is = ap m c.in-Project.is ∙ of_project (relvars_there c.args.self.now.env.now) (selection c.args.self.now.env.now.selectors.now) c.in-Project.a c.in-Project.names ∙ (λ i. mean_by (part_at (sym c.as_slice-in-Project.ensures i)) (m (sym c.get-in-Project.ensures i))) in
    subst (λ f. Answers c.projection.result (f (names_bound c.args.scope.now))) (sym is) c.projection.ensures

pub Evaluator::by_form-returns-in-Where : goal.Evaluator::by_form-returns-in-Where
Evaluator::by_form-returns-in-Where g t c =
    let m = mean_in c.args.self.now.env.now in
    let is = ap m c.in-Where.is ∙ of_where (relvars_there c.args.self.now.env.now) (selection c.args.self.now.env.now.selectors.now) c.in-Where.r c.in-Where.c ∙ (λ i. mean_where (m (sym c.get-in-Where.ensures i)) (m (sym c.get-in-Where-2.ensures i))) in
    subst (λ f. Answers c.restriction.result (f (names_bound c.args.scope.now))) (sym is) c.restriction.ensures

pub Evaluator::by_form-returns-in-Rename : goal.Evaluator::by_form-returns-in-Rename
Evaluator::by_form-returns-in-Rename g t c =
    let m = mean_in c.args.self.now.env.now in
    let is = ap m c.in-Rename.is ∙ of_rename (relvars_there c.args.self.now.env.now) (selection c.args.self.now.env.now.selectors.now) c.in-Rename.a c.in-Rename.items ∙ (λ i. mean_by (with_new_names (sym c.as_slice-in-Rename.ensures i)) (m (sym c.get-in-Rename.ensures i))) in
    subst (λ f. Answers c.renaming.result (f (names_bound c.args.scope.now))) (sym is) c.renaming.ensures

pub Evaluator::by_form-returns-in-Nest : goal.Evaluator::by_form-returns-in-Nest
Evaluator::by_form-returns-in-Nest g t c =
    let m = mean_in c.args.self.now.env.now in
    let is = ap m c.in-Nest.is ∙ of_nest (relvars_there c.args.self.now.env.now) (selection c.args.self.now.env.now.selectors.now) c.in-Nest.operator c.in-Nest.a c.in-Nest.names c.in-Nest.name ∙ (λ i. mean_by (nested c.in-Nest.operator (sym c.as_slice-in-Nest.ensures i) c.in-Nest.name) (m (sym c.get-in-Nest.ensures i))) in
    subst (λ f. Answers c.nesting.result (f (names_bound c.args.scope.now))) (sym is) c.nesting.ensures

pub Evaluator::by_form-returns-in-Unnest : goal.Evaluator::by_form-returns-in-Unnest
Evaluator::by_form-returns-in-Unnest g t c =
    let m = mean_in c.args.self.now.env.now in
    let is = ap m c.in-Unnest.is ∙ of_unnest (relvars_there c.args.self.now.env.now) (selection c.args.self.now.env.now.selectors.now) c.in-Unnest.operator c.in-Unnest.a c.in-Unnest.name ∙ ap (λ a. mean_by (unnested c.in-Unnest.operator c.in-Unnest.name) (m a)) (sym c.get-in-Unnest.ensures) in
    subst (λ f. Answers c.unnesting.result (f (names_bound c.args.scope.now))) (sym is) c.unnesting.ensures

pub Evaluator::by_form-returns-in-Aggregate : goal.Evaluator::by_form-returns-in-Aggregate
Evaluator::by_form-returns-in-Aggregate g t c =
    let m = mean_in c.args.self.now.env.now in
    let is = ap m c.in-Aggregate.is ∙ of_aggregate (relvars_there c.args.self.now.env.now) (selection c.args.self.now.env.now.selectors.now) c.in-Aggregate.r c.in-Aggregate.summary ∙ ap (λ r. over_aggregate m r c.in-Aggregate.summary) (sym c.get-in-Aggregate.ensures) in
    subst (λ f. Answers c.aggregation.result (f (names_bound c.args.scope.now))) (sym is) c.aggregation.ensures

pub Evaluator::by_form-returns-in-If : goal.Evaluator::by_form-returns-in-If
Evaluator::by_form-returns-in-If g t c =
    let m = mean_in c.args.self.now.env.now in
    let is = ap m c.in-If.is ∙ of_if (relvars_there c.args.self.now.env.now) (selection c.args.self.now.env.now.selectors.now) c.in-If.c c.in-If.a c.in-If.b ∙ (λ i. mean_if (m (sym c.get-in-If.ensures i)) (m (sym c.get-in-If-2.ensures i)) (m (sym c.get-in-If-3.ensures i))) in
    subst (λ f. Answers c.choice.result (f (names_bound c.args.scope.now))) (sym is) c.choice.ensures

pub Evaluator::by_form-returns-in-Extend : goal.Evaluator::by_form-returns-in-Extend
Evaluator::by_form-returns-in-Extend g t c =
    let m = mean_in c.args.self.now.env.now in
    let is = ap m c.in-Extend.is ∙ of_extend (relvars_there c.args.self.now.env.now) (selection c.args.self.now.env.now.selectors.now) c.in-Extend.r c.in-Extend.items ∙ (λ i. over_extend m (sym c.get-in-Extend.ensures i) (sym c.as_slice-in-Extend.ensures i)) in
    subst (λ f. Answers c.extension.result (f (names_bound c.args.scope.now))) (sym is) c.extension.ensures

pub Evaluator::by_form-returns-in-Summarize : goal.Evaluator::by_form-returns-in-Summarize
Evaluator::by_form-returns-in-Summarize g t c =
    let m = mean_in c.args.self.now.env.now in
    let is = ap m c.in-Summarize.is ∙ of_summarize (relvars_there c.args.self.now.env.now) (selection c.args.self.now.env.now.selectors.now) c.in-Summarize.r c.in-Summarize.by c.in-Summarize.items ∙ (λ i. over_summarize m (sym c.get-in-Summarize.ensures i) c.in-Summarize.by (sym c.as_slice-in-Summarize.ensures i)) in
    subst (λ f. Answers c.summarization.result (f (names_bound c.args.scope.now))) (sym is) c.summarization.ensures

pub Evaluator::by_form-returns-in-With : goal.Evaluator::by_form-returns-in-With
Evaluator::by_form-returns-in-With g t c =
    let m = mean_in c.args.self.now.env.now in
    let is = ap m c.in-With.is ∙ of_with (relvars_there c.args.self.now.env.now) (selection c.args.self.now.env.now.selectors.now) c.in-With.xs c.in-With.body ∙ (λ i. mean_with (all_meant m (sym c.as_slice-in-With.ensures i)) (m (sym c.get-in-With.ensures i))) in
    subst (λ f. Answers c.with.result (f (names_bound c.args.scope.now))) (sym is) c.with.ensures

-- ---- what is known

pub Evaluator::restrict_by_condition-invariant_of-around : goal.Evaluator::restrict_by_condition-invariant_of-around
Evaluator::restrict_by_condition-invariant_of-around g t c = record { right = right_in_slice c.args.self.now.env.now c.in_ok-parts.field-0 c.in-Some.parts c.as_slice.result.now c.in_ok-parts.ensures c.in-Some.is c.as_slice.ensures.value; allowed = c.args.self.now.allowed }

pub Evaluator::aggregate_by_summary-invariant_of-around : goal.Evaluator::aggregate_by_summary-invariant_of-around
Evaluator::aggregate_by_summary-invariant_of-around g t c = record { right = right_in_slice c.args.self.now.env.now c.in_ok-parts.field-0 c.in-Some.parts c.as_slice.result.now c.in_ok-parts.ensures c.in-Some.is c.as_slice.ensures.value; allowed = c.args.self.now.allowed }

pub Evaluator::extend_by_items-invariant_of-around : goal.Evaluator::extend_by_items-invariant_of-around
Evaluator::extend_by_items-invariant_of-around g t c = record { right = right_in_slice c.args.self.now.env.now c.in_ok-parts.field-0 c.in-Some.parts c.as_slice.result.now c.in_ok-parts.ensures c.in-Some.is c.as_slice.ensures.value; allowed = c.args.self.now.allowed }

pub Evaluator::summarize_by_groups-invariant_of-around : goal.Evaluator::summarize_by_groups-invariant_of-around
Evaluator::summarize_by_groups-invariant_of-around g t c = record { right = right_in_slice c.args.self.now.env.now c.in_ok-parts.field-0 c.in-Some.parts c.as_slice.result.now c.in_ok-parts.ensures c.in-Some.is c.as_slice.ensures.value; allowed = c.args.self.now.allowed }

pub Evaluator::closed_value-returns-in-Ok : goal.Evaluator::closed_value-returns-in-Ok
Evaluator::closed_value-returns-in-Ok g t c = value_means c.args.self.now.env.now c.args.tree.now (held_value c.hold.result) (c.in-Ok.ensures ∙ ap Ok (sym c.hold.ensures))

pub Evaluator::closed_value-returns-in_default : goal.Evaluator::closed_value-returns-in_default
Evaluator::closed_value-returns-in_default g t c = error_means c.args.self.now.env.now c.args.tree.now c.in-Err-Raised.stop
    (told_error c.in-Err-Raised.field-0 c.in-Err-Raised.stop _ (search (rules, c.in-Err-Raised.field-0-is)) c.in-Err-Raised.ensures) c.in_default.not-Untyped

pub Evaluator::evaluate-returns-in-Some : goal.Evaluator::evaluate-returns-in-Some
Evaluator::evaluate-returns-in-Some g t c = subst (λ m. Answers c.value_known.result m) (sym (c.in-Some.ensures (names_bound c.args.scope.now))) c.value_known.ensures

pub Evaluator::operand-returns-in-Some : goal.Evaluator::operand-returns-in-Some
Evaluator::operand-returns-in-Some g t c = subst (λ m. AnswersBy operand_value c.operand_known.result m) (sym (c.in-Some.ensures (names_bound c.args.scope.now))) c.operand_known.ensures

pub Evaluator::keep-invariant_of-around : goal.Evaluator::keep-invariant_of-around
Evaluator::keep-invariant_of-around g t c = record { right = subst (AreRight c.args.self.now.env.now) (sym c.as_slice.ensures.value) c.requires; allowed = c.args.self.now.allowed }

pub Evaluator::keep-returns-in-Ok : goal.Evaluator::keep-returns-in-Ok
Evaluator::keep-returns-in-Ok g t c = c.put_if.ensures c.args.self.now.env.now c.requires c.in-Ok.ensures

pub Evaluator::keep_all-keep-requires : goal.Evaluator::keep_all-keep-requires
Evaluator::keep_all-keep-requires g t c = λ κs within. (omega (arith, c.decreases, in_deepest c.args.trees.now c.loop-tree.tree-index c.tree-item.result c.loop-tree-test.true c.tree-item.is), (within, c.loop-tree.invariant))

pub Evaluator::prepare-add_parts-requires : goal.Evaluator::prepare-add_parts-requires
Evaluator::prepare-add_parts-requires g t c = λ κs within. (omega (arith, c.decreases), (within, subst (AreRight c.args.self.now.env.now) (sym c.in_ok-parts.ensures) c.args.self.now.right))

-- ---- parts that are not made

pub Evaluator::around_part-returns-in_err-inner : goal.Evaluator::around_part-returns-in_err-inner
unfolding mean_both mean_by
Evaluator::around_part-returns-in_err-inner g t c =
    let m = mean_in c.args.self.now.env.now in
    let names = names_bound c.args.scope.now in
    let part = c.has_parts.ensures.has c.if-not-has_parts.false c.args.names.now in
    let rest : Datum → Result Datum Stop = λ d. and_then (m c.args.b.now names) (operate binary.AtLeast d) in
    let known = ap (λ w. and_then (and_then w (part_at c.args.names.now)) rest) c.in_ok-around.ensures ∙ ap (λ w. and_then w rest) part.1 in
    subst (Answers c.from_residual-in_err-inner.result) (sym known) (search rules)

pub Evaluator::at_least-returns-in-Some : goal.Evaluator::at_least-returns-in-Some
unfolding mean_both
Evaluator::at_least-returns-in-Some g t c =
    let m = mean_in c.args.self.now.env.now in
    let names = names_bound c.args.scope.now in
    subst (λ w. Answers c.around_part.result (and_then w (λ d. and_then (m c.args.b.now names) (operate binary.AtLeast d)))) (sym (c.in-Some.ensures.means names)) c.around_part.ensures

pub Evaluator::at_most-returns-in-Some : goal.Evaluator::at_most-returns-in-Some
unfolding mean_both
Evaluator::at_most-returns-in-Some g t c =
    let m = mean_in c.args.self.now.env.now in
    let names = names_bound c.args.scope.now in
    subst (λ w. Answers c.within_part.result (and_then (m c.args.a.now names) (λ d. and_then w (operate binary.AtMost d)))) (sym (c.in-Some.ensures.means names)) c.within_part.ensures
