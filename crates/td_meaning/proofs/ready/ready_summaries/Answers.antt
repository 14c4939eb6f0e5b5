use Rattle.std.proofs.Common.{◌≤◌, ◌+◌, ◌++◌, ◌∷◌, [], take, sym, ap, subst, arith}
use Rattle.td_tuples.specs.declared.items.Item.{Item}
use Rattle.td_tuples.specs.declared.items.Summary.{Summary}
use Rattle.td_tuples.proofs.Filters.{taken}
use Rattle.td_typed_trees.specs.declared.tree.Typed.{Typed}
use Rattle.td_meaning.specs.ForProofs.Levels.{summaries_levels, summary_levels}
use Rattle.td_meaning.specs.ForProofs.ReadyTerms.{AreReady, IsReadySummary, deepest_summary, summary_depth}
use Rattle.td_meaning.specs.Seen.{mean_in, names_bound}
use Rattle.td_meaning.proofs.Falls.{summary_item}
use Rattle.td_meaning.proofs.ReadyTerms.{deeper_summary, ready_more}
use Rattle.td_meaning.proofs.ready.ready_summaries.Goals as goal

pub loop-item-preserved : goal.loop-item-preserved
loop-item-preserved g c =
    let m = mean_in c.args.evaluator.now.env.now in
    let names = names_bound c.args.scope.now in
    let h = c.args.heading.now in
    let items = c.args.items.now in
    let i = c.loop-item.item-index in
    let x = c.item-item.result in
    let within = c.loop-item-test.true in
    let is = c.item-item.is in
    let before = c.loop-item.ready.items in
    let (j, name, ty, term, more) = c.in_ok-add_item.ensures in
    let same : IsReadySummary m names h x.term j.term = subst (IsReadySummary m names h x.term) (sym term) c.in_ok-summary.ensures.means in
    let depth : summary_depth c.in_ok-summary.summary ≤ summaries_levels items = omega (arith, c.in_ok-summary.ensures.levels, ap (λ (y : Item (Summary Typed)). summary_levels y.term) is, summary_item items i x within) in (
      subst (AreReady (IsReadySummary m names h) (take (i + 1) items)) (sym more)
          (subst (λ xs. AreReady (IsReadySummary m names h) xs (before ++ j ∷ [])) (sym (taken items i x within is)) (ready_more (IsReadySummary m names h) (take i items) before x j c.loop-item.invariant.0 name ty same)),
      omega (arith, ap deepest_summary more, deeper_summary before j, ap summary_depth term, depth, c.loop-item.invariant.1),
    )
