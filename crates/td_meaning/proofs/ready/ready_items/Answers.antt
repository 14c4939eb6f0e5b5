use Rattle.std.proofs.Common.{◌≤◌, ◌+◌, ◌++◌, ◌∷◌, [], take, sym, ap, subst, arith}
use Rattle.td_tuples.proofs.Filters.{taken}
use Rattle.td_meaning.specs.ForProofs.Levels.{item_levels}
use Rattle.td_meaning.specs.ForProofs.ReadyTerms.{AreReady, IsReady, deepest_item, ready_levels}
use Rattle.td_meaning.specs.Seen.{mean_in, names_bound}
use Rattle.td_meaning.proofs.Falls.{in_items}
use Rattle.td_meaning.proofs.ReadyTerms.{deeper_item, ready_more}
use Rattle.td_meaning.proofs.ready.ready_items.Goals as goal

pub loop-item-preserved : goal.loop-item-preserved
loop-item-preserved g c =
    let m = mean_in c.args.evaluator.now.env.now in
    let names = names_bound c.args.scope.now in
    let h = c.args.heading.now in
    let items = c.args.items.now in
    let i = c.loop-item.item-index in
    let x = c.item-item.result in
    let within = c.loop-item-test.true in
    let is = c.item-item.is in
    let before = c.loop-item.ready.items in
    let (j, name, ty, term, more) = c.in_ok-add_item.ensures in
    let same : IsReady m names h x.term j.term = subst (IsReady m names h x.term) (sym term) (subst (λ a. IsReady m names h a c.in_ok-term.term) c.get.ensures c.in_ok-term.ensures.means) in
    let depth : ready_levels c.in_ok-term.term ≤ item_levels items = omega (arith, c.in_ok-term.ensures.levels, in_items items i x c.get.result.now within is c.get.ensures) in (
      subst (AreReady (IsReady m names h) (take (i + 1) items)) (sym more)
          (subst (λ xs. AreReady (IsReady m names h) xs (before ++ j ∷ [])) (sym (taken items i x within is)) (ready_more (IsReady m names h) (take i items) before x j c.loop-item.invariant.0 name ty same)),
      omega (arith, ap deepest_item more, deeper_item before j, ap ready_levels term, depth, c.loop-item.invariant.1),
    )
