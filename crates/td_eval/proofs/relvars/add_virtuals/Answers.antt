use Rattle.std.proofs.Common.{◌≡◌, ◌+◌, suc, ◌++◌, [], ◌∷◌, drop, sym, ap, ◌∙◌, arith}
use Rattle.td_meaning.specs.Selections.{selection}
use Rattle.td_meaning.specs.Seen.{one_known_more, virtual_known, virtuals_known}
use Rattle.td_eval.proofs.Known.{next_virtual}
use Rattle.td_eval.proofs.relvars.add_virtuals.Goals as goal

pub loop-under-preserved : goal.loop-under-preserved
loop-under-preserved c =
    let s = selection c.args.selectors.now in
    let vs = c.args.virtuals.now in
    let i = c.loop-under.under-index in
    let at : suc i ≡ i + 1 = omega arith in
    let next = c.in_ok-next.ensures ∙ ap (λ ks. virtual_known s ks c.under-item.result) c.deref.ensures.value in
    let new = c.in_ok-push.ensures.items ∙ ap (λ k. c.loop-under.known.items ++ k ∷ []) next in
    c.loop-under.invariant
    ∙ next_virtual s vs i c.under-item.result c.loop-under.known.items c.loop-under-test.true c.under-item.is
    ∙ ap (λ k. virtuals_known s (drop k vs) (one_known_more s c.loop-under.known.items c.under-item.result)) at
    ∙ ap (λ ks. virtuals_known s (drop (i + 1) vs) ks) (sym new)
