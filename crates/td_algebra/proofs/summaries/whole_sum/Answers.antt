use Rattle.std.proofs.Common.{◌<◌, ◌^◌, ◌+◌, ◌+ℤ◌, drop, ap, ◌∙◌, sym, arith, rules}
use Rattle.std.proofs.lemmas.Int.{ints}
use Rattle.std.proofs.lemmas.List.{drop_more}
use Rattle.td_algebra.specs.Summaries.{whole_sum, number_in}
use Rattle.td_algebra.proofs.Sums.{sum_more}
use Rattle.td_algebra.proofs.summaries.whole_sum.Goals as goal

pub loop-value-preserved : goal.loop-value-preserved
loop-value-preserved c =
    let (all, low, high) = c.loop-value.invariant in
    let v = c.value-item.result in
    let i = c.loop-value.value-index in
    let vs = c.args.values.now in
    let rest = ap whole_sum (drop_more vs i v c.loop-value-test.true) ∙ ap (λ d. number_in d +ℤ whole_sum (drop (i + 1) vs)) (sym c.value-item.is) in
    let n = c.number_in.type_inv in
    let small : i < 2 ^ 64 = search rules in (
      sum_more _ _ c.number_in.result (number_in v) (whole_sum (drop (i + 1) vs)) (whole_sum (drop i vs)) (whole_sum vs) (omega (arith, ints, low, high, n, small)) c.number_in.ensures rest all,
      omega (arith, ints, low, high, n, small),
      omega (arith, ints, low, high, n, small),
    )
