use Rattle.std.proofs.Common.{rules, ◌≤◌, length, sym, ◌∙◌, true≢false, arith}
use Rattle.td_algebra.specs.ForProofs.Index.{RepeatsAt}
use Rattle.td_algebra.proofs.Apart.{none_more}
use Rattle.td_algebra.proofs.uniqueness.has_repeats.Goals as goal

pub loop-at-preserved : goal.loop-at-preserved
loop-at-preserved c =
    let x = c.args.index.now in
    none_more (RepeatsAt x.places.items x.tuples.items) c.loop-at.at c.loop-at.invariant (λ again. true≢false (sym (c.repeats.ensures.1 again) ∙ c.if-repeats.false))

pub returns : goal.returns
returns c =
    let all : length c.args.index.now.tuples.items ≤ c.loop-at.at = search rules in (
      λ no. absurd (true≢false (sym no)),
      λ again. let within = again.1 in absurd (c.loop-at.invariant again.0 (omega (arith, within, all)) again.2),
    )
