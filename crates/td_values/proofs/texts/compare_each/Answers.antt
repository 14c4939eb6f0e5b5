use Rattle.std.proofs.Common.{sym, ◌∙◌, arith}
use Rattle.td_values.proofs.Walks.{bytes_ended}
use Rattle.td_values.proofs.texts.compare_each.Goals as goal
use Rattle.td_values.proofs.texts.compare_each.Goals.{then-loop-i-test+else-i-b, else-loop-i-test}

pub returns : goal.returns
returns c =
    c.cmp.ensures
    ∙ bytes_ended c.loop-i.i c.args.a.now c.args.b.now c.loop-i.invariant.in_a c.loop-i.invariant.in_b
    (λ p q. elim c.loop-i-test.branch [ then-loop-i-test+else-i-b w ↦ omega arith | else-loop-i-test w ↦ omega arith ])
    ∙ sym c.loop-i.invariant.rest
