use Rattle.std.proofs.Common.{sym, ◌∙◌, arith}
use Rattle.td_values.proofs.Walks.{attrs_ended}
use Rattle.td_values.proofs.order.+compare.Goals as goal
use Rattle.td_values.proofs.order.+compare.Goals.{compare_attributes-then-loop-i-test+else-i-b, compare_attributes-else-loop-i-test}

pub compare_attributes-returns : goal.compare_attributes-returns
compare_attributes-returns t c =
    c.cmp.ensures
    ∙ attrs_ended c.loop-i.i c.args.a.now c.args.b.now c.loop-i.invariant.in_a c.loop-i.invariant.in_b
    (λ p q. elim c.loop-i-test.branch [ compare_attributes-then-loop-i-test+else-i-b w ↦ omega arith | compare_attributes-else-loop-i-test w ↦ omega arith ])
    ∙ sym c.loop-i.invariant.rest
