use Rattle.std.proofs.Common.{sym, ◌∙◌, arith}
use Rattle.td_values.proofs.Walks.{values_ended}
use Rattle.td_values.proofs.alike.+compare_values.Goals as goal
use Rattle.td_values.proofs.alike.+compare_values.Goals.{compare_in_turn-then-loop-i-test+else-i-b, compare_in_turn-else-loop-i-test}

pub compare_in_turn-returns : goal.compare_in_turn-returns
compare_in_turn-returns t c =
    c.cmp.ensures
    ∙ values_ended c.loop-i.i c.args.a.now c.args.b.now c.loop-i.invariant.in_a c.loop-i.invariant.in_b
    (λ p q. elim c.loop-i-test.branch [ compare_in_turn-then-loop-i-test+else-i-b w ↦ omega arith | compare_in_turn-else-loop-i-test w ↦ omega arith ])
    ∙ sym c.loop-i.invariant.rest
