use Rattle.std.proofs.Common.{rules, arith}
use Rattle.std.proofs.lemmas.Grind.{common_steps}
use Rattle.td_grammar.specs.ForProofs.Reader.{climb, binary_turn}
use Rattle.td_grammar.proofs.Turns.{one_more, no_more}
use Rattle.td_grammar.proofs.chains.operators.Goals as goal

pub returns-then-binds-binding : goal.returns-then-binds-binding
unfolding climb binary_turn
returns-then-binds-binding g c at follows =
    let e = one_more (λ n. climb c.args.binding (binary_turn at) n c.loop-turn.left c.loop-turn.tokens) _ c.loop-turn._turn c.loop-turn-test.true (c.loop-turn.invariant at follows) in
    first_of (search rules, grind (arith, common_steps))

pub returns-in_err-operator : goal.returns-in_err-operator
unfolding climb binary_turn
returns-in_err-operator g c at follows =
    let e = one_more (λ n. climb c.args.binding (binary_turn at) n c.loop-turn.left c.loop-turn.tokens) _ c.loop-turn._turn c.loop-turn-test.true (c.loop-turn.invariant at follows) in
    first_of (search rules, grind (arith, common_steps))

pub returns-in_err-right : goal.returns-in_err-right
unfolding climb binary_turn
returns-in_err-right g c at follows =
    let e = one_more (λ n. climb c.args.binding (binary_turn at) n c.loop-turn.left c.loop-turn.tokens) _ c.loop-turn._turn c.loop-turn-test.true (c.loop-turn.invariant at follows) in
    let read = follows _ _ _ c.operand-in-loop-turn.ensures in
    first_of (search rules, grind (arith, common_steps))

pub loop-turn-preserved : goal.loop-turn-preserved
unfolding climb binary_turn
loop-turn-preserved g c at follows =
    let e = one_more (λ n. climb c.args.binding (binary_turn at) n c.loop-turn.left c.loop-turn.tokens) _ c.loop-turn._turn c.loop-turn-test.true (c.loop-turn.invariant at follows) in
    let read = follows _ _ _ c.operand-in-loop-turn.ensures in
    first_of (search rules, grind (arith, common_steps))

pub returns : goal.returns
unfolding climb binary_turn
returns g c at follows =
    let e = no_more (λ n. climb c.args.binding (binary_turn at) n c.loop-turn.left c.loop-turn.tokens) _ c.loop-turn._turn c.loop-turn-test.false (c.loop-turn.invariant at follows) in
    first_of (search rules, grind (arith, common_steps))
