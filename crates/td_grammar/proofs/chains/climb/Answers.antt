use Rattle.std.proofs.Common.{rules, arith}
use Rattle.std.proofs.lemmas.Grind.{common_steps}
use Rattle.td_grammar.specs.ForProofs.Reader.{climb}
use Rattle.td_grammar.proofs.Turns.{one_more, no_more}
use Rattle.td_grammar.proofs.chains.climb.Goals as goal

pub returns-then-binds-binding : goal.returns-then-binds-binding
unfolding climb
returns-then-binds-binding g c go_on goes =
    let e = one_more (λ n. climb c.args.binding go_on n c.loop-turn.left c.loop-turn.tokens) _ c.loop-turn._turn c.loop-turn-test.true (c.loop-turn.invariant go_on goes) in
    first_of (search rules, grind (arith, common_steps))

pub returns-in_err-left : goal.returns-in_err-left
unfolding climb
returns-in_err-left g c go_on goes =
    let e = one_more (λ n. climb c.args.binding go_on n c.loop-turn.left c.loop-turn.tokens) _ c.loop-turn._turn c.loop-turn-test.true (c.loop-turn.invariant go_on goes) in
    let turned = goes _ _ _ _ c.turn.ensures in
    first_of (search rules, grind (arith, common_steps))

pub loop-turn-preserved : goal.loop-turn-preserved
unfolding climb
loop-turn-preserved g c go_on goes =
    let e = one_more (λ n. climb c.args.binding go_on n c.loop-turn.left c.loop-turn.tokens) _ c.loop-turn._turn c.loop-turn-test.true (c.loop-turn.invariant go_on goes) in
    let turned = goes _ _ _ _ c.turn.ensures in
    first_of (search rules, grind (arith, common_steps))

pub returns : goal.returns
unfolding climb
returns g c go_on goes =
    let e = no_more (λ n. climb c.args.binding go_on n c.loop-turn.left c.loop-turn.tokens) _ c.loop-turn._turn c.loop-turn-test.false (c.loop-turn.invariant go_on goes) in
    first_of (search rules, grind (arith, common_steps))
