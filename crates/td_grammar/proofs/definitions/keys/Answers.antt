use Rattle.std.proofs.Common.{rules, arith}
use Rattle.std.proofs.lemmas.Grind.{common_steps}
use Rattle.td_grammar.specs.ForProofs.StatementReader.{keys_from}
use Rattle.td_grammar.proofs.Turns.{one_more, no_more}
use Rattle.td_grammar.proofs.definitions.keys.Goals as goal

pub returns-in_err-expect : goal.returns-in_err-expect
unfolding keys_from
returns-in_err-expect c =
    let e = one_more (λ n. keys_from n c.loop-turn.found c.loop-turn.tokens) _ c.loop-turn._turn c.loop-turn-test.true c.loop-turn.invariant in
    first_of (search rules, grind (arith, common_steps))

pub returns-in_err-attributes : goal.returns-in_err-attributes
unfolding keys_from
returns-in_err-attributes c =
    let e = one_more (λ n. keys_from n c.loop-turn.found c.loop-turn.tokens) _ c.loop-turn._turn c.loop-turn-test.true c.loop-turn.invariant in
    first_of (search rules, grind (arith, common_steps))

pub returns-then-not-at : goal.returns-then-not-at
unfolding keys_from
returns-then-not-at c =
    let e = one_more (λ n. keys_from n c.loop-turn.found c.loop-turn.tokens) _ c.loop-turn._turn c.loop-turn-test.true c.loop-turn.invariant in
    first_of (search rules, grind (arith, common_steps))

pub loop-turn-preserved : goal.loop-turn-preserved
unfolding keys_from
loop-turn-preserved c =
    let e = one_more (λ n. keys_from n c.loop-turn.found c.loop-turn.tokens) _ c.loop-turn._turn c.loop-turn-test.true c.loop-turn.invariant in
    first_of (search rules, grind (arith, common_steps))

pub returns : goal.returns
unfolding keys_from
returns c =
    let e = no_more (λ n. keys_from n c.loop-turn.found c.loop-turn.tokens) _ c.loop-turn._turn c.loop-turn-test.false c.loop-turn.invariant in
    first_of (search rules, grind (arith, common_steps))
