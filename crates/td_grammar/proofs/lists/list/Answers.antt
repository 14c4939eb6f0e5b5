use Rattle.std.proofs.Common.{rules, arith}
use Rattle.std.proofs.lemmas.Grind.{common_steps}
use Rattle.td_grammar.specs.ForProofs.Reader.{list_from}
use Rattle.td_grammar.proofs.Turns.{one_more, no_more}
use Rattle.td_grammar.proofs.lists.list.Goals as goal

pub returns-in_err-item : goal.returns-in_err-item
unfolding list_from
returns-in_err-item g c at follows =
    let e = one_more (λ n. list_from at n c.loop-turn.found c.loop-turn.tokens) _ c.loop-turn._turn c.loop-turn-test.true (c.loop-turn.invariant at follows) in
    let read = follows _ _ _ c.item.ensures in
    first_of (search rules, grind (arith, common_steps))

pub returns-then-not-eat : goal.returns-then-not-eat
unfolding list_from
returns-then-not-eat g c at follows =
    let e = one_more (λ n. list_from at n c.loop-turn.found c.loop-turn.tokens) _ c.loop-turn._turn c.loop-turn-test.true (c.loop-turn.invariant at follows) in
    let read = follows _ _ _ c.item.ensures in
    first_of (search rules, grind (arith, common_steps))

pub loop-turn-preserved : goal.loop-turn-preserved
unfolding list_from
loop-turn-preserved g c at follows =
    let e = one_more (λ n. list_from at n c.loop-turn.found c.loop-turn.tokens) _ c.loop-turn._turn c.loop-turn-test.true (c.loop-turn.invariant at follows) in
    let read = follows _ _ _ c.item.ensures in
    first_of (search rules, grind (arith, common_steps))

pub returns : goal.returns
unfolding list_from
returns g c at follows =
    let e = no_more (λ n. list_from at n c.loop-turn.found c.loop-turn.tokens) _ c.loop-turn._turn c.loop-turn-test.false (c.loop-turn.invariant at follows) in
    first_of (search rules, grind (arith, common_steps))
