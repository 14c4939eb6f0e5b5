use Rattle.td_meaning.proofs.Selecting.{found, passed}
use Rattle.td_meaning.proofs.selections.selector_at.Goals as goal

pub returns-then-last-place : goal.returns-then-last-place
returns-then-last-place c = found c.args.selectors.now c.loop-last.rest.now c.in-Some.earlier.now c.args.place c.in-Some.last.now c.loop-last.invariant c.in-Some.ensures.cases.0 c.if-last-place.true

pub loop-last-preserved : goal.loop-last-preserved
loop-last-preserved c = passed c.args.selectors.now c.loop-last.rest.now c.in-Some.earlier.now c.args.place c.in-Some.last.now c.loop-last.invariant c.in-Some.ensures.cases.0 c.if-last-place.false
