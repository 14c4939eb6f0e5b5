use Rattle.std.proofs.Common.{arith, sym, ◌∙◌}
use Rattle.std.proofs.lemmas.Grind.{common_steps}
use Rattle.td_algebra.proofs.Selections.{select_more, select_over}
use Rattle.td_algebra.proofs.restriction.select_kept.Goals as goal

pub loop-i-preserved : goal.loop-i-preserved
loop-i-preserved c = grind (arith, common_steps, select_more)

pub returns : goal.returns
returns c = sym (select_over c.loop-i.kept.items c.args.tuples.now c.args.keep.now c.loop-i.i (omega (arith, c.loop-i-test.false, c.min-i-end.ensures))) ∙ c.loop-i.invariant
