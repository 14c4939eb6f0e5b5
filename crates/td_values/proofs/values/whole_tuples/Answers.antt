use Rattle.std.proofs.Common.{subst, arith, rules}
use Rattle.std.specs.List.{All}
use Rattle.std.proofs.lemmas.List.{take_all}
use Rattle.std.proofs.lemmas.List.Elements.{All-more}
use Rattle.td_values.specs.Whole.{IsWholeTuple}
use Rattle.td_values.proofs.values.whole_tuples.Goals as goal

pub loop-t-preserved : goal.loop-t-preserved
loop-t-preserved c = All-more IsWholeTuple c.args.tuples.now c.loop-t.t-index c.t-item.result (search rules) c.loop-t.invariant (subst IsWholeTuple c.t-item.is c.whole_tuple.ensures)

pub returns : goal.returns
returns c = subst (All IsWholeTuple) (take_all c.loop-t.t-index c.args.tuples.now (omega (arith, c.loop-t.auto.t-index-end))) c.loop-t.invariant
