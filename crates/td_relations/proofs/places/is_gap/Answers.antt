use Rattle.std.proofs.Common.{arith}
use Rattle.td_relations.proofs.Searches.{goes_between}
use Rattle.td_relations.proofs.places.is_gap.Goals as goal

pub returns-then-is_above : goal.returns-then-is_above
returns-then-is_above c = λ above.
    goes_between c.args.tuples.now c.args.tuple.now c.args.at (omega (arith, c.if-at-tuples.true)) (c.is_above.ensures c.if-is_above.true) (c.is_below_first.ensures above)
