use Rattle.std.proofs.Common.{rules, arith}
use Rattle.td_relations.proofs.Between.{below_all}
use Rattle.td_relations.proofs.places.is_below.Goals as goal

pub returns : goal.returns
returns c = below_all c.args.tuples.now c.args.at c.args.tuple.now c.index-tuples-at.result c.requires.ascend c.is_gt.result (omega (arith, c.requires.at, c.if-at-tuples.false)) (search rules) (search rules)
