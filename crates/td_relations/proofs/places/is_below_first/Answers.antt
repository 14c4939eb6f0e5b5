use Rattle.std.proofs.Common.{rules, arith}
use Rattle.td_relations.proofs.Between.{below_from}
use Rattle.td_relations.proofs.places.is_below_first.Goals as goal

pub returns : goal.returns
returns c = below_from c.args.tuples.now c.args.at c.args.tuple.now c.index-tuples-at.result c.requires.ascend c.is_gt.result (omega (arith, c.requires.at, c.if-at-tuples.false)) (search rules) (search rules)
