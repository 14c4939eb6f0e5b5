use Rattle.std.proofs.Common.{rules, arith}
use Rattle.td_relations.proofs.Between.{above_all}
use Rattle.td_relations.proofs.places.is_above.Goals as goal

pub returns : goal.returns
returns c = above_all c.args.tuples.now c.args.at c.args.tuple.now c.index-tuples-at.result c.requires.ascend c.is_lt.result c.requires.at (omega (arith, c.if-at-eq0.false)) (search rules) (search rules)
