use Rattle.td_accesses.proofs.Parting.{lacks_parts}
use Rattle.td_accesses.proofs.by_keys.differ.Goals as goal

pub returns-then-equal_headings : goal.returns-then-equal_headings
returns-then-equal_headings c = λ lack. lacks_parts c.args.relation.now c.args.index.now c.tuples.result.now c.tuples.ensures.all (c.lack_parts.ensures lack)
