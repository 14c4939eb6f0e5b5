use Rattle.std.proofs.Common.{refl}
use Rattle.td_algebra.specs.Nested.{relation_value}
use Rattle.td_operators.proofs.KindLemmas.{rows_tested}
use Rattle.td_operators.proofs.pairs.are_one.Goals as goal

pub returns : goal.returns
returns c =
    rows_tested (relation_value c.args.r.now) c.heading.result.now c.heading-2.result.now c.tuples.result.now c.tuples-2.result.now c.args.r.now c.args.s.now c.same_rows.result
    refl c.heading.ensures c.tuples.ensures.all c.heading-2.ensures c.tuples-2.ensures.all c.same_rows.ensures
