use Rattle.td_meaning.proofs.Pinning.{equals_some}
use Rattle.td_meaning.proofs.keyed.equality.Goals as goal

pub returns-in-Comparison : goal.returns-in-Comparison
returns-in-Comparison c =
    let x = c.in-Comparison in
    equals_some c.args.check.now c.args.width x.operator x.a x.b x.is c.equal_sides.result c.equal_sides.ensures
