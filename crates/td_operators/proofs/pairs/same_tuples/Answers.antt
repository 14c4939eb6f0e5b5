use Rattle.std.proofs.lemmas.Slice.Eq.{slice_eq-Decides}
use Rattle.td_operators.proofs.Decided.{tuples_decided}
use Rattle.td_operators.proofs.pairs.same_tuples.Goals as goal

pub returns : goal.returns
returns c = slice_eq-Decides tuples_decided c.args.ts.now c.args.us.now c.eq.result c.eq.ensures
