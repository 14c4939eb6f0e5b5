use Rattle.td_algebra.proofs.Openings.{fit_at}
use Rattle.td_algebra.proofs.opening.tuples_at.Goals as goal

pub returns-in-Some-clause-fit : goal.returns-in-Some-clause-fit
returns-in-Some-clause-fit c = fit_at c.args.name.now c.args.tuple.now c.in-Some.value.now c.tuples_in.result.now c.in-Some.ensures c.tuples_in.ensures.fit
