use Rattle.td_convergence.proofs.Converging.{hold_the_same}
use Rattle.td_convergence.proofs.laws.converged_hold_the_same.Goals as goal

pub returns : goal.returns
returns c = hold_the_same
