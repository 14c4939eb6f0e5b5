use Rattle.td_convergence.proofs.Converging.{converges}
use Rattle.td_convergence.proofs.laws.meetings_converge.Goals as goal

pub returns : goal.returns
returns c = converges
