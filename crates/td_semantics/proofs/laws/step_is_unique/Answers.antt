use Rattle.td_semantics.proofs.Unique.{one_step}
use Rattle.td_semantics.proofs.laws.step_is_unique.Goals as goal

pub returns : goal.returns
returns c = λ d e f dialect text o p first second. one_step d dialect text e f o p first second
