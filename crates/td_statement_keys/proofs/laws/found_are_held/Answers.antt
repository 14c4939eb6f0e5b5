use Rattle.td_statement_keys.proofs.Found.{found_are_held}
use Rattle.td_statement_keys.proofs.laws.found_are_held.Goals as goal

pub returns : goal.returns
returns c = found_are_held
