use Rattle.td_tokens.proofs.Readings as readings
use Rattle.td_tokens.proofs.laws.names_are_names.Goals as goal

pub returns : goal.returns
returns c = readings.names_are_names
