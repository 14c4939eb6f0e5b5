use Rattle.td_tokens.proofs.Readings as readings
use Rattle.td_tokens.proofs.laws.tokens_are_slices.Goals as goal

pub returns : goal.returns
returns c = readings.tokens_are_slices
