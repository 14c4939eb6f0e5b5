use Rattle.td_tokens.proofs.OneReading as readings
use Rattle.td_tokens.proofs.laws.one_reading.Goals as goal

pub returns : goal.returns
returns c = readings.one_reading
