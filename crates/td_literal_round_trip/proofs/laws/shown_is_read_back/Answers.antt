use Rattle.td_literal_round_trip.proofs.ReadBack.{read_back}
use Rattle.td_literal_round_trip.proofs.laws.shown_is_read_back.Goals as goal

pub returns : goal.returns
returns c = read_back
