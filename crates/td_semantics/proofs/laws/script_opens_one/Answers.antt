use Rattle.td_semantics.proofs.OneOpening.{one_catalogue, one_opening, opens_or_wants}
use Rattle.td_semantics.proofs.laws.script_opens_one.Goals as goal

pub returns : goal.returns
returns c = record { script = one_catalogue; opening = one_opening; again = opens_or_wants }
