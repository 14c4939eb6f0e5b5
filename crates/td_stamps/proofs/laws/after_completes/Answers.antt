use Rattle.td_stamps.proofs.Gaps.{after_completes, counted_stays, vector_is_one}
use Rattle.td_stamps.proofs.laws.after_completes.Goals as goal

pub returns : goal.returns
returns c = record { completes = after_completes; stays = counted_stays; one = vector_is_one }
