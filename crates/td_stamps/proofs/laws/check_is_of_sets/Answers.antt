use Rattle.td_stamps.proofs.Known.{known_adds_nothing}
use Rattle.td_stamps.proofs.Merges.{clash_is_found, fresh_is_growth}
use Rattle.td_stamps.proofs.laws.check_is_of_sets.Goals as goal

pub returns : goal.returns
returns c = record { clash = clash_is_found; fresh = fresh_is_growth; known = known_adds_nothing }
