use Rattle.td_stamps.proofs.Listings.{none_seen}
use Rattle.td_stamps.proofs.vector.Vector.new.Goals as goal

pub returns : goal.returns
returns c = none_seen c.new.result.entries c.new.ensures.empty
