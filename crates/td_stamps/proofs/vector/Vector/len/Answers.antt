use Rattle.std.proofs.Common.{◌∙◌}
use Rattle.td_stamps.proofs.Listings.{len_seen}
use Rattle.td_stamps.proofs.vector.Vector.len.Goals as goal

pub returns : goal.returns
returns c = c.len.ensures.len ∙ len_seen c.self.inside.numbers.entries c.self.invariant.0 c.self.view_is
