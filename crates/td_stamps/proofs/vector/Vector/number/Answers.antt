use Rattle.std.proofs.Common.{unwrap_or, ap, ◌∙◌}
use Rattle.td_stamps.proofs.Listings.{get_seen}
use Rattle.td_stamps.proofs.vector.Vector.number.Goals as goal

pub returns : goal.returns
returns c = c.unwrap_or.ensures ∙ ap (λ o. unwrap_or o 0) (c.copied.ensures ∙ c.get.ensures.value ∙ get_seen c.self.inside.numbers.entries c.self.invariant.0 c.self.view_is c.args.site)
