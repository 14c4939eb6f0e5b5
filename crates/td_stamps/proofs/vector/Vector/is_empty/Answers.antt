use Rattle.std.proofs.Common.{◌≡◌, ◌↔◌, IsTrue, subst}
use Rattle.td_stamps.proofs.Listings.{len_seen}
use Rattle.td_stamps.proofs.vector.Vector.is_empty.Goals as goal

pub returns : goal.returns
returns c = subst (λ n. IsTrue c.is_empty.result ↔ (n ≡ 0)) (len_seen c.self.inside.numbers.entries c.self.invariant.0 c.self.view_is) c.is_empty.ensures
