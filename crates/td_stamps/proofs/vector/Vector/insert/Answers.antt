use Rattle.std.proofs.Common.{is_some, not, sym, ap, ◌∙◌}
use Rattle.td_stamps.proofs.Listings.{get_seen}
use Rattle.td_stamps.proofs.vector.Vector.insert.Goals as goal

pub returns-then-contains_key-clause-new : goal.returns-then-contains_key-clause-new
returns-then-contains_key-clause-new c =
    ap not (sym c.if-contains_key.true ∙ c.contains_key.ensures ∙ ap is_some (get_seen c.self.inside.numbers.entries c.self.invariant.0 c.self.view_is c.args.site))

pub returns-clause-new : goal.returns-clause-new
returns-clause-new c =
    ap not (sym c.if-contains_key.false ∙ c.contains_key.ensures ∙ ap is_some (get_seen c.self.inside.numbers.entries c.self.invariant.0 c.self.view_is c.args.site))
