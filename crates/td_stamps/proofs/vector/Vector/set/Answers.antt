use Rattle.td_stamps.proofs.Listings.{still_sorted, still_from_one, inserted}
use Rattle.td_stamps.proofs.vector.Vector.set.Goals as goal

pub invariant_of-self-2 : goal.invariant_of-self-2
invariant_of-self-2 c =
    let old = c.self.inside.numbers.entries in
    let new = c.insert.new.self.entries in
    let is = c.in_ok-insert.ensures.entries in (
      still_sorted old c.self.invariant.0 c.self.view_is new c.args.site c.args.number is,
      still_from_one old c.self.invariant.0 c.self.view_is new c.args.site c.args.number is c.requires.site c.requires.number c.self.invariant.1,
    )

pub returns-clause-ok : goal.returns-clause-ok
returns-clause-ok c =
    inserted c.self.inside.numbers.entries c.self.invariant.0 c.self.view_is c.insert.new.self.entries c.args.site c.args.number c.in_ok-insert.ensures.entries
