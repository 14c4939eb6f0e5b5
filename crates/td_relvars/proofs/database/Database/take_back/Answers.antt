use Rattle.std.proofs.Common.{sym, subst}
use Rattle.td_relations.specs.Deltas.{inverse_of}
use Rattle.td_semantics.specs.Databases.{DatabaseData, IsDatabase}
use Rattle.td_relvars.specs.Changed.{CanChange}
use Rattle.td_relvars.specs.ForProofs.Kept.{rows_of}
use Rattle.td_relvars.proofs.Bases.{first_stay}
use Rattle.td_relvars.proofs.Kept.{changed_is}
use Rattle.td_relvars.proofs.database.Database.take_back.Goals as goal

pub take_back_at-requires-clause-there : goal.take_back_at-requires-clause-there
take_back_at-requires-clause-there c =
    let d = (inverse_of c.args.delta.now) in
    let can = subst (λ (z : DatabaseData). CanChange z c.args.relvar d) (sym c.self.view_is) c.requires.change in
    record { relation = can.before; has = can.has; heading = can.heading }

pub invariant_of-self : goal.invariant_of-self
invariant_of-self c =
    let s = c.self.inside in
    let d = (inverse_of c.args.delta.now) in
    let can = subst (λ (z : DatabaseData). CanChange z c.args.relvar d) (sym c.self.view_is) c.requires.change in
    let xs = s.stored.items in (
      subst (λ ys. IsDatabase (record { catalogue = s.catalogue; stored = ys })) (sym c.take_back_at.ensures.back) (changed_is s.catalogue (rows_of xs) c.args.relvar d c.self.invariant.0 can),
      first_stay s.catalogue xs c.take_back_at.new.stored.items c.take_back_at.ensures.keys c.self.invariant.1,
    )
