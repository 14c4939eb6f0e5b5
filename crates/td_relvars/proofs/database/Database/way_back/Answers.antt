use Rattle.std.proofs.Common.{sym, subst}
use Rattle.td_semantics.specs.Databases.{DatabaseData, IsDatabase}
use Rattle.td_relvars.specs.Changed.{CanChange}
use Rattle.td_relvars.specs.ForProofs.Kept.{AreFirst, keys_of, rows_of}
use Rattle.td_relvars.proofs.Returning.{leads_at}
use Rattle.td_relvars.proofs.database.Database.way_back.Goals as goal

pub way_back_at-requires : goal.way_back_at-requires
way_back_at-requires c =
    let can = subst (λ (z : DatabaseData). CanChange z c.args.relvar c.args.delta.now) (sym c.self.view_is) c.requires in
    record { relation = can.before; has = can.has; heading = can.heading }

pub invariant_of-self : goal.invariant_of-self
invariant_of-self c =
    let s = c.self.inside in
    subst (λ xs. IsDatabase (record { catalogue = s.catalogue; stored = rows_of xs }) × AreFirst s.catalogue (keys_of xs)) (sym c.way_back_at.ensures.same) c.self.invariant

pub returns-clause-way : goal.returns-clause-way
returns-clause-way c = leads_at c.args.self.now c.self.inside.catalogue (rows_of c.self.inside.stored.items) c.args.relvar c.args.delta.now c.self.view_is c.way_back_at.result c.way_back_at.ensures.way
