use Rattle.std.proofs.Common.{sym, subst}
use Rattle.td_relations.specs.Deltas.{inverse_of}
use Rattle.td_semantics.specs.Databases.{DatabaseData}
use Rattle.td_relvars.specs.Changed.{CanChange}
use Rattle.td_relvars.specs.ForProofs.Kept.{rows_of}
use Rattle.td_relvars.proofs.Bases.{first_after, rows_kept}
use Rattle.td_relvars.proofs.Kept.{change_is}
use Rattle.td_relvars.proofs.database.Database.change_back.Goals as goal

pub change_back_at-requires : goal.change_back_at-requires
change_back_at-requires c =
    let d = (inverse_of c.args.delta.now) in
    let can = subst (λ (z : DatabaseData). CanChange z c.args.relvar d) (sym c.self.view_is) c.requires in
    record { relation = can.before; has = can.has; heading = can.heading }

pub invariant_of-self : goal.invariant_of-self
invariant_of-self c =
    let s = c.self.inside in
    let d = (inverse_of c.args.delta.now) in
    let can = subst (λ (z : DatabaseData). CanChange z c.args.relvar d) (sym c.self.view_is) c.requires in
    let e = c.change_back_at.ensures in
    let xs = s.stored.items in
    let ys = c.change_back_at.new.stored.items in (
      change_is s.catalogue (rows_of xs) c.args.relvar d c.self.invariant.0 can c.change_back_at.result (rows_of ys) e.ok (rows_kept c.change_back_at.result xs ys e.err),
      first_after s.catalogue xs ys c.change_back_at.result e.keys e.err c.self.invariant.1,
    )
