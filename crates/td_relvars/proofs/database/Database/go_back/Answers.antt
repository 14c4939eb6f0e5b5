use Rattle.std.proofs.Common.{sym, subst}
use Rattle.td_relations.specs.Deltas.{inverse_of}
use Rattle.td_semantics.specs.Databases.{DatabaseData, IsDatabase}
use Rattle.td_relvars.specs.Ways.{CanGoBack}
use Rattle.td_relvars.specs.ForProofs.Kept.{rows_of}
use Rattle.td_relvars.proofs.Bases.{first_stay}
use Rattle.td_relvars.proofs.Kept.{changed_is}
use Rattle.td_relvars.proofs.database.Database.go_back.Goals as goal

pub go_back_at-requires-clause-there : goal.go_back_at-requires-clause-there
go_back_at-requires-clause-there c =
    let can = (subst (λ (z : DatabaseData). CanGoBack z c.args.relvar c.args.delta.now c.args.way) (sym c.self.view_is) c.requires).change in
    record { relation = can.before; has = can.has; heading = can.heading }

pub go_back_at-requires-clause-way : goal.go_back_at-requires-clause-way
go_back_at-requires-clause-way c =
    let k = subst (λ (z : DatabaseData). CanGoBack z c.args.relvar c.args.delta.now c.args.way) (sym c.self.view_is) c.requires in
    (k.before, k.made, k.way)

pub invariant_of-self : goal.invariant_of-self
invariant_of-self c =
    let s = c.self.inside in
    let d = (inverse_of c.args.delta.now) in
    let can = (subst (λ (z : DatabaseData). CanGoBack z c.args.relvar c.args.delta.now c.args.way) (sym c.self.view_is) c.requires).change in
    let xs = s.stored.items in (
      subst (λ ys. IsDatabase (record { catalogue = s.catalogue; stored = ys })) (sym c.go_back_at.ensures.back) (changed_is s.catalogue (rows_of xs) c.args.relvar d c.self.invariant.0 can),
      first_stay s.catalogue xs c.go_back_at.new.stored.items c.go_back_at.ensures.keys c.self.invariant.1,
    )
