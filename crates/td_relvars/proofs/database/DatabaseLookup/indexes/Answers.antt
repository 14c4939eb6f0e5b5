use Rattle.std.proofs.Common.{slice_get, sym, ap, ◌∙◌}
use Rattle.std.specs.Option.{option_copied}
use Rattle.std.specs.Prelude.{option_map}
use Rattle.td_bases.specs.Bases.{BaseData}
use Rattle.td_semantics.specs.Databases.{stored_relvars}
use Rattle.td_relvars.proofs.Stores.{lends, looked_up}
use Rattle.td_relvars.proofs.database.DatabaseLookup.indexes.Goals as goal

pub returns-in-Some : goal.returns-in-Some
returns-in-Some c =
    let d = c.args.self.now in
    let n = c.args.relvar in
    let rows = c.in-Some.base.now.rows in
    let is = sym c.base_at.ensures.rows ∙ ap (λ o. option_map (λ (b : BaseData). b.rows) (option_copied o)) c.in-Some.is in
    lends (stored_relvars d.stored n) rows (looked_up (slice_get d.stored n) rows is) c.indexes.result.now c.indexes.ensures
