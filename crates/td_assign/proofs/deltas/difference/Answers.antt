use Rattle.std.proofs.Common.{Some, slice_get, ap, sym, ◌∙◌}
use Rattle.td_semantics.specs.Databases.{stored_relvars}
use Rattle.td_relvars.proofs.Stores.{looked_up}
use Rattle.td_assign.proofs.Differing.{told}
use Rattle.td_assign.proofs.deltas.difference.Goals as goal

pub returns : goal.returns
returns c =
    let d = c.args.database.now in
    let x = c.args.change.now in
    let before = c.relation.result.now in
    told (stored_relvars d.stored) x before (looked_up (slice_get d.stored x.target) before (sym c.in-Some.ensures.rows ∙ ap Some (sym c.relation.ensures))) c.turning_delta.result c.turning_delta.ensures
