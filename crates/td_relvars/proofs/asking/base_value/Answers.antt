use Rattle.std.proofs.Common.{Some, ap, sym, ◌∙◌, slice_get}
use Rattle.std.specs.Option.{option_copied}
use Rattle.std.specs.Prelude.{option_map}
use Rattle.td_bases.specs.Bases.{BaseData}
use Rattle.td_semantics.specs.Databases.{stored_relvars}
use Rattle.td_relvars.proofs.Asked.{base_stays}
use Rattle.td_relvars.proofs.Stores.{looked_up, not_stored}
use Rattle.td_relvars.proofs.asking.base_value.Goals as goal

pub unreachable-requires : goal.unreachable-requires
unreachable-requires c =
    let d = c.args.database.now in
    not_stored (slice_get d.stored c.args.place) c.requires.relation c.requires.has (sym c.base_at.ensures.rows ∙ ap (λ o. option_map (λ (b : BaseData). b.rows) (option_copied o)) c.in-None.is)

pub returns : goal.returns
returns c =
    let d = c.args.database.now in
    let n = c.args.place in
    base_stays d.catalogue (stored_relvars d.stored) n c.requires.is_real
    ∙ looked_up (slice_get d.stored n) c.in_ok-copy_relation-in-Some.field-0 (sym c.in-Some.ensures.rows ∙ ap Some (sym c.in_ok-copy_relation-in-Some.ensures))
