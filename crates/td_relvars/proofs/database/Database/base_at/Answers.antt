use Rattle.std.proofs.Common.{Some, None, slice_get, refl, ap, sym, ◌∙◌, subst}
use Rattle.std.specs.Option.{option_copied, option_flatten}
use Rattle.std.specs.Prelude.{option_map}
use Rattle.td_bases.specs.Bases.{BaseData}
use Rattle.td_headings.specs.Catalogues.{CatalogueData}
use Rattle.td_relvars.specs.Keys.{key_at}
use Rattle.td_semantics.specs.Databases.{DatabaseData, stored_at}
use Rattle.td_relvars.proofs.Bases.{first_there, flat, stored_rows}
use Rattle.td_relvars.proofs.database.Database.base_at.Goals as goal

pub returns-in-Some-clause-rows : goal.returns-in-Some-clause-rows
returns-in-Some-clause-rows c =
    let xs = c.self.inside.stored.items in
    let n = c.args.place in
    let is = c.in-Some.ensures ∙ ap (λ ys. option_flatten (slice_get ys n)) c.deref.ensures.value in
    ap (option_map (λ (b : BaseData). b.rows)) is ∙ sym (stored_rows xs n (slice_get xs n) refl) ∙ ap (λ (d : DatabaseData). stored_at d n) c.self.view_is

pub returns-in-Some-clause-key : goal.returns-in-Some-clause-key
returns-in-Some-clause-key c =
    let s = c.self.inside in
    let n = c.args.place in
    let b = c.in-Some.base.now in
    let is = c.in-Some.ensures ∙ ap (λ ys. option_flatten (slice_get ys n)) c.deref.ensures.value in
    first_there s.catalogue s.stored.items n b c.self.invariant.1 (flat (slice_get s.stored.items n) b (sym is)) ∙ ap (λ (d : DatabaseData). key_at d.catalogue n) c.self.view_is

pub returns-in-None : goal.returns-in-None
returns-in-None c =
    let xs = c.self.inside.stored.items in
    let n = c.args.place in
    let is = c.in-None.ensures ∙ ap (λ ys. option_flatten (slice_get ys n)) c.deref.ensures.value in
    record { rows = ap (option_map (λ (b : BaseData). b.rows)) is ∙ sym (stored_rows xs n (slice_get xs n) refl) ∙ ap (λ (d : DatabaseData). stored_at d n) c.self.view_is; key = tt }
