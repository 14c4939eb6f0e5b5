use Rattle.std.proofs.Common.{◌++◌, ap, string_bytes}
use Rattle.td_headings.specs.Catalogues.{CatalogueData}
use Rattle.td_listings.specs.ForProofs.Asked.{meant}
use Rattle.td_listings.specs.Texts.{relvars_from}
use Rattle.td_listings.proofs.Lines.{next_relvar}
use Rattle.td_listings.proofs.Told.{of_catalogue}
use Rattle.td_listings.proofs.listings.show_relvars.Goals as goal

pub loop-place-init : goal.loop-place-init
loop-place-init g c = λ d leaves. ap (λ (k : CatalogueData). string_bytes c.args.out.now ++ relvars_from d 0 k.schema.relvars)
    (of_catalogue c.history_is_unique.ensures c.script_opens_one.ensures.script (g.R.Replica.seen c.args.replica.now) c.args.catalogue.now c.requires d leaves)

pub loop-place-preserved : goal.loop-place-preserved
loop-place-preserved g c = λ d leaves.
    next_relvar c.args.catalogue.now d c.name_at-name.result.now c.loop-place.place _ _ _ c.name_at-name.ensures (meant c.in_ok-answer.answer) (c.in_ok-answer.ensures.value d leaves) c.in_ok-show_answer.ensures (c.loop-place.invariant d leaves)
