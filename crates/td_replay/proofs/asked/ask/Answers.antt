use Rattle.std.proofs.Common.{subst}
use Rattle.td_headings.specs.Catalogues.{CatalogueData}
use Rattle.td_replay.specs.ForProofs.Past.{Types}
use Rattle.td_replay.proofs.Copies.{query_in}
use Rattle.td_replay.proofs.asked.ask.Goals as goal

pub evaluate-requires : goal.evaluate-requires
evaluate-requires c =
    let d = c.args.database.now in
    let x = c.in-Ok.query in
    let t = subst (λ (z : CatalogueData). Types z c.args.text.now x) c.catalogue-catalogue.ensures.same c.in-Ok.ensures in
    query_in d.catalogue c.args.text.now x t

pub returns-in-Ok-evaluate : goal.returns-in-Ok-evaluate
returns-in-Ok-evaluate c =
    let x = c.in-Ok.query in
    let t = subst (λ (z : CatalogueData). Types z c.args.text.now x) c.catalogue-catalogue.ensures.same c.in-Ok.ensures in
    record { query = t.query; expression = x; reads = t.reads; types = t.types; says = c.in-Ok-evaluate.ensures }
