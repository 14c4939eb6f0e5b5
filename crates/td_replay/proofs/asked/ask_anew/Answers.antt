use Rattle.std.proofs.Common.{List, IfOk, sym, subst, ap, ◌∙◌}
use Rattle.td_headings.specs.Catalogues.{CatalogueData}
use Rattle.td_stamps.specs.declared.entry.Entry.{Entry}
use Rattle.td_semantics.specs.Databases.{DatabaseData, stored_relvars}
use Rattle.td_semantics.specs.Trees.{IsIn}
use Rattle.td_relvars.specs.Evaluated.{EvaluatesTo}
use Rattle.td_replay.specs.ForProofs.Told.{IsLogged}
use Rattle.td_replay.proofs.Copies.{one_catalogue, query_in, says_anew}
use Rattle.td_replay.proofs.asked.ask_anew.Goals as goal

pub evaluate-requires : goal.evaluate-requires
evaluate-requires c =
    let q = c.requires.typed in
    let told = c.in_ok-told.told in
    let is = ap (λ (d : DatabaseData). d.catalogue) c.database.ensures.same
    ∙ one_catalogue c.args.script.now c.args.entries.now c.split_at.result.0.now q.0 told.log.items q.1 told.engine q.2 c.in_ok-told.ensures.told in
    subst (λ (z : CatalogueData). IsIn z c.args.query.now) (sym is) (query_in q.1.catalogue q.3 c.args.query.now q.4)

pub returns-clause-says : goal.returns-clause-says
returns-clause-says c =
    let script = c.args.script.now in
    let told = c.in_ok-told.told in
    let l = subst (λ (fs : List Entry). IsLogged script fs told.log.items told.engine) c.split_at.ensures.front c.in_ok-told.ensures.told in
    let here = subst (λ (d : DatabaseData). IfOk c.evaluate.result (EvaluatesTo d.catalogue (stored_relvars d.stored) c.args.query.now)) c.database.ensures.same c.evaluate.ensures in
    says_anew script c.args.entries.now c.args.kept told.log.items told.engine l c.args.query.now c.evaluate.result here
