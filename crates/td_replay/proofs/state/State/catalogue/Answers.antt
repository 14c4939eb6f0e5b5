use Rattle.std.proofs.Common.{ap, subst, sym, ◌∙◌}
use Rattle.td_semantics.specs.Databases.{DatabaseData}
use Rattle.td_semantics.specs.Scripts.{IsScriptOf}
use Rattle.td_replica.specs.Seen.{Contents}
use Rattle.td_replay.specs.ForProofs.Told.{outcomes_of}
use Rattle.td_replay.proofs.Telling.{history_catalogue, logged_history}
use Rattle.td_replay.proofs.state.State.catalogue.Goals as goal

pub returns : goal.returns
returns c =
    let i = c.self.inside in
    let d = i.told.engine in
    let history = logged_history i.script i.held.entries i.told.log.items d c.self.invariant.2 in
    let defines = history_catalogue i.script i.held.entries (outcomes_of i.told.log.items) d history in
    let same = c.catalogue.ensures.same ∙ ap (λ (z : DatabaseData). z.catalogue) c.database.ensures.same in
    subst (λ (z : Contents). IsScriptOf z.script c.catalogue.result.now) c.self.view_is (subst (IsScriptOf i.script) (sym same) defines)
