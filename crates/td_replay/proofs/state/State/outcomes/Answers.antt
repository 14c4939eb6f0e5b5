use Rattle.std.proofs.Common.{◌≡◌, true, refl, sym, ap, subst, ◌∙◌}
use Rattle.td_semantics.specs.Databases.{DatabaseData}
use Rattle.td_replay.specs.ForProofs.Told.{Outcomes, outcomes_of}
use Rattle.td_replica.specs.Seen.{Contents}
use Rattle.td_replica.specs.Histories.{IsHistory}
use Rattle.td_replay.proofs.Telling.{logged_history}
use Rattle.td_replay.proofs.state.State.outcomes.Goals as goal

pub returns-in-Ok : goal.returns-in-Ok
returns-in-Ok c =
    let i = c.self.inside in
    let same = c.in-Ok.ensures ∙ ap outcomes_of c.deref.ensures.value in
    let history = logged_history i.script i.held.entries i.told.log.items i.told.engine c.self.invariant.2 in
    subst (λ (z : Contents). (true ≡ true) × ((x : DatabaseData) × IsHistory z.script z.entries c.in-Ok.outcomes.items x)) c.self.view_is
    (refl, (i.told.engine, subst (λ (os : Outcomes). IsHistory i.script i.held.entries os i.told.engine) (sym same) history))
