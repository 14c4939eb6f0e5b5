use Rattle.std.proofs.Common.{refl, subst}
use Rattle.td_replica.specs.Calls.{Asks}
use Rattle.td_semantics.specs.Databases.{DatabaseData}
use Rattle.td_replica.specs.Seen.{Contents, always_open}
use Rattle.td_replay.specs.ForProofs.Asked.{Answers}
use Rattle.td_replay.specs.ForProofs.Told.{outcomes_of}
use Rattle.td_replay.proofs.Asking.{asks}
use Rattle.td_replay.proofs.Telling.{logged_history}
use Rattle.td_replay.proofs.state.State.ask.Goals as goal

pub returns : goal.returns
returns c =
    let i = c.self.inside in
    let k : Contents = record { script = i.script; site = i.site; limit = i.held.limit; entries = i.held.entries } in
    let s = always_open k in
    let text = c.args.text.now in
    let history = logged_history i.script i.held.entries i.told.log.items i.told.engine c.self.invariant.2 in
    let said = subst (λ (d : DatabaseData). Answers d text c.ask.result) c.database.ensures.same c.ask.ensures in
    subst (λ (z : Contents). Asks (always_open z) text c.ask.result) c.self.view_is (asks s (outcomes_of i.told.log.items) i.told.engine refl history text c.ask.result said)
