use Rattle.std.proofs.Common.{refl, subst}
use Rattle.td_replica.specs.Calls.{TellsValue}
use Rattle.td_semantics.specs.Databases.{DatabaseData}
use Rattle.td_replica.specs.Seen.{Contents, always_open}
use Rattle.td_replay.specs.ForProofs.Asked.{TellsNamed}
use Rattle.td_replay.specs.ForProofs.Told.{outcomes_of}
use Rattle.td_replay.proofs.Asking.{tells}
use Rattle.td_replay.proofs.Telling.{logged_history}
use Rattle.td_replay.proofs.state.State.value_of.Goals as goal

pub returns : goal.returns
returns c =
    let i = c.self.inside in
    let k : Contents = record { script = i.script; site = i.site; limit = i.held.limit; entries = i.held.entries } in
    let s = always_open k in
    let name = c.args.name.now in
    let history = logged_history i.script i.held.entries i.told.log.items i.told.engine c.self.invariant.2 in
    let said = subst (λ (d : DatabaseData). TellsNamed d name c.value_of.result) c.database.ensures.same c.value_of.ensures in
    subst (λ (z : Contents). TellsValue (always_open z) name c.value_of.result) c.self.view_is (tells s (outcomes_of i.told.log.items) i.told.engine refl history name c.value_of.result said)
