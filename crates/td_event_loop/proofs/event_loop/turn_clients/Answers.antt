use Rattle.std.proofs.Common.{refl, arith}
use Rattle.std.proofs.lemmas.Option.{slice_get_read}
use Rattle.td_event_loop.specs.Chains.{nothing}
use Rattle.td_event_loop.proofs.Answered.{client_turn}
use Rattle.td_event_loop.proofs.Passing.{chain_then}
use Rattle.td_event_loop.proofs.event_loop.turn_clients.Goals as goal

pub loop-slot-init : goal.loop-slot-init
loop-slot-init g c = (refl, nothing)

pub loop-slot-preserved : goal.loop-slot-preserved
loop-slot-preserved g c =
    let clients = c.loop-slot.clients in
    let there = slice_get_read clients.items clients.len c.loop-slot.slot c.index_mut.result.now clients.ok.0 (omega arith) c.index_mut.ensures.value in (
      c.loop-slot.invariant.0,
      chain_then c.loop-slot.invariant.1 (client_turn g.S.Service.answers _ _ _ _ _ _ there c.turn_client.ensures),
    )
