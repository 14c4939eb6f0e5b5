use Rattle.std.proofs.Common.{refl, arith}
use Rattle.std.proofs.lemmas.Option.{slice_get_read}
use Rattle.td_event_loop.specs.Chains.{nothing}
use Rattle.td_event_loop.proofs.Passing.{chain_then, pass_peer}
use Rattle.td_event_loop.proofs.event_loop.turn_peers.Goals as goal

pub loop-meeting-init : goal.loop-meeting-init
loop-meeting-init g c = (refl, nothing)

pub loop-meeting-preserved : goal.loop-meeting-preserved
loop-meeting-preserved g c =
    let peers = c.loop-meeting.peers in
    let there = slice_get_read peers.items peers.len c.loop-meeting.meeting c.index_mut.result.now peers.ok.0 (omega arith) c.index_mut.ensures.value in (
      c.loop-meeting.invariant.0,
      chain_then c.loop-meeting.invariant.1 (pass_peer _ _ _ _ _ _ _ _ _ there c.turn_slot.ensures),
    )
