use Rattle.std.proofs.Common.{refl}
use Rattle.td_event_loop.specs.Chains.{nothing}
use Rattle.td_event_loop.proofs.Passing.{chain_then, pass_stop}
use Rattle.td_event_loop.proofs.event_loop.stop_peers.Goals as goal

pub loop-meeting-init : goal.loop-meeting-init
loop-meeting-init g c = (refl, nothing)

pub loop-meeting-preserved : goal.loop-meeting-preserved
loop-meeting-preserved g c = (
  c.loop-meeting.invariant.0,
  chain_then c.loop-meeting.invariant.1 (pass_stop _ _ _ _ _ _ _ _ c.stop_slot.ensures.site c.stop_slot.ensures.slot),
)
