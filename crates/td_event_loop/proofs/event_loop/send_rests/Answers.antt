use Rattle.std.proofs.Common.{refl}
use Rattle.td_event_loop.specs.Chains.{nothing}
use Rattle.td_event_loop.proofs.Answered.{sent_rest}
use Rattle.td_event_loop.proofs.Passing.{chain_then}
use Rattle.td_event_loop.proofs.event_loop.send_rests.Goals as goal

pub loop-slot-init : goal.loop-slot-init
loop-slot-init c = (refl, nothing)

pub loop-slot-preserved : goal.loop-slot-preserved
loop-slot-preserved c = (
  c.loop-slot.invariant.0,
  chain_then c.loop-slot.invariant.1 (sent_rest _ _ _ _ c.index_mut.ensures.value c.send_slot.ensures),
)
