use Rattle.td_event_loop.proofs.Passing.{same_slots}
use Rattle.td_event_loop.proofs.event_loop.add_readiness_of_peer.Goals as goal

pub returns-then-slot-len : goal.returns-then-slot-len
returns-then-slot-len c = same_slots _ _ _ _ c.index_mut.ensures.value c.add_readiness_to.ensures
