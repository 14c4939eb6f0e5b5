use Rattle.td_event_loop.proofs.Answered.{same_clients}
use Rattle.td_event_loop.proofs.event_loop.add_readiness_of_client.Goals as goal

pub returns-then-slot-len : goal.returns-then-slot-len
returns-then-slot-len c = same_clients _ _ _ _ c.index_mut.ensures.value c.add_readiness_to_client.ensures
