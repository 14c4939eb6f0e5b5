use Rattle.td_event_loop.proofs.Passing.{begun}
use Rattle.td_event_loop.proofs.event_loop.EventLoop.begin_accepted.Goals as goal

pub returns-clause-meetings : goal.returns-clause-meetings
returns-clause-meetings c = begun _ _ _ _ c.accepted-peer.ensures c.fill_slot.ensures
