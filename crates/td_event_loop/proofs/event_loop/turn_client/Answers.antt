use Rattle.td_event_loop.proofs.Answered.{went}
use Rattle.td_event_loop.proofs.event_loop.turn_client.Goals as goal

pub returns-in-Ended : goal.returns-in-Ended
returns-in-Ended g c = went g.S.Service.answers _ _ _ _ _ c.in-Some.is c.take_turn.ensures
