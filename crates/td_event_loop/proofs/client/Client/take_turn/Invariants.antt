use Rattle.http_server.specs.Exchange.{Calls}
use Rattle.td_event_loop.specs.Clients.{calls_of}
use Rattle.td_event_loop.proofs.client.Client.take_turn.Given as goal

-- so far only requests of the client were answered
abbrev pub invariant-loop : goal.invariant-loop
invariant-loop g l = Calls g.S.Service.answers l.fn.server l.server (calls_of l.fn.self) (calls_of l.self)
