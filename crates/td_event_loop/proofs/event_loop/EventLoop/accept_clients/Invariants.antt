use Rattle.std.proofs.Common.{◌≡◌}
use Rattle.td_event_loop.specs.Chains.{Chain}
use Rattle.td_event_loop.specs.Clients.{ComesOrGoes, clients_of}
use Rattle.td_event_loop.proofs.event_loop.EventLoop.accept_clients.Given as goal

-- so far clients came
abbrev pub invariant-loop : goal.invariant-loop
invariant-loop g l = (l.self.peers ≡ l.fn.self.peers) × Chain ComesOrGoes (clients_of l.fn.self.clients.items) (clients_of l.self.clients.items)
