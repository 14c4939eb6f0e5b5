use Rattle.std.proofs.Common.{◌≡◌}
use Rattle.td_event_loop.specs.Clients.{clients_of}
use Rattle.td_event_loop.specs.Runs.{slots_of}
use Rattle.td_event_loop.proofs.event_loop.EventLoop.wait.Given as goal

abbrev pub invariant-loop-event : goal.invariant-loop-event
invariant-loop-event l =
    (slots_of l.self.peers.items ≡ slots_of l.fn.self.peers.items) × (clients_of l.self.clients.items ≡ clients_of l.fn.self.clients.items)
