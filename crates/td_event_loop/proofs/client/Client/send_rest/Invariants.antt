use Rattle.std.proofs.Common.{◌≡◌}
use Rattle.td_event_loop.specs.Clients.{calls_of}
use Rattle.td_event_loop.proofs.client.Client.send_rest.Given as goal

abbrev pub invariant-loop : goal.invariant-loop
invariant-loop l = calls_of l.self ≡ calls_of l.fn.self
