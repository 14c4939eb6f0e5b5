use Rattle.std.proofs.Common.{◌≡◌, vec_len}
use Rattle.td_event_loop.specs.Clients.{ClientsPass, clients_of}
use Rattle.td_event_loop.proofs.event_loop.turn_clients.Given as goal

-- so far clients had their turns
abbrev pub invariant-loop-slot : goal.invariant-loop-slot
invariant-loop-slot g l =
    (vec_len l.clients ≡ vec_len l.fn.clients)
    × ClientsPass g.S.Service.answers (clients_of l.fn.clients.items) l.fn.server (clients_of l.clients.items) l.server
