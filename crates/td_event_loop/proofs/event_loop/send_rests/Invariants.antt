use Rattle.std.proofs.Common.{◌≡◌, vec_len}
use Rattle.td_event_loop.specs.Chains.{Chain}
use Rattle.td_event_loop.specs.Clients.{ComesOrGoes, clients_of}
use Rattle.td_event_loop.proofs.event_loop.send_rests.Given as goal

-- so far clients went
abbrev pub invariant-loop-slot : goal.invariant-loop-slot
invariant-loop-slot l =
    (vec_len l.clients ≡ vec_len l.fn.clients) × Chain ComesOrGoes (clients_of l.fn.clients.items) (clients_of l.clients.items)
