use Rattle.td_event_loop.specs.Chains.{Chain}
use Rattle.td_event_loop.specs.Clients.{ComesOrGoes, clients_of}
use Rattle.td_event_loop.specs.Runs.{MeetingsPass, slots_of}
use Rattle.td_event_loop.proofs.event_loop.EventLoop.stop.Given as goal

-- the meetings have ended
abbrev pub invariant-loop : goal.invariant-loop
invariant-loop g l =
    MeetingsPass g.S.Meets.keeps g.S.Meets.settles g.S.Meets.finishes (slots_of l.fn.self.peers.items) l.fn.server (slots_of l.self.peers.items) l.server
    × Chain ComesOrGoes (clients_of l.fn.self.clients.items) (clients_of l.self.clients.items)
