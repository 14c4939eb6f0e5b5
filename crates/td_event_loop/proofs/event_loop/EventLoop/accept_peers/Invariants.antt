use Rattle.std.proofs.Common.{◌≡◌}
use Rattle.td_event_loop.specs.Runs.{MeetingsPass, slots_of}
use Rattle.td_event_loop.proofs.event_loop.EventLoop.accept_peers.Given as goal

-- so far meetings began
abbrev pub invariant-loop : goal.invariant-loop
invariant-loop g l =
    (l.self.clients ≡ l.fn.self.clients)
    × MeetingsPass g.M.Meets.keeps g.M.Meets.settles g.M.Meets.finishes (slots_of l.fn.self.peers.items) l.fn.site (slots_of l.self.peers.items) l.site
