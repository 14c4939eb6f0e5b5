use Rattle.std.proofs.Common.{◌≡◌, ℕ, List, ◌++◌}
use Rattle.td_event_loop.specs.Meetings.{inbox_of}
use Rattle.td_event_loop.proofs.peer.Peer.take_turn.Given as goal

-- so far bytes were read, and the site was not called
abbrev pub invariant-loop : goal.invariant-loop
invariant-loop g l =
    (l.site ≡ l.fn.site) × (l.self.stage ≡ l.fn.self.stage)
    × ((more : List ℕ) × inbox_of l.self ≡ inbox_of l.fn.self ++ more)
