use Rattle.td_event_loop.specs.Runs.{LoopPasses, state_of}
use Rattle.td_event_loop.proofs.event_loop.EventLoop.run.Given as goal

-- so far all had their turns
abbrev pub invariant-loop : goal.invariant-loop
invariant-loop g l =
    LoopPasses g.S.Service.answers g.S.Meets.keeps g.S.Meets.settles g.S.Meets.finishes (state_of l.fn.self l.fn.server) (state_of l.self l.server)
