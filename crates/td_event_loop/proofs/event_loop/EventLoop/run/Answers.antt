use Rattle.std.proofs.Common.{ap, refl}
use Rattle.td_event_loop.specs.Chains.{nothing, onward}
use Rattle.td_event_loop.specs.Clients.{clients_of}
use Rattle.td_event_loop.specs.Runs.{slots_of}
use Rattle.td_event_loop.proofs.Passing.{chain_then, loop_met, loop_moved, loop_same, pass_kept}
use Rattle.td_event_loop.proofs.event_loop.EventLoop.run.Goals as goal

pub returns-in_err-events : goal.returns-in_err-events
returns-in_err-events g c = nothing

pub returns-in_err-begun : goal.returns-in_err-begun
returns-in_err-begun g c =
    loop_same g.S.Service.answers _ _ _ _ _ _ _ _ (ap (λ clients. clients_of clients.items) c.begin.ensures.clients) (ap (λ peers. slots_of peers.items) c.begin.ensures.peers)

pub loop-init : goal.loop-init
loop-init g c =
    loop_same g.S.Service.answers _ _ _ _ _ _ _ _ (ap (λ clients. clients_of clients.items) c.begin.ensures.clients) (ap (λ peers. slots_of peers.items) c.begin.ensures.peers)

pub returns-then-is_stopping : goal.returns-then-is_stopping
returns-then-is_stopping g c =
    let stopped = loop_met g.S.Service.answers _ _ _ _ _ _ _ _ _ refl c.stop.ensures.meetings in
    let gone = loop_moved g.S.Service.answers g.S.Meets.keeps g.S.Meets.settles g.S.Meets.finishes _ _ _ _ _ refl c.stop.ensures.clients in
    chain_then c.loop.invariant (chain_then stopped gone)

pub loop-preserved : goal.loop-preserved
loop-preserved g c =
    let waited = loop_same g.S.Service.answers g.S.Meets.keeps g.S.Meets.settles g.S.Meets.finishes _ _ _ _ c.loop.server c.wait.ensures.clients c.wait.ensures.meetings in
    let passed = loop_met g.S.Service.answers g.S.Meets.keeps g.S.Meets.settles g.S.Meets.finishes _ _ _ _ _ _ refl (pass_kept _ _ _ _ _ _ _ refl (onward c.pass_time.ensures nothing)) in
    chain_then c.loop.invariant (chain_then waited (chain_then passed c.turn-is_busy.ensures))
