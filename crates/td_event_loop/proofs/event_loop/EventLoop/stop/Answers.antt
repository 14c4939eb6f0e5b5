use Rattle.std.proofs.Common.{subst, sym}
use Rattle.td_event_loop.specs.Chains.{Chain, nothing}
use Rattle.td_event_loop.specs.Clients.{ComesOrGoes, clients_of}
use Rattle.td_event_loop.proofs.Passing.{chain_then, pass_same}
use Rattle.td_event_loop.proofs.event_loop.EventLoop.stop.Goals as goal

pub loop-init : goal.loop-init
loop-init g c = (c.stop_peers.ensures, nothing)

pub loop-preserved : goal.loop-preserved
loop-preserved g c = (
  pass_same _ _ _ _ _ _ _ _ c.loop.invariant.0 c.wait.ensures.meetings,
  chain_then c.loop.invariant.1 (subst (λ left. Chain ComesOrGoes (clients_of c.loop.self.clients.items) left) (sym c.wait.ensures.clients) c.send_rests.ensures),
)

pub returns-in_err-begun-clause-clients : goal.returns-in_err-begun-clause-clients
returns-in_err-begun-clause-clients g c = nothing

pub returns-in_err-elapsed-clause-clients : goal.returns-in_err-elapsed-clause-clients
returns-in_err-elapsed-clause-clients g c = chain_then c.loop.invariant.1 c.send_rests.ensures

pub returns-then-not-send_rests-clause-clients : goal.returns-then-not-send_rests-clause-clients
returns-then-not-send_rests-clause-clients g c = chain_then c.loop.invariant.1 c.send_rests.ensures

pub returns-in_err-wait-clause-clients : goal.returns-in_err-wait-clause-clients
returns-in_err-wait-clause-clients g c =
    chain_then c.loop.invariant.1 (subst (λ left. Chain ComesOrGoes (clients_of c.loop.self.clients.items) left) (sym c.wait.ensures.clients) c.send_rests.ensures)
