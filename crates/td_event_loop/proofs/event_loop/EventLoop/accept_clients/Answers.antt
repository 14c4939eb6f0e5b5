use Rattle.std.proofs.Common.{◌∙◌, refl}
use Rattle.td_event_loop.specs.Chains.{nothing}
use Rattle.td_event_loop.proofs.Passing.{chain_then}
use Rattle.td_event_loop.proofs.event_loop.EventLoop.accept_clients.Goals as goal

pub returns-then-not-self-clause-clients : goal.returns-then-not-self-clause-clients
returns-then-not-self-clause-clients g c = nothing

pub loop-init : goal.loop-init
loop-init g c = (refl, nothing)

pub loop-preserved : goal.loop-preserved
loop-preserved g c = (c.add_client.ensures.peers ∙ c.loop.invariant.0, chain_then c.loop.invariant.1 c.add_client.ensures.clients)
