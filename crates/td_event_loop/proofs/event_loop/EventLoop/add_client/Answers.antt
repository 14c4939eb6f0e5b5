use Rattle.td_event_loop.specs.Chains.{nothing}
use Rattle.td_event_loop.proofs.Answered.{came}
use Rattle.td_event_loop.proofs.event_loop.EventLoop.add_client.Goals as goal

pub returns-in_default-clause-clients : goal.returns-in_default-clause-clients
returns-in_default-clause-clients g c = nothing

pub returns-in_err-keys-clause-clients : goal.returns-in_err-keys-clause-clients
returns-in_err-keys-clause-clients g c = nothing

pub returns-in_err-watch-clause-clients : goal.returns-in_err-watch-clause-clients
returns-in_err-watch-clause-clients g c = nothing

pub returns-clause-clients : goal.returns-clause-clients
returns-clause-clients g c = came _ _ _ _ c.new-client.ensures c.fill_slot.ensures
