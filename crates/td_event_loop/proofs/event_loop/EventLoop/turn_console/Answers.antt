use Rattle.td_event_loop.specs.Chains.{nothing}
use Rattle.td_event_loop.proofs.event_loop.EventLoop.turn_console.Goals as goal

pub returns-in_default-clause-keeps : goal.returns-in_default-clause-keeps
returns-in_default-clause-keeps g c = nothing
