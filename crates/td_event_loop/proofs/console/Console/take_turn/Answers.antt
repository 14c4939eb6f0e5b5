use Rattle.td_event_loop.specs.Chains.{nothing, onward}
use Rattle.td_event_loop.proofs.console.Console.take_turn.Goals as goal

pub returns-then-not-self : goal.returns-then-not-self
returns-then-not-self g c = nothing

pub returns-then-read_console : goal.returns-then-read_console
returns-then-read_console g c = onward c.read_console.ensures nothing

pub returns : goal.returns
returns g c = onward c.read_console.ensures nothing
