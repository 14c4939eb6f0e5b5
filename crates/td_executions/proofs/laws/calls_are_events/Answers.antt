use Rattle.td_executions.proofs.Calling.{calls_are_events, no_call_clashes}
use Rattle.td_executions.proofs.laws.calls_are_events.Goals as goal

pub returns : goal.returns
returns c = record { events = calls_are_events; clash = no_call_clashes }
