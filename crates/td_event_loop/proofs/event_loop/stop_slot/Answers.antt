use Rattle.td_event_loop.specs.Chains.{nothing, onward}
use Rattle.td_event_loop.proofs.event_loop.stop_slot.Goals as goal

pub returns-in_default-clause-site : goal.returns-in_default-clause-site
returns-in_default-clause-site g c = nothing

pub returns-clause-site : goal.returns-clause-site
returns-clause-site g c = onward c.end_meeting.ensures nothing
