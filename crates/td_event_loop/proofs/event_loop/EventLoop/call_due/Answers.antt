use Rattle.std.proofs.Common.{refl}
use Rattle.td_event_loop.specs.Chains.{nothing, onward}
use Rattle.td_event_loop.proofs.Passing.{chain_then, pass_kept}
use Rattle.td_event_loop.proofs.event_loop.EventLoop.call_due.Goals as goal

pub returns-in_default-clause-meetings : goal.returns-in_default-clause-meetings
returns-in_default-clause-meetings g c = pass_kept _ _ _ _ _ _ _ refl (onward c.add_wish.ensures nothing)

pub returns-in_default-next_due-clause-meetings : goal.returns-in_default-next_due-clause-meetings
returns-in_default-next_due-clause-meetings g c = pass_kept _ _ _ _ _ _ _ refl (onward c.add_wish.ensures nothing)

pub returns-in-Some-next_due-clause-meetings : goal.returns-in-Some-next_due-clause-meetings
returns-in-Some-next_due-clause-meetings g c = chain_then (pass_kept _ _ _ _ _ _ _ refl (onward c.add_wish.ensures nothing)) c.call.ensures.meetings
