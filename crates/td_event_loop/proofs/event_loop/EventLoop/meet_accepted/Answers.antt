use Rattle.std.proofs.Common.{refl}
use Rattle.td_event_loop.specs.Chains.{nothing, onward}
use Rattle.td_event_loop.proofs.Passing.{pass_begin, pass_kept}
use Rattle.td_event_loop.proofs.event_loop.EventLoop.meet_accepted.Goals as goal

pub returns-then-not-is_allowed-clause-meetings : goal.returns-then-not-is_allowed-clause-meetings
returns-then-not-is_allowed-clause-meetings g c = pass_kept _ _ _ _ _ _ _ refl (onward c.refuse.ensures nothing)

pub returns-in-Some-clause-meetings : goal.returns-in-Some-clause-meetings
returns-in-Some-clause-meetings g c = pass_begin _ _ _ _ _ _ _ c.begin_accepted.ensures.meetings

pub returns-in-None-clause-meetings : goal.returns-in-None-clause-meetings
returns-in-None-clause-meetings g c = pass_kept _ _ _ _ _ _ _ refl (onward c.refuse-in-None.ensures nothing)
