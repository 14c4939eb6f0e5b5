use Rattle.std.proofs.Common.{ap, refl}
use Rattle.td_event_loop.specs.Chains.{nothing, onward}
use Rattle.td_event_loop.specs.Runs.{slots_of}
use Rattle.td_event_loop.proofs.Passing.{chain_then, pass_begin, pass_kept}
use Rattle.td_event_loop.proofs.event_loop.EventLoop.call.Goals as goal

pub returns-in_default-clause-meetings : goal.returns-in_default-clause-meetings
returns-in_default-clause-meetings g c =
    pass_kept _ _ _ _ _ _ _ (ap (λ peers. slots_of peers.items) c.end_call.ensures.peers)
    (onward c.open.ensures (onward c.end_call.ensures.keeps nothing))

pub returns-then-begin_call-clause-meetings : goal.returns-then-begin_call-clause-meetings
returns-then-begin_call-clause-meetings g c =
    chain_then (pass_kept _ _ _ _ _ _ _ refl (onward c.open.ensures nothing)) (pass_begin _ _ _ _ _ _ _ c.begin_call.ensures.meetings)

pub returns-clause-meetings : goal.returns-clause-meetings
returns-clause-meetings g c =
    chain_then (pass_kept _ _ _ _ _ _ _ refl (onward c.open.ensures nothing))
    (chain_then (pass_begin _ _ _ _ _ _ _ c.begin_call.ensures.meetings)
    (pass_kept _ _ _ _ _ _ _ (ap (λ peers. slots_of peers.items) c.end_call-2.ensures.peers) (onward c.end_call-2.ensures.keeps nothing)))
