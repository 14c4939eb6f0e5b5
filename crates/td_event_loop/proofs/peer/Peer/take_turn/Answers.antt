use Rattle.std.proofs.Common.{◌++◌, ◌∙◌, ap, append_assoc}
use Rattle.td_event_loop.proofs.Turns.{idle_turn, step_turn}
use Rattle.td_event_loop.specs.declared.transfer.Progress.TheVariants.{Waiting, Ended}
use Rattle.td_event_loop.proofs.peer.Peer.take_turn.Goals as goal

pub returns-then-is_ready : goal.returns-then-is_ready
returns-then-is_ready g c =
    let so_far = c.loop.invariant in
    let ready = c.is_ready.ensures in
    step_turn g.M.Meets.keeps g.M.Meets.settles g.M.Meets.finishes c.take_step.result _ c.take_step.new.self so_far.2.0 _ _ _ _ _
    so_far.0 (ready.0 ∙ so_far.1) (ready.1 ∙ so_far.2.1) c.take_step.ensures.step c.take_step.ensures.next c.take_step.ensures.drops

pub returns-in-Waiting : goal.returns-in-Waiting
returns-in-Waiting g c =
    let so_far = c.loop.invariant in
    let ready = c.is_ready.ensures in
    let read = c.transfer.ensures in
    idle_turn g.M.Meets.keeps g.M.Meets.settles g.M.Meets.finishes Waiting _ c.transfer.new.self (so_far.2.0 ++ read.1.0) _ _
    so_far.0 (read.0 ∙ ready.0 ∙ so_far.1) (read.1.1 ∙ ap (λ bytes. bytes ++ read.1.0) (ready.1 ∙ so_far.2.1) ∙ append_assoc _ so_far.2.0 read.1.0)

pub returns-in-Ended : goal.returns-in-Ended
returns-in-Ended g c =
    let so_far = c.loop.invariant in
    let ready = c.is_ready.ensures in
    let read = c.transfer.ensures in
    idle_turn g.M.Meets.keeps g.M.Meets.settles g.M.Meets.finishes Ended _ c.transfer.new.self (so_far.2.0 ++ read.1.0) _ _
    so_far.0 (read.0 ∙ ready.0 ∙ so_far.1) (read.1.1 ∙ ap (λ bytes. bytes ++ read.1.0) (ready.1 ∙ so_far.2.1) ∙ append_assoc _ so_far.2.0 read.1.0)
