use Rattle.std.proofs.Common.{List, subst}
use Rattle.http_server.specs.Exchange.{Call, Calls}
use Rattle.http_server.proofs.StreamLemmas.{Calls-then}
use Rattle.td_event_loop.specs.Clients.{calls_of}
use Rattle.td_event_loop.proofs.client.Client.take_turn.Goals as goal

-- a transfer keeps the calls, and then one more may be answered
pub returns-then-is_done : goal.returns-then-is_done
returns-then-is_done g c =
    Calls-then g.S.Service.answers _ _ _ _ _ _ c.loop.invariant
    (subst (λ (before : List Call). Calls g.S.Service.answers c.loop.server c.answer-is_answered.new.server before (calls_of c.answer-is_answered.new.self))
    c.transfer.ensures c.answer-is_answered.ensures)

pub returns-then-is_answered : goal.returns-then-is_answered
returns-then-is_answered g c =
    Calls-then g.S.Service.answers _ _ _ _ _ _ c.loop.invariant
    (subst (λ (before : List Call). Calls g.S.Service.answers c.loop.server c.answer-is_answered.new.server before (calls_of c.answer-is_answered.new.self))
    c.transfer.ensures c.answer-is_answered.ensures)

pub loop-preserved : goal.loop-preserved
loop-preserved g c =
    Calls-then g.S.Service.answers _ _ _ _ _ _ c.loop.invariant
    (subst (λ (before : List Call). Calls g.S.Service.answers c.loop.server c.answer-is_answered.new.server before (calls_of c.answer-is_answered.new.self))
    c.transfer.ensures c.answer-is_answered.ensures)
