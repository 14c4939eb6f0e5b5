use Rattle.std.proofs.Common.{◌∙◌, ap, refl}
use Rattle.td_event_loop.specs.Clients.{clients_of}
use Rattle.td_event_loop.specs.Runs.{slots_of}
use Rattle.td_event_loop.proofs.Passing.{chain_then, loop_met, loop_moved, loop_served, pass_kept}
use Rattle.td_event_loop.proofs.event_loop.EventLoop.turn.Goals as goal

pub returns : goal.returns
returns g c =
    let console = pass_kept _ _ _ _ _ _ _ (ap (λ peers. slots_of peers.items) c.turn_console.ensures.peers) c.turn_console.ensures.keeps in
    let read = loop_met g.S.Service.answers g.S.Meets.keeps g.S.Meets.settles g.S.Meets.finishes _ _ _ _ _ _ (ap (λ clients. clients_of clients.items) c.turn_console.ensures.clients) console in
    let came = loop_moved g.S.Service.answers g.S.Meets.keeps g.S.Meets.settles g.S.Meets.finishes _ _ _ _ _ (ap (λ peers. slots_of peers.items) c.accept_clients.ensures.peers) c.accept_clients.ensures.clients in
    let same = ap (λ clients. clients_of clients.items) c.call_due.ensures.clients ∙ ap (λ clients. clients_of clients.items) c.accept_peers.ensures.clients in
    let begun = loop_met g.S.Service.answers _ _ _ _ _ _ _ _ _ same (chain_then c.accept_peers.ensures.meetings c.call_due.ensures.meetings) in
    let answered = loop_served g.S.Service.answers g.S.Meets.keeps g.S.Meets.settles g.S.Meets.finishes _ _ _ _ _ _ refl c.turn_clients-has_busy_client.ensures in
    let turned = loop_met g.S.Service.answers _ _ _ _ _ _ _ _ _ refl c.turn_peers-has_busy_peer.ensures in
    chain_then read (chain_then came (chain_then begun (chain_then answered turned)))
