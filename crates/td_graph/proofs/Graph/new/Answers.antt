use Rattle.std.proofs.Common.{ℕ, map, Vec, Global, ap, ◌∙◌}
use Rattle.td_graph.proofs.Walks.{one_place}
use Rattle.td_graph.proofs.Graph.new.Goals as goal

pub loop-place-preserved : goal.loop-place-preserved
loop-place-preserved c =
    ap (λ vs. map (λ (v : Vec ℕ Global). v.items) vs) c.in_ok-push.ensures.items
    ∙ one_place (λ (v : Vec ℕ Global). v.items) c.loop-place.next.items c.loop-place._place _ c.loop-place.invariant c.new.ensures.items
