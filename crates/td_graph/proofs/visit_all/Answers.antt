use Rattle.std.proofs.Common.{rules, ◌∙◌, [], ◌∷◌, vec_len, get_or, take, sym, subst}
use Rattle.std.proofs.lemmas.List.{take_more}
use Rattle.td_graph.specs.ForProofs.{Visits}
use Rattle.td_graph.proofs.Walks.{visits_none, visits_more}
use Rattle.td_graph.proofs.visit_all.Goals as goal

pub loop-place-init : goal.loop-place-init
loop-place-init c = let m = c.requires.marked in record { marked = m; len = search rules; visits = visits_none (vec_len c.args.marks.now) c.args.places.now.items }

pub loop-place-preserved : goal.loop-place-preserved
loop-place-preserved c =
    let i = c.loop-place.place-index in
    let more = c.args.more.now in
    let visited = c.in_ok-visit.ensures in
    let lt = c.loop-place-test.true in
    record {
      marked = visited.marked;
      len = visited.len ∙ c.loop-place.invariant.len;
      visits = subst (λ ws. Visits (vec_len c.args.marks.now) c.args.places.now.items ws c.visit.new.places.items) (sym (take_more more i 0 lt))
          (visits_more (vec_len c.args.marks.now) c.args.places.now.items (take i more) c.loop-place.places.items c.visit.new.places.items (get_or more i 0) c.loop-place.invariant.visits (subst (λ n. Visits n c.loop-place.places.items (get_or more i 0 ∷ []) c.visit.new.places.items) c.loop-place.invariant.len visited.visits));
    }
