use Rattle.std.proofs.Common.{◌≡◌, ◌<◌, ◌≤◌, [], length, false, vec_len, get_or, sym, ap, ◌∙◌, subst, arith}
use Rattle.std.proofs.lemmas.Grind.{get_or_default_zero}
use Rattle.std.proofs.lemmas.List.{length-replicate}
use Rattle.td_graph.specs.ForProofs.{IsMarked, Visits}
use Rattle.td_graph.proofs.Walks.{unmarked, few, begun, gone_on, reaches}
use Rattle.td_graph.proofs.walked.Goals as goal

pub visit_all-requires : goal.visit_all-requires
visit_all-requires g c =
    let marks = c.args.marks.now.items in
    record { marked = subst (IsMarked marks) (sym c.new-places.ensures.items) (unmarked marks (length (g.L.Leads.links c.args.links.now)) c.requires) }

pub loop-at-init : goal.loop-at-init
loop-at-init g c =
    let links = g.L.Leads.links c.args.links.now in
    let seen = c.in_ok-visit_all.ensures in
    let marks = c.visit_all.new.marks in
    let places = c.visit_all.new.places.items in
    let many : length c.args.marks.now.items ≡ length links = ap length c.requires ∙ length-replicate (length links) false in
    let counted : vec_len c.args.marks.now ≡ length links = omega (arith, c.args.marks.now.ok, many) in
    begun links c.args.starts.now marks.items places seen.marked
    (omega (arith, marks.ok, seen.len, counted))
    (subst (λ n. Visits n [] c.args.starts.now places) counted (subst (λ old. Visits (vec_len c.args.marks.now) old c.args.starts.now places) c.new-places.ensures.items seen.visits))

pub loop-at-preserved : goal.loop-at-preserved
loop-at-preserved g c =
    let links = g.L.Leads.links c.args.links.now in
    let seen = c.in_ok-visit_all-2.ensures in
    let old = c.loop-at.places.items in
    let at = c.loop-at.at in
    let marks = c.visit_all-in-loop-at.new.marks in
    let places = c.visit_all-in-loop-at.new.places.items in
    let within : at < length old = omega (arith, c.loop-at.places.ok, c.loop-at-test.true, c.len.ensures) in
    let here : c.index.result.now ≡ get_or old at 0 = c.index.ensures ∙ get_or_default_zero old at c.index.result.now within in
    gone_on links c.args.starts.now at c.loop-at.marks.items old marks.items places c.loop-at.invariant within seen.marked
    (omega (arith, marks.ok, seen.len, c.loop-at.marks.ok, c.loop-at.invariant.many))
    (subst (λ n. Visits n old (get_or links (get_or old at 0) []) places) (omega (arith, c.loop-at.marks.ok, c.loop-at.invariant.many)) (subst (λ more. Visits (vec_len c.loop-at.marks) old more places) (c.deref.ensures.value ∙ c.in_ok-look.ensures ∙ ap (λ u. get_or links u []) here) seen.visits))

pub loop-at-smaller : goal.loop-at-smaller
loop-at-smaller g c =
    let old = c.loop-at.places.items in
    let within : c.loop-at.at < length old = omega (arith, c.loop-at.places.ok, c.loop-at-test.true, c.len.ensures) in
    let inv = c.loop-at.invariant in
    let fewer = few c.loop-at.marks.items old inv.marked in
    omega (arith, within, fewer, inv.many)

pub returns-clause-reached : goal.returns-clause-reached
returns-clause-reached g c = λ w.
    let old = c.loop-at.places.items in
    let ended : length old ≤ c.loop-at.at = omega (arith, c.loop-at.places.ok, c.loop-at-test.false, c.len.ensures) in
    reaches (g.L.Leads.links c.args.links.now) c.args.starts.now c.loop-at.at c.loop-at.marks.items old c.loop-at.invariant ended w

pub returns-clause-marked : goal.returns-clause-marked
returns-clause-marked g c = c.loop-at.invariant.marked

pub returns-clause-many : goal.returns-clause-many
returns-clause-many g c = c.loop-at.invariant.many ∙ sym (ap length c.requires ∙ length-replicate (length (g.L.Leads.links c.args.links.now)) false)
