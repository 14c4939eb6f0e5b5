use Rattle.std.proofs.Common.{◌≡◌, refl, sym, ◌∙◌, subst, ap, Bool, Vec, Global}
use Rattle.std.specs.FinSet as set
use Rattle.td_values.specs.Headings.{header_fields}
use Rattle.td_values.specs.Rows.{AreRows}
use Rattle.td_values.specs.Whole.{heading_of}
use Rattle.td_relations.specs.Sets.{IsRelation, IsRelationOf}
use Rattle.td_algebra.specs.Restricting.{Restricted, select}
use Rattle.td_algebra.proofs.Selections.{all_selected, selected_ascends, walk_fails, restricts}
use Rattle.td_algebra.proofs.restriction.restrict.Goals as goal

pub returns-in-Err : goal.returns-in-Err
returns-in-Err g c = λ m means. walk_fails m c.args.relation.now (λ (v : Vec Bool Global). v.items) (IsRelationOf c.args.relation.now.heading (Restricted m c.args.relation.now)) c.in-Err.fault ((rw c.tuples.ensures.all at c.in-Err.ensures) m means)

pub new-requires : goal.new-requires
new-requires g c =
    let ts = c.args.relation.now.tuples in
    let bs = c.in-Ok.keep.items in
    let kept = c.in_ok-kept.ensures ∙ ap (λ us. select us c.deref.result.now) c.tuples-2.ensures.all ∙ ap (select ts) c.deref.ensures.value in
    let same = c.in_ok-heading.ensures ∙ c.heading.ensures in
    let rows : AreRows c.args.relation.now.heading (select ts bs) = record {
      fit = all_selected (λ t. heading_of t ≡ header_fields c.args.relation.now.heading) ts bs c.tuples.ensures.rows.fit;
      ascending = selected_ascends ts bs c.tuples.ensures.rows.ascending;
    } in
    subst (AreRows c.in_ok-heading.heading) (sym kept) (subst (λ h. AreRows h (select ts bs)) (sym same) rows)

pub returns : goal.returns
returns g c = λ m means.
    let r = c.args.relation.now in
    let bs = c.in-Ok.keep.items in
    let kept = c.in_ok-kept.ensures ∙ ap (λ us. select us c.deref.result.now) c.tuples-2.ensures.all ∙ ap (select r.tuples) c.deref.ensures.value in
    let same = c.in_ok-heading.ensures ∙ c.heading.ensures in
    let is : c.of.result ≡ record { heading = r.heading; tuples = select r.tuples bs } = c.of.ensures.same ∙ c.new.ensures ∙ (λ i. record { heading = same i; tuples = kept i }) in
    restricts m r bs c.of.result ((rw c.tuples.ensures.all at c.in-Ok.ensures) m means)
    (subst (IsRelation r.heading (set.from_list (select r.tuples bs))) (sym is) (record { heading = refl; members = refl; ascending = selected_ascends r.tuples bs c.tuples.ensures.rows.ascending }))
