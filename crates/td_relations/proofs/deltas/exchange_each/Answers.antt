use Rattle.std.proofs.Common.{◌≡◌, sym, ap, ◌∙◌, subst}
use Rattle.std.specs.FinSet as set
use Rattle.td_values.specs.Rows.{RowsData, AreRows}
use Rattle.td_relations.specs.Sets.{tuple_set}
use Rattle.td_relations.proofs.Changes.{rows_of_change}
use Rattle.td_relations.proofs.deltas.exchange_each.Goals as goal

pub invariant_of-relation-2 : goal.invariant_of-relation-2
invariant_of-relation-2 c =
    let heading : c.args.inserted.now.heading ≡ c.relation.inside.heading = c.requires ∙ sym (ap (λ (r : RowsData). r.heading) c.relation.view_is) in
    let fresh : c.in_ok-fresh.fresh.items ≡ c.args.inserted.now.tuples = c.in_ok-fresh.ensures ∙ c.tuples.ensures.all in
    let members = c.exchange_few.ensures.members ∙ ap (λ f. set.union (set.difference (tuple_set c.reserve.new.self.items) (tuple_set c.tuples-2.result.now)) (tuple_set f)) fresh ∙ ap (λ w. set.union (set.difference (tuple_set w) (tuple_set c.tuples-2.result.now)) (tuple_set c.args.inserted.now.tuples)) c.in_ok-reserve.ensures.items in
    rows_of_change c.relation.inside.heading _ _ _ _ c.relation.invariant (subst (λ h. AreRows h c.args.inserted.now.tuples) heading c.tuples.ensures.rows) c.exchange_few.ensures.ascending members
