use Rattle.std.proofs.Common.{sym, subst}
use Rattle.std.specs.FinSet as set
use Rattle.td_values.specs.Rows.{AreRows}
use Rattle.td_relations.specs.Sets.{body, IsRelation}
use Rattle.td_relations.specs.Merges.{first_alone, second_alone}
use Rattle.td_relations.proofs.Merging.{difference_of_kept, difference_of_second, of_merge, rows_of_merge}
use Rattle.td_relations.proofs.merges.differences.Goals as goal

pub with_tuples-requires : goal.with_tuples-requires
with_tuples-requires c =
    let a = c.args.a.now in
    let b = c.args.b.now in
    let ys = subst (λ h. AreRows h b.tuples) (sym c.requires) c.tuples-2.ensures.rows in
    let is = rw (c.tuples.ensures.all, c.tuples-2.ensures.all) at c.in_ok-firsts.ensures in
    rows_of_merge first_alone a.heading a.tuples b.tuples _ is.0 c.tuples.ensures.rows ys

pub with_tuples-requires-2 : goal.with_tuples-requires-2
with_tuples-requires-2 c =
    let a = c.args.a.now in
    let b = c.args.b.now in
    let ys = subst (λ h. AreRows h b.tuples) (sym c.requires) c.tuples-2.ensures.rows in
    let is = rw (c.tuples.ensures.all, c.tuples-2.ensures.all) at c.in_ok-firsts.ensures in
    rows_of_merge second_alone a.heading a.tuples b.tuples _ is.1 c.tuples.ensures.rows ys

pub returns : goal.returns
returns c =
    let a = c.args.a.now in
    let b = c.args.b.now in
    let is = rw (c.tuples.ensures.all, c.tuples-2.ensures.all) at c.in_ok-firsts.ensures in (
      subst (IsRelation a.heading (set.difference (body a) (body b))) (sym c.in_ok-with_tuples.ensures) (difference_of_kept a.heading a b _ (of_merge first_alone a b _ is.0)),
      subst (IsRelation a.heading (set.difference (body b) (body a))) (sym c.in_ok-with_tuples-2.ensures) (difference_of_second a.heading a b _ (of_merge second_alone a b _ is.1)),
    )
