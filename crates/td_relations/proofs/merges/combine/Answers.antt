use Rattle.std.proofs.Common.{sym, subst}
use Rattle.td_values.specs.Rows.{AreRows}
use Rattle.td_relations.proofs.Merging.{rows_of_merge}
use Rattle.td_relations.proofs.merges.combine.Goals as goal

pub with_tuples-requires : goal.with_tuples-requires
with_tuples-requires c =
    let a = c.args.a.now in
    let b = c.args.b.now in
    let ys = subst (λ h. AreRows h b.tuples) (sym c.requires) c.tuples-2.ensures.rows in
    let is = rw (c.tuples.ensures.all, c.tuples-2.ensures.all) at c.in_ok-tuples.ensures in
    rows_of_merge c.args.kept a.heading a.tuples b.tuples _ is c.tuples.ensures.rows ys
