use Rattle.std.proofs.Common.{length, ap, ◌∙◌}
use Rattle.td_values.specs.Rows.{RowsData}
use Rattle.td_relations.proofs.Predicates.{one_relation}
use Rattle.td_tuples.specs.Items.{extended_columns}
use Rattle.td_algebra.specs.Extending.{Extended}
use Rattle.td_algebra.proofs.extension.extension_len.Goals as goal

pub returns-in-Ok : goal.returns-in-Ok
returns-in-Ok g c = λ m means.
    let items = c.args.items.now in
    let r = c.args.relation.now in
    let (none, is) = c.in-Ok.ensures m means in
    (none, λ s same. ap length c.tuples.ensures.all ∙ ap (λ (w : RowsData). length w.tuples) (one_relation (extended_columns items r.heading) (Extended m items r) c.in-Ok.extended s is same))
