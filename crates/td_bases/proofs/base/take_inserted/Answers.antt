use Rattle.std.proofs.Common.{ap, ◌∙◌, subst}
use Rattle.std.specs.FinSet as set
use Rattle.td_values.specs.Rows.{RowsData}
use Rattle.td_relations.specs.Sets.{IsRelation, body, tuple_set}
use Rattle.td_bases.proofs.base.take_inserted.Goals as goal

pub returns : goal.returns
returns c =
    let r = c.args.relation.now in
    subst (λ ts. IsRelation r.heading (set.difference (body r) (tuple_set ts)) c.take_out.new.relation) (c.tuples.ensures.all ∙ ap (λ (q : RowsData). q.tuples) c.inserted.ensures) c.take_out.ensures
