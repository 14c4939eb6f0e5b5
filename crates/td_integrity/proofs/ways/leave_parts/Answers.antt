use Rattle.std.proofs.Common.{ap, subst, ◌∙◌}
use Rattle.td_values.specs.Rows.{RowsData}
use Rattle.td_algebra.specs.KeyIndexes.{IsKeyIndex}
use Rattle.td_integrity.proofs.Gaining.{leaves}
use Rattle.td_integrity.proofs.ways.leave_parts.Goals as goal

pub returns : goal.returns
returns c = λ b.
    let d = c.args.delta.now in
    let names = c.args.names.now in
    let x = c.in_ok-index.index in
    let is = subst (λ (r : RowsData). IsKeyIndex names r x) c.inserted.ensures c.in_ok-index.ensures in
    leaves names d x is c.tuples.result.now (c.tuples.ensures.all ∙ ap (λ (r : RowsData). r.tuples) c.deleted-2.ensures) (c.have_parts.ensures b)
