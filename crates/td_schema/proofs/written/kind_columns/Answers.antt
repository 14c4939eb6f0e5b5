use Rattle.std.proofs.Common.{ap, ◌∙◌, take, map}
use Rattle.std.specs.FinMap as by_name
use Rattle.td_values.specs.View.{ty_of}
use Rattle.td_tuples.proofs.Filters.{mapped_more}
use Rattle.td_tuples.proofs.Steps.{added}
use Rattle.td_schema.specs.Written.{kind_column}
use Rattle.td_schema.proofs.written.kind_columns.Goals as goal

pub loop-field-preserved : goal.loop-field-preserved
loop-field-preserved c =
    let fields = c.args.fields.now in
    let i = c.loop-field.field-index in
    let x = c.field-item.result in
    added (map kind_column (take i fields)) (kind_column x) _ _ _ _ _ c.in_ok-copy-2.ensures (ap ty_of c.in_ok-copy.ensures) c.loop-field.invariant c.in_ok-insert.ensures.new c.in_ok-insert.ensures.ok
    ∙ ap by_name.from_entries (mapped_more kind_column fields i x c.loop-field-test.true c.field-item.is)
