use Rattle.std.proofs.Common.{ap, ◌∙◌, sym, take, map}
use Rattle.std.specs.FinMap as by_name
use Rattle.td_tuples.proofs.Filters.{mapped_more}
use Rattle.td_tuples.proofs.SideBySide.{joined_one_more, none_joined}
use Rattle.td_tuples.specs.Items.{column_of}
use Rattle.td_tuples.specs.Unions.{joined}
use Rattle.td_tuples.proofs.items.has_columns_of.Goals as goal

pub loop-item-init : goal.loop-item-init
loop-item-init g c = none_joined c.args.heading.now

pub loop-item-preserved : goal.loop-item-preserved
loop-item-preserved g c =
    let items = c.args.items.now in
    let h = c.args.heading.now in
    let i = c.loop-item.item-index in
    let x = c.item-item.result in
    ap (λ es. joined (by_name.from_entries es) h) (sym (mapped_more column_of items i x c.loop-item-test.true c.item-item.is))
    ∙ joined_one_more h (map column_of (take i items)) x.name x.ty c.loop-item.invariant (c.has_column.ensures c.if-not-has_column.false)
