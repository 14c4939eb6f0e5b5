use Rattle.std.proofs.Common.{ap, ◌∙◌, take, map}
use Rattle.std.specs.FinMap as by_name
use Rattle.td_tuples.proofs.Steps.{added}
use Rattle.td_tuples.specs.Items.{column_of}
use Rattle.td_tuples.proofs.Filters.{mapped_more}
use Rattle.td_tuples.proofs.items.columns_of.Goals as goal

pub loop-item-preserved : goal.loop-item-preserved
loop-item-preserved g c =
    let items = c.args.items.now in
    let i = c.loop-item.item-index in
    let x = c.item-item.result in
    added (map column_of (take i items)) (column_of x) _ _ _ _ _ c.in_ok-copy.ensures c.in_ok-copy-2.ensures c.loop-item.invariant c.in_ok-insert.ensures.new c.in_ok-insert.ensures.ok
    ∙ ap by_name.from_entries (mapped_more column_of items i x c.loop-item-test.true c.item-item.is)
