use Rattle.std.proofs.Common.{sym, subst}
use Rattle.std.specs.List.{All}
use Rattle.td_values.specs.Rows.{RowsData}
use Rattle.td_relations.specs.Sets.{Has}
use Rattle.td_bases.specs.ForProofs.Keyed.{IsBeyond}
use Rattle.td_bases.proofs.Keyed.{all_less, nothing_back}
use Rattle.td_bases.proofs.base.take_back.Goals as goal

pub settle_each-requires-clause-beyond : goal.settle_each-requires-clause-beyond
settle_each-requires-clause-beyond c =
    let n = c.take_inserted.new.relation in
    let xs = c.args.indexes.now.items in
    subst (λ (i : RowsData). All (IsBeyond n (Has i)) xs) (sym c.inserted.ensures) (all_less c.args.relation.now c.args.delta.now.inserted n xs c.rows_fit.ensures.ascending c.take_inserted.ensures c.requires.of)

pub returns-clause-back : goal.returns-clause-back
returns-clause-back c = nothing_back c.args.relation.now c.take_inserted.new.relation c.args.delta.now c.requires.growth c.take_inserted.ensures
