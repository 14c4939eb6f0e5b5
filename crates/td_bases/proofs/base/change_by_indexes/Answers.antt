use Rattle.std.proofs.Common.{sym, ◌∙◌, subst}
use Rattle.std.specs.List.{All}
use Rattle.td_values.specs.Rows.{RowsData}
use Rattle.td_relations.specs.Sets.{Has}
use Rattle.td_bases.specs.ForProofs.Keyed.{IsBeyond, IsIndexOf, Tells, with_more}
use Rattle.td_bases.proofs.Keyed.{all_new, all_old, told_by_inserted}
use Rattle.td_bases.proofs.base.change_by_indexes.Goals as goal

pub settle_each-requires-clause-beyond : goal.settle_each-requires-clause-beyond
settle_each-requires-clause-beyond c =
    let r = c.args.relation.now in
    let xs = c.gain_each.new.indexes.items in
    subst (λ (i : RowsData). All (IsBeyond r (Has i)) xs) (c.inserted.ensures ∙ sym c.inserted-in-Err.ensures) c.in-Err.ensures.err

pub settle_each-requires-in-Ok-clause-beyond : goal.settle_each-requires-in-Ok-clause-beyond
settle_each-requires-in-Ok-clause-beyond c =
    let r = c.args.relation.now in
    let x = c.args.delta.now in
    let xs = c.gain_each.new.indexes.items in
    let all = subst (λ (i : RowsData). All (IsIndexOf (with_more r i)) xs) c.inserted.ensures c.in_default.ensures.ok in
    subst (λ (o : RowsData). All (IsBeyond c.apply.new.relation (Has o)) xs) (sym c.deleted.ensures) (all_new r x.inserted xs x.deleted c.apply.new.relation c.in-Ok.ensures.ok all)

pub settle_each-requires-in-Err-apply-clause-beyond : goal.settle_each-requires-in-Err-apply-clause-beyond
settle_each-requires-in-Err-apply-clause-beyond c =
    let r = c.args.relation.now in
    let x = c.args.delta.now in
    let xs = c.gain_each.new.indexes.items in
    let all = subst (λ (i : RowsData). All (IsIndexOf (with_more r i)) xs) c.inserted.ensures c.in_default.ensures.ok in
    subst (λ (q : RowsData). All (IsBeyond q (Has c.inserted-in-Err-apply.result.now)) xs) (sym c.in-Err-apply.ensures.err)
    (subst (λ (i : RowsData). All (IsBeyond r (Has i)) xs) (sym c.inserted-in-Err-apply.ensures) (all_old r x.inserted xs all))

pub settle_each-requires-in-Ok-clause-stays : goal.settle_each-requires-in-Ok-clause-stays
settle_each-requires-in-Ok-clause-stays c =
    let r = c.args.relation.now in
    let x = c.args.delta.now in
    let n = c.apply.new.relation in
    subst (λ (i : RowsData). Tells i n c.deleted.result.now) (sym c.inserted-in-Ok.ensures)
    (subst (λ (o : RowsData). Tells x.inserted n o) (sym c.deleted.ensures) (told_by_inserted r x.inserted x.deleted n c.in-Ok.ensures.ok))
