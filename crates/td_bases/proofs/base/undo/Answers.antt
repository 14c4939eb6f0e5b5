use Rattle.std.proofs.Common.{sym, ◌∙◌, subst}
use Rattle.std.specs.List.{All}
use Rattle.td_values.specs.Rows.{RowsData}
use Rattle.td_relations.specs.Sets.{Has}
use Rattle.td_bases.specs.ForProofs.Keyed.{IsBeyond, IsIndexOf, Tells, with_more}
use Rattle.td_bases.proofs.Keyed.{all_new, all_old, told_by_inserted}
use Rattle.td_bases.proofs.base.undo.Goals as goal

pub settle_each-requires-clause-beyond : goal.settle_each-requires-clause-beyond
settle_each-requires-clause-beyond c =
    let r = c.args.relation.now in
    let xs = c.gain_each.new.indexes.items in
    subst (λ (i : RowsData). All (IsBeyond r (Has i)) xs) (c.deleted.ensures ∙ sym c.deleted-in-Err.ensures) c.in-Err.ensures.err

pub settle_each-requires-in-Ok-clause-beyond : goal.settle_each-requires-in-Ok-clause-beyond
settle_each-requires-in-Ok-clause-beyond c =
    let r = c.args.relation.now in
    let x = c.args.delta.now in
    let xs = c.gain_each.new.indexes.items in
    let all = subst (λ (i : RowsData). All (IsIndexOf (with_more r i)) xs) c.deleted.ensures c.in_default.ensures.ok in
    subst (λ (o : RowsData). All (IsBeyond c.apply_inverse.new.relation (Has o)) xs) (sym c.inserted.ensures) (all_new r x.deleted xs x.inserted c.apply_inverse.new.relation c.in-Ok.ensures.ok all)

pub settle_each-requires-in-Err-apply_inverse-clause-beyond : goal.settle_each-requires-in-Err-apply_inverse-clause-beyond
settle_each-requires-in-Err-apply_inverse-clause-beyond c =
    let r = c.args.relation.now in
    let x = c.args.delta.now in
    let xs = c.gain_each.new.indexes.items in
    let all = subst (λ (i : RowsData). All (IsIndexOf (with_more r i)) xs) c.deleted.ensures c.in_default.ensures.ok in
    subst (λ (q : RowsData). All (IsBeyond q (Has c.deleted-in-Err-apply_inverse.result.now)) xs) (sym c.in-Err-apply_inverse.ensures.err)
    (subst (λ (i : RowsData). All (IsBeyond r (Has i)) xs) (sym c.deleted-in-Err-apply_inverse.ensures) (all_old r x.deleted xs all))

pub settle_each-requires-in-Ok-clause-stays : goal.settle_each-requires-in-Ok-clause-stays
settle_each-requires-in-Ok-clause-stays c =
    let r = c.args.relation.now in
    let x = c.args.delta.now in
    let n = c.apply_inverse.new.relation in
    subst (λ (i : RowsData). Tells i n c.inserted.result.now) (sym c.deleted-in-Ok.ensures)
    (subst (λ (o : RowsData). Tells x.deleted n o) (sym c.inserted.ensures) (told_by_inserted r x.deleted x.inserted n c.in-Ok.ensures.ok))
