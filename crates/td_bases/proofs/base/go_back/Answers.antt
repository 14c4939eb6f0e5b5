use Rattle.std.proofs.Common.{sym, ap, ◌∙◌, subst}
use Rattle.std.specs.List.{All}
use Rattle.std.specs.List.Sorted.{IsStrictlySortedBy}
use Rattle.std.proofs.lemmas.List.Elements.{All-take}
use Rattle.td_values.specs.Order.{attrs_order}
use Rattle.td_values.specs.Rows.{RowsData}
use Rattle.td_relations.specs.Sets.{Has}
use Rattle.td_bases.specs.ForProofs.Keyed.{IsBeyond, IsIndexOf, keys_of}
use Rattle.td_bases.proofs.Keyed.{all_less, merged, one_at_least, one_at_most, only_first}
use Rattle.td_bases.proofs.Returning.{apart_from_left, gone_back, there_is_room}
use Rattle.td_bases.proofs.base.go_back.Goals as goal

pub settle_each-requires-clause-beyond : goal.settle_each-requires-clause-beyond
settle_each-requires-clause-beyond c =
    let r = c.args.relation.now in
    let n = c.take_inserted.new.relation in
    let xs = c.truncate.new.self.items in
    let all = subst (All (IsIndexOf r)) (sym c.truncate.ensures.items) (All-take (IsIndexOf r) 1 c.args.indexes.now.items c.requires.of) in
    subst (λ (i : RowsData). All (IsBeyond n (Has i)) xs) (sym c.inserted.ensures) (all_less r c.args.delta.now.inserted n xs c.rows_fit.ensures.ascending c.take_inserted.ensures all)

pub refill-requires-clause-room : goal.refill-requires-clause-room
refill-requires-clause-room c =
    let k = c.requires.way in
    there_is_room k.0 c.args.relation.now c.take_inserted.new.relation c.args.delta.now c.args.way k.1 k.2 c.take_inserted.ensures

pub returns-clause-of : goal.returns-clause-of
returns-clause-of c =
    let k = c.requires.way in
    let left = c.take_inserted.new.relation in
    let new = c.refill.new.relation in
    let d = c.args.delta.now in
    let w = c.args.way in
    let zs = c.settle_each.new.indexes.items in
    let x = c.index_mut.result.now in
    let y = c.refill.new.index in
    let keys = c.settle_each.ensures.keys ∙ ap keys_of c.truncate.ensures.items in
    let some = one_at_least c.args.indexes.now.items zs keys c.requires.some in
    let of = subst (IsIndexOf left) (sym c.index_mut.ensures.value) (c.settle_each.ensures.of 0 x some) in
    let rises = subst (IsStrictlySortedBy attrs_order) (ap (λ (q : RowsData). q.tuples) c.deleted.ensures ∙ sym k.1.deleted) c.rows_fit-2.ensures.ascending in
    only_first (IsIndexOf new) zs y (one_at_most c.args.indexes.now.items zs keys)
    (merged w.deleted left new x y c.take_inserted.ensures.ascending rises (apart_from_left k.0 c.args.relation.now left d w k.1 k.2 c.take_inserted.ensures) of c.refill.ensures.relation c.refill.ensures.index)

pub returns-clause-back : goal.returns-clause-back
returns-clause-back c =
    let k = c.requires.way in
    gone_back k.0 c.args.relation.now c.take_inserted.new.relation c.args.delta.now c.args.way k.1 k.2 c.take_inserted.ensures c.refill.new.relation c.refill.ensures.relation
