use Rattle.std.proofs.Common.{◌≡◌, List, get_or, length, sym, ap, ◌∙◌, subst, arith}
use Rattle.std.specs.List.{All}
use Rattle.td_values.specs.Data.{Attrs}
use Rattle.td_values.specs.Rows.{RowsData}
use Rattle.td_algebra.specs.KeyIndexes.{HasOther, IsReplaceable, KeyIndexData}
use Rattle.td_bases.specs.ForProofs.Keyed.{IsIndexOf}
use Rattle.td_bases.proofs.Keyed.{only_first}
use Rattle.td_bases.proofs.Replacing.{replaced, was_there}
use Rattle.td_bases.proofs.base.change_at.Goals as goal

pub returns-clause-of : goal.returns-clause-of
returns-clause-of c =
    let r = c.args.relation.now in
    let d = c.args.delta.now in
    let n = c.apply.new.relation in
    let xs = c.args.indexes.now.items in
    let q = c.requires.at in
    let m = c.in_ok-more.more in
    let t = c.index-tuples-0.result in
    let v = c.index_mut.result.now in
    let y = c.replace_at.new.self in
    let index : IsIndexOf r q.index = subst (All (IsIndexOf r)) q.only_index c.requires.of 0 q.index (omega arith) in
    let comes : m ≡ q.more = c.in_ok-more.ensures ∙ c.index-tuples-0.is ∙ ap (λ (ts : List Attrs). get_or ts 0 t) (c.tuples.ensures.all ∙ ap (λ (s : RowsData). s.tuples) c.inserted-2.ensures ∙ q.only_more) in
    let lent : v ≡ q.index = c.index_mut.ensures.value ∙ ap (λ (zs : List KeyIndexData). get_or zs 0 v) q.only_index in
    let place : IsReplaceable q.gone m v c.args.at = subst (λ u. IsReplaceable q.gone u v c.args.at) (sym comes) (subst (λ z. IsReplaceable q.gone q.more z c.args.at) (sym lent) q.replaceable) in
    let other : HasOther q.gone q.more q.index y = subst (λ z. HasOther q.gone q.more z y) lent (subst (λ u. HasOther q.gone u v y) comes (c.replace_at.ensures q.gone place)) in
    let few = ap (λ (zs : List KeyIndexData). length zs) q.only_index in
    only_first (IsIndexOf n) xs y (omega (arith, few))
    (replaced r d.deleted d.inserted n q.gone q.more q.only_gone q.only_more q.fresh (was_there r q.index q.gone q.more c.args.at index q.replaceable) c.in_ok-apply.ensures.ok q.index y c.rows_fit.ensures.ascending index other)
