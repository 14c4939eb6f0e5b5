use Rattle.std.proofs.Common.{ℕ, List, ◌∙◌, ap, sym, subst}
use Rattle.std.specs.List.{filter}
use Rattle.std.specs.List.Sorted.{IsPermutation}
use Rattle.td_algebra.specs.KeyIndexes.{KeyIndexData, has_named}
use Rattle.td_bases.specs.Bases.{BaseData}
use Rattle.td_bases.specs.ForProofs.Keyed.{IsIndexOf}
use Rattle.td_bases.proofs.Keyed.{first_is}
use Rattle.td_bases.proofs.Lists.{permuted_filter}
use Rattle.td_bases.proofs.base.Base.with_key.Goals as goal

pub returns : goal.returns
returns c =
    let s = c.self.inside in
    let t = c.args.values.now in
    let x = c.index.result.now in
    let p = has_named x.key t in
    let of = subst (IsIndexOf s.relation) (sym c.index.ensures) (c.self.invariant.each 0 x c.self.invariant.some) in
    let here = subst (IsPermutation (filter p s.relation.tuples)) (sym c.with_key.ensures) (permuted_filter p s.relation.tuples x.tuples of.tuples) in
    let key = ap (λ (z : KeyIndexData). z.key) c.index.ensures ∙ first_is s.indexes.items x c.self.invariant.some in
    subst (λ (b : BaseData). IsPermutation (filter (has_named b.key t) b.rows.tuples) c.with_key.result.now) c.self.view_is
    (subst (λ (k : List (List ℕ)). IsPermutation (filter (has_named k t) s.relation.tuples) c.with_key.result.now) key here)
