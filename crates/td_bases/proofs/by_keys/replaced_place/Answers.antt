use Rattle.std.proofs.Common.{◌≡◌, List, false, get_or, length, sym, ap, ◌∙◌, arith}
use Rattle.std.specs.FinSet as set
use Rattle.td_values.specs.Data.{Attrs}
use Rattle.td_relations.specs.Sets.{body}
use Rattle.td_algebra.specs.KeyIndexes.{IsReplaceable}
use Rattle.td_algebra.proofs.ByKey.{when_some}
use Rattle.td_bases.specs.ForProofs.Keyed.{IsReplaced}
use Rattle.td_relations.proofs.Between.{only_one}
use Rattle.td_bases.proofs.Replacing.{only_index}
use Rattle.td_bases.proofs.by_keys.replaced_place.Goals as goal

pub returns-then-tuples-eq1-2 : goal.returns-then-tuples-eq1-2
returns-then-tuples-eq1-2 c =
    let r = c.args.relation.now in
    let o = c.args.deleted.now in
    let i = c.args.inserted.now in
    let x = c.index-indexes-0.result in
    let gone = c.index-tuples-0.result in
    let more = c.index-tuples-0-then-tuples-eq1-2.result in
    when_some c.place_for.result (IsReplaceable gone more x) (λ _. set.contains (body r) more ≡ false) (IsReplaced r c.args.indexes.now o i)
    (λ at place fresh. record {
      index = x;
      gone = gone;
      more = more;
      only_index = only_index c.args.indexes.now x (omega (arith, c.if-indexes-eq1.true)) c.index-indexes-0.is;
      only_gone = only_one o.tuples gone (ap (λ (ts : List Attrs). length ts) (sym c.tuples.ensures.all) ∙ (omega (arith, c.if-tuples-eq1.true))) (c.index-tuples-0.is ∙ ap (λ (ts : List Attrs). get_or ts 0 gone) c.tuples-then-tuples-eq1-2.ensures.all);
      only_more = only_one i.tuples more (ap (λ (ts : List Attrs). length ts) (sym c.tuples-then-tuples-eq1.ensures.all) ∙ (omega (arith, c.if-tuples-eq1-2.true))) (c.index-tuples-0-then-tuples-eq1-2.is ∙ ap (λ (ts : List Attrs). get_or ts 0 more) c.tuples-then-tuples-eq1-2-2.ensures.all);
      replaceable = place;
      fresh = fresh;
    }) c.place_for.ensures.place c.place_for.ensures.fresh
