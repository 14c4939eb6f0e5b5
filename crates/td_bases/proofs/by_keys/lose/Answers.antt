use Rattle.std.proofs.Common.{◌+◌, refl, ap, sym, ◌∙◌, subst}
use Rattle.td_algebra.specs.KeyIndexes.{KeyIndexData}
use Rattle.td_bases.specs.ForProofs.Keyed.{IsBeyond, IsLeft}
use Rattle.td_bases.proofs.Keyed.{all_left, none_left, passed, same_key_left, settled, stands_in, taken}
use Rattle.td_bases.proofs.by_keys.lose.Goals as goal
use Rattle.td_bases.proofs.by_keys.lose.Goals.{then-not-contains, else-not-contains}

pub loop-tuple-init : goal.loop-tuple-init
loop-tuple-init c = record { beyond = all_left c.args.relation.now c.args.gone.now c.tuples-tuple-items.result.now c.tuples-tuple-items.ensures.all c.args.index.now c.requires.beyond; key = refl }

pub loop-tuple-preserved : goal.loop-tuple-preserved
loop-tuple-preserved c =
    let r = c.args.relation.now in
    let ts = c.tuples-tuple-items.result.now in
    let k = c.loop-tuple.tuple-index in
    let t = c.tuple-item.result in
    let x = c.loop-tuple.index in
    let b = c.loop-tuple.invariant.beyond in
    let told = c.requires.stays t (stands_in c.args.gone.now ts k t c.tuples-tuple-items.ensures.all c.loop-tuple-test.true c.tuple-item.is) in
    elim c.if-not-contains.branch [
      | then-not-contains w ↦
          let y = w.remove.new.self in
          let e = w.remove.ensures in
          let lacks = told ∙ sym c.contains.ensures ∙ w.if-not-contains.true in
          record {
            beyond = subst (λ (z : KeyIndexData). IsBeyond r (IsLeft (k + 1) ts) z) (sym w.index-is) (taken r ts k t c.tuple-item.is x b y lacks w.remove.result e.was e.gone e.absent);
            key = ap (λ (z : KeyIndexData). z.key) w.index-is ∙ same_key_left r ts k t c.tuple-item.is x b y lacks w.remove.result e.gone e.absent ∙ c.loop-tuple.invariant.key;
          }
      | else-not-contains w ↦
          record {
            beyond = subst (λ (z : KeyIndexData). IsBeyond r (IsLeft (k + 1) ts) z) (sym w.index-is) (passed r ts k t c.tuple-item.is x b (told ∙ sym c.contains.ensures ∙ w.if-not-contains.false));
            key = ap (λ (z : KeyIndexData). z.key) w.index-is ∙ c.loop-tuple.invariant.key;
          }
    ]

pub returns-clause-of : goal.returns-clause-of
returns-clause-of c =
    let ts = c.tuples-tuple-items.result.now in
    let k = c.loop-tuple.tuple-index in
    settled c.args.relation.now (IsLeft k ts) c.loop-tuple.index c.rows_fit.ensures.ascending (none_left ts k c.loop-tuple-test.false) c.loop-tuple.invariant.beyond
