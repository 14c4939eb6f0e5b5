use Rattle.std.proofs.Common.{◌≡◌, ◌∷◌, [], ◌++◌, ◌<◌, List, length, refl, sym, ap, ◌∙◌, subst, arith}
use Rattle.std.specs.List.{All}
use Rattle.std.proofs.lemmas.List.{length-append}
use Rattle.std.proofs.lemmas.List.Elements.{All-push}
use Rattle.td_algebra.specs.KeyIndexes.{KeyIndexData}
use Rattle.td_bases.specs.ForProofs.Keyed.{IsIndexOf, first_key}
use Rattle.td_bases.proofs.by_keys.add_each.Goals as goal

same_first : (xs : List KeyIndexData) (x : KeyIndexData) → 0 < length xs → first_key (xs ++ x ∷ []) ≡ first_key xs
same_first [] x some = absurd (omega (arith, some))
same_first (y ∷ xs) x some = refl

pub loop-key-preserved : goal.loop-key-preserved
loop-key-preserved c =
    let r = c.args.relation.now in
    let xs = c.loop-key.indexes.items in
    let x = c.in_ok-new.field-0 in
    let is = c.in_ok-push.ensures.items in
    let made = c.in_ok-new.ensures in
    record {
      some = omega (arith, ap (λ (ys : List KeyIndexData). length ys) is, length-append xs (x ∷ []), c.loop-key.invariant.some);
      each = subst (All (IsIndexOf r)) (sym is) (All-push (IsIndexOf r) xs x c.loop-key.invariant.each (record { heading = made.heading; key = refl; tuples = made.tuples }));
      first = ap first_key is ∙ same_first xs x c.loop-key.invariant.some ∙ c.loop-key.invariant.first;
    }
