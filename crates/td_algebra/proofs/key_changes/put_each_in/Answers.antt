use Rattle.std.proofs.Common.{◌≡◌, ◌∷◌, ◌++◌, List, ap, subst, length, rules, arith}
use Rattle.std.specs.List.Sorted.{IsPermutation}
use Rattle.std.specs.Vec.Iter.{into_iter_items}
use Rattle.std.proofs.lemmas.List.Sorted.{IsPermutation-append_right, IsPermutation-middle, IsPermutation-refl, IsPermutation-sym, IsPermutation-trans, length_permutation}
use Rattle.td_values.specs.Data.{Attrs}
use Rattle.td_algebra.proofs.key_changes.put_each_in.Goals as goal

pub loop-tuple-init : goal.loop-tuple-init
loop-tuple-init c =
    let seen : c.args.tuples.items ≡ into_iter_items c.into_iter-tuple-iterator.result = search rules in
    let old = c.args.entries.now.items in
    record {
      more = subst (λ (xs : List Attrs). IsPermutation (c.args.tuples.items ++ old) (xs ++ old)) seen (IsPermutation-refl (c.args.tuples.items ++ old));
      room = omega (arith, ap length seen);
      sorted = c.requires.sorted;
    }

pub loop-tuple-preserved : goal.loop-tuple-preserved
loop-tuple-preserved c =
    let t = c.in-Some.tuple in
    let rest = into_iter_items c.next.new.self in
    let before = c.loop-tuple.entries.items in
    let after = c.put_in.new.entries.items in
    let step = c.in-Some.ensures.steps.0 in
    let all = c.args.tuples.items ++ c.args.entries.now.items in
    let one = c.in-Ok.ensures.more in
    record {
      more = IsPermutation-trans all ((t ∷ rest) ++ before) (rest ++ after) (subst (λ (xs : List Attrs). IsPermutation all (xs ++ before)) step c.loop-tuple.invariant.more)
          (IsPermutation-trans ((t ∷ rest) ++ before) (rest ++ t ∷ before) (rest ++ after) (IsPermutation-sym (rest ++ t ∷ before) ((t ∷ rest) ++ before) (IsPermutation-middle rest t before)) (IsPermutation-append_right rest (t ∷ before) after one));
      room = omega (arith, ap length step, length_permutation (t ∷ before) after one);
      sorted = c.put_in.ensures.sorted;
    }
