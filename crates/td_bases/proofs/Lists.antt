-- Lists of tuples that are filtered, and truth values.
use Rattle.std.proofs.Common.{◌≡◌, ◌↔◌, ℕ, Bool, true, false, ◌+◌, cond, List, [], ◌∷◌, refl, sym, ap, ◌∙◌, arith}
use Rattle.std.specs.FinSet as set
use Rattle.std.specs.List.{filter, sum_by}
use Rattle.std.specs.List.Sorted.{IsPermutation}
use Rattle.std.proofs.lemmas.List.Sorted.{sum_by-IsPermutation}
use Rattle.std.proofs.lemmas.List.Sums.{sum_by-cons}
use Rattle.td_values.specs.Data.{Attrs}
use Rattle.td_relations.specs.Sets.{tuple_set}
use Rattle.td_relations.proofs.Members.{contains_listed}
use Rattle.td_algebra.proofs.KeyLaws.{by_counts}
use Rattle.td_algebra.proofs.Lists.{contains_in, filter_in, in_contains, in_filter}

pub one_bool : (a b : Bool) → (a ≡ true → b ≡ true) → (b ≡ true → a ≡ true) → a ≡ b
one_bool true b f g = sym (f refl)
one_bool false true f g = g refl
one_bool false false f g = refl

-- ---- a tuple is in a filtered list where it is in the list and passes
pub same_filter : (p : Attrs → Bool) (xs : List Attrs) (t : Attrs) → (set.contains (tuple_set (filter p xs)) t ≡ true) ↔ ((set.contains (tuple_set xs) t ≡ true) × (p t ≡ true))
same_filter p xs t = (
  λ h. let at = in_filter p xs t (contains_in (filter p xs) t ((contains_listed (filter p xs) t).0 h)) in ((contains_listed xs t).1 (in_contains xs t at.0), at.1),
  λ h. (contains_listed (filter p xs) t).1 (in_contains (filter p xs) t (filter_in p xs t (contains_in xs t ((contains_listed xs t).0 h.0)) h.1)),
)

-- ---- the same filter of lists of which one is a permutation of the other
sum_filter : (p : Attrs → Bool) (f : Attrs → ℕ) (xs : List Attrs) → sum_by f (filter p xs) ≡ sum_by (λ x. cond (p x) (f x) 0) xs
sum_filter p f [] = refl
sum_filter p f (x ∷ xs) =
    let g = λ (y : Attrs). cond (p y) (f y) 0 in
    let rest = sum_filter p f xs in
    let whole = λ (b : Bool) (e : p x ≡ b). sum_by-cons g x xs ∙ ap (λ (c : Bool). cond c (f x) 0 + sum_by g xs) e in
    elim (p x) as (λ b. p x ≡ b → sum_by f (cond b (x ∷ filter p xs) (filter p xs)) ≡ sum_by g (x ∷ xs)) [
      | true ↦ λ e. sum_by-cons f x (filter p xs) ∙ (λ i. f x + rest i) ∙ sym (whole true e)
      | false ↦ λ e. let none : sum_by g xs ≡ 0 + sum_by g xs = omega arith in rest ∙ none ∙ sym (whole false e)
    ] refl

pub permuted_filter : (p : Attrs → Bool) (xs ys : List Attrs) → IsPermutation xs ys → IsPermutation (filter p xs) (filter p ys)
permuted_filter p xs ys moved = by_counts (filter p xs) (filter p ys) (λ f.
    sum_filter p f xs ∙ sym (sum_by-IsPermutation (λ x. cond (p x) (f x) 0) xs ys moved) ∙ sym (sum_filter p f ys))
