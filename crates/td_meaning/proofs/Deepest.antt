-- The deepest of some expressions.
use Rattle.std.proofs.Common.{◌≡◌, ◌⊎◌, ⊎_elim, sym, ◌≤◌, ◌<◌, ◌++◌, length, get_or, ℕ, zero, suc, max, List, [], ◌∷◌, Bor, take, ap, ◌∙◌, arith}
use Rattle.td_values.specs.Headings.{Header}
use Rattle.td_tuples.specs.declared.items.Summary.{Summary}
use Rattle.td_tuples.specs.declared.items.Summary.TheVariants as summary
use Rattle.td_typed_trees.specs.declared.tree.Typed.{Typed}
use Rattle.td_typed_trees.specs.declared.tree.Typed.TheVariants as t
use Rattle.td_meaning.specs.ForProofs.Levels.{levels, list_levels, summary_levels}
use Rattle.td_meaning.specs.ForProofs.Right.{deepest_in}
use Rattle.td_meaning.proofs.Depths.{of_relation, of_select}

pub front_is_no_deeper : (n : ℕ) (xs : List (Bor Typed)) → deepest_in (take n xs) ≤ deepest_in xs
front_is_no_deeper zero xs = omega arith
front_is_no_deeper (suc n) [] = omega arith
front_is_no_deeper (suc n) (x ∷ xs) = omega (arith, front_is_no_deeper n xs)

pub one_more_deep : (xs : List (Bor Typed)) (x : Bor Typed) → deepest_in (xs ++ x ∷ []) ≡ max (deepest_in xs) (levels x.now)
one_more_deep [] x = omega arith
one_more_deep (y ∷ xs) x = omega (arith, one_more_deep xs x)

pub select_levels : (a : Typed) (n : ℕ) (xs : List Typed) → a ≡ t.Select n xs → levels a ≡ suc (list_levels xs)
select_levels a n xs is = ap levels is ∙ of_select n xs

pub relation_levels : (a : Typed) (h : Header) (xs : List Typed) → a ≡ t.Relation h xs → levels a ≡ suc (list_levels xs)
relation_levels a h xs is = ap levels is ∙ of_relation h xs

pub in_deepest : (xs : List (Bor Typed)) (i : ℕ) (x : Bor Typed) → i < length xs → x ≡ get_or xs i x → levels x.now ≤ deepest_in xs
in_deepest xs i x h is = omega (arith, ap (λ (y : Bor Typed). levels y.now) is, one_of xs i x h)
  where
    one_of : (xs : List (Bor Typed)) (i : ℕ) (d : Bor Typed) → i < length xs → levels (get_or xs i d).now ≤ deepest_in xs
    one_of [] i d h = omega (arith, h)
    one_of (x ∷ xs) zero d h = omega arith
    one_of (x ∷ xs) (suc i) d h = omega (arith, one_of xs i d (omega (arith, h)))

-- the term of a summary that has one
pub of_its_term : (s : Summary Typed) (a : Typed) → (s ≡ summary.Sum a) ⊎ ((s ≡ summary.Max a) ⊎ ((s ≡ summary.Min a) ⊎ ((s ≡ summary.And a) ⊎ (s ≡ summary.Or a)))) → levels a ≡ summary_levels s
of_its_term s a is = ⊎_elim (λ e. sym (ap summary_levels e)) (λ q. ⊎_elim (λ e. sym (ap summary_levels e)) (λ r. ⊎_elim (λ e. sym (ap summary_levels e)) (λ o. ⊎_elim (λ e. sym (ap summary_levels e)) (λ e. sym (ap summary_levels e)) o) r) q) is
