-- The measures of the recursion: an item of a list is no deeper than the list, and a list less deep than the form it is
-- in.
use Rattle.std.proofs.Common.{◌≡◌, ◌≤◌, ◌<◌, ◌+◌, ◌*◌, ℕ, zero, suc, max, List, [], ◌∷◌, length, get_or, ap, ◌∙◌, arith}
use Rattle.td_values.specs.Headings.{Header}
use Rattle.td_syntax.specs.declared.tree.Named.{Named}
use Rattle.td_tuples.specs.declared.items.Item.{Item}
use Rattle.td_tuples.specs.declared.items.Summary.{Summary}
use Rattle.td_typed_trees.specs.declared.tree.TypedGroups.{TypedGroups}
use Rattle.td_typed_trees.specs.declared.tree.Typed.{Typed}
use Rattle.td_typed_trees.specs.declared.tree.Typed.TheVariants as t
use Rattle.td_meaning.specs.ForProofs.Levels.{levels, list_levels, item_levels, named_levels, summary_levels, summaries_levels, groups_levels}
use Rattle.td_meaning.proofs.Depths.{of_select, of_relation, of_tuple, of_extend, of_with, of_summarize}

list_item : (xs : List Typed) (i : ℕ) (d : Typed) → i < length xs → levels (get_or xs i d) ≤ list_levels xs
list_item [] i d h = omega (arith, h)
list_item (x ∷ xs) zero d h = omega arith
list_item (x ∷ xs) (suc i) d h = omega (arith, list_item xs i d (omega (arith, h)))

term_item : (xs : List (Item Typed)) (i : ℕ) (d : Item Typed) → i < length xs → levels (get_or xs i d).term ≤ item_levels xs
term_item [] i d h = omega (arith, h)
term_item (x ∷ xs) zero d h = omega arith
term_item (x ∷ xs) (suc i) d h = omega (arith, term_item xs i d (omega (arith, h)))

named_item : (xs : List (Named Typed)) (i : ℕ) (d : Named Typed) → i < length xs → levels (get_or xs i d).value ≤ named_levels xs
named_item [] i d h = omega (arith, h)
named_item (x ∷ xs) zero d h = omega arith
named_item (x ∷ xs) (suc i) d h = omega (arith, named_item xs i d (omega (arith, h)))

pub summary_item : (xs : List (Item (Summary Typed))) (i : ℕ) (d : Item (Summary Typed)) → i < length xs → summary_levels (get_or xs i d).term ≤ summaries_levels xs
summary_item [] i d h = omega (arith, h)
summary_item (x ∷ xs) zero d h = omega arith
summary_item (x ∷ xs) (suc i) d h = omega (arith, summary_item xs i d (omega (arith, h)))

-- an item x of the list, as it is read, and its part a
pub in_list : (xs : List Typed) (i : ℕ) (x a : Typed) → i < length xs → x ≡ get_or xs i x → a ≡ x → levels a ≤ list_levels xs
in_list xs i x a h is value = let e = ap levels value ∙ ap levels is in omega (arith, e, list_item xs i x h)

pub in_items : (xs : List (Item Typed)) (i : ℕ) (x : Item Typed) (a : Typed) → i < length xs → x ≡ get_or xs i x → a ≡ x.term → levels a ≤ item_levels xs
in_items xs i x a h is value = let e = ap levels value ∙ ap (λ (y : Item Typed). levels y.term) is in omega (arith, e, term_item xs i x h)

pub in_named : (xs : List (Named Typed)) (i : ℕ) (x : Named Typed) (a : Typed) → i < length xs → x ≡ get_or xs i x → a ≡ x.value → levels a ≤ named_levels xs
in_named xs i x a h is value = let e = ap levels value ∙ ap (λ (y : Named Typed). levels y.value) is in omega (arith, e, named_item xs i x h)

-- ---- a form with a list, as its parts are handed on
pub select_falls : (a : Typed) (n : ℕ) (xs ys : List Typed) → a ≡ t.Select n xs → ys ≡ xs → 12 * list_levels ys + 5 < 12 * levels a
select_falls a n xs ys is same = omega (arith, ap levels is, of_select n xs, ap list_levels same)

pub relation_falls : (a : Typed) (h : Header) (xs ys : List Typed) → a ≡ t.Relation h xs → ys ≡ xs → 12 * list_levels ys + 3 < 12 * levels a
relation_falls a h xs ys is same = omega (arith, ap levels is, of_relation h xs, ap list_levels same)

pub tuple_falls : (a : Typed) (xs ys : List (Item Typed)) → a ≡ t.Tuple xs → ys ≡ xs → 12 * item_levels ys + 3 < 12 * levels a
tuple_falls a xs ys is same = omega (arith, ap levels is, of_tuple xs, ap item_levels same)

pub extend_falls : (a b c : Typed) (xs ys : List (Item Typed)) → a ≡ t.Extend b xs → c ≡ b → ys ≡ xs → 12 * max (levels c) (item_levels ys) + 8 < 12 * levels a
extend_falls a b c xs ys is one same = omega (arith, ap levels is, of_extend b xs, ap levels one, ap item_levels same)

pub with_falls : (a b c : Typed) (xs ys : List (Named Typed)) → a ≡ t.With xs b → c ≡ b → ys ≡ xs → 12 * max (named_levels ys) (levels c) + 3 < 12 * levels a
with_falls a b c xs ys is one same = omega (arith, ap levels is, of_with xs b, ap levels one, ap named_levels same)

pub summarize_falls : (a b c : Typed) (g : TypedGroups Typed) (xs ys : List (Item (Summary Typed))) → a ≡ t.Summarize b g xs → c ≡ b → ys ≡ xs → 12 * max (levels c) (max (groups_levels g) (summaries_levels ys)) + 8 < 12 * levels a
summarize_falls a b c g xs ys is one same = omega (arith, ap levels is, of_summarize b g xs, ap levels one, ap summaries_levels same)
