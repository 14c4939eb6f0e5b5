-- Watched constraints.
use Rattle.std.proofs.Common.{◌≡◌, ◌==◌, ⊎_elim, ℕ, Bool, true, false, List, [], ◌∷◌, length, if◌then◌else◌, Result, Ok, Err, refl, ap, sym, ◌∙◌, eqb-true, ne_eqb, inl, arith}
use Rattle.std.specs.FinSet as set
use Rattle.td_values.specs.Data.{Attrs, Datum, boolean, integer, char, user, tuple, relation}
use Rattle.td_values.specs.Rows.{RowsData}
use Rattle.td_values.specs.Proving.Total.{attrs_order_total}
use Rattle.td_relations.specs.Sets.{body}
use Rattle.td_syntax.specs.declared.tree.BinaryOperator.TheVariants as binary
use Rattle.td_syntax.specs.declared.tree.UnaryOperator.TheVariants as unary
use Rattle.td_typed_trees.specs.declared.tree.Typed.{Typed}
use Rattle.td_algebra.specs.Raising.{and_then}
use Rattle.td_algebra.specs.declared.errors.Stop.{Stop}
use Rattle.td_algebra.specs.declared.errors.Stop.TheVariants.{Untyped}
use Rattle.td_algebra.proofs.Lists.{In}
use Rattle.td_algebra.proofs.Made.{has_in, in_has}
use Rattle.td_headings.specs.Catalogues.{CatalogueData}
use Rattle.td_meaning.specs.Mean.{Meaning, Names, Relvars, Selection, mean, mean_and, mean_both, mean_by, truth_in}
use Rattle.td_meaning.proofs.Forms as forms
use Rattle.td_operators.specs.Operators.{at_most, if_alike, is_subset, of_alike, operate_on, are_equal_headings}
use Rattle.td_operators.specs.Values as operands
use Rattle.td_operators.specs.Values.{rows_of, truth_of}
use Rattle.td_incremental.specs.Growth.{IsWatched, empty, within, around, unread, both}
use Rattle.td_incremental.proofs.Answers.{Grown}
use Rattle.td_incremental.proofs.Spreading.{AreGrownAlike, new_is, old_is, spread}
use Rattle.td_incremental.proofs.Values.{AreGrown, GrownValue}
use Rattle.td_incremental.proofs.Walks.{IsGrown}

-- ---- no tuples
abbrev pub is_nothing : List Attrs → Bool
is_nothing ts = length ts == 0

alike_nothing : (xs ys : List Attrs) → ((t : Attrs) → In t xs → In t ys) → ((t : Attrs) → In t ys → In t xs) → is_nothing xs ≡ is_nothing ys
alike_nothing [] [] there back = refl
alike_nothing [] (y ∷ ys) there back = absurd (back y (inl refl))
alike_nothing (x ∷ xs) [] there back = absurd (there x (inl refl))
alike_nothing (x ∷ xs) (y ∷ ys) there back = ne_eqb (length (x ∷ xs)) 0 (λ e. absurd (omega (arith, e))) ∙ sym (ne_eqb (length (y ∷ ys)) 0 (λ e. absurd (omega (arith, e))))

pub none_in : (ts : List Attrs) → is_nothing ts ≡ true → (t : Attrs) → In t ts → ⊥
none_in [] e t h = h
none_in (u ∷ ts) e t h = let no : length (u ∷ ts) ≡ 0 = eqb-true (length (u ∷ ts)) 0 e in absurd (omega (arith, no))

-- where there was nothing, there is nothing if nothing was gained
still_nothing : (a w b : RowsData) → IsGrown a w b → is_nothing a.tuples ≡ true → is_nothing w.tuples ≡ is_nothing b.tuples
still_nothing a w b g none =
    alike_nothing w.tuples b.tuples
    (λ t m. ⊎_elim (λ there. absurd (none_in a.tuples none t (has_in a t there))) (has_in b t) (g.either t (in_has w t m)))
    (λ t m. has_in w t (g.new t (in_has b t m)))

-- ---- answers that are true
abbrev pub truth_then : Result Datum Stop → Result Bool Stop
truth_then x = and_then x truth_of

abbrev pub emptiness : Result RowsData Stop → Result Datum Stop
emptiness x = and_then x (λ r. Ok (boolean (is_nothing r.tuples)))

pub true_of : (b : Bool) → ◌≡◌ {A = Result Bool Stop} (Ok b) (Ok true) → b ≡ true
true_of b e = cc

by_rows : (x y z : Result RowsData Stop) → AreGrown x y z → truth_then (emptiness x) ≡ Ok true → truth_then (emptiness y) ≡ truth_then (emptiness z)
by_rows (Ok a) (Ok w) (Ok b) g e = ap Ok (still_nothing a w b g (true_of (is_nothing a.tuples) e))
by_rows (Ok a) (Ok w) (Err f) g e = absurd g
by_rows (Ok a) (Err k) z g e = absurd g
by_rows (Err k) y z g e = absurd g

by_values : (x y z : Result Datum Stop) → Grown GrownValue x y z → truth_then (and_then x (operate_on unary.IsEmpty)) ≡ Ok true → truth_then (and_then y (operate_on unary.IsEmpty)) ≡ truth_then (and_then z (operate_on unary.IsEmpty))
by_values (Ok a) (Ok w) (Ok b) g e = by_rows (rows_of a) (rows_of w) (rows_of b) g e
by_values (Ok a) (Ok w) (Err f) g e = absurd g
by_values (Ok a) (Err k) (Ok b) g e = absurd g
by_values (Ok a) (Err k) (Err f) g e = ap Err g
by_values (Err k) y z g e = cc

empty_watched : (f g h : Meaning) (names : Names) → Grown GrownValue (f names) (g names) (h names) → truth_in (mean_by (operate_on unary.IsEmpty) f) names ≡ Ok true → truth_in (mean_by (operate_on unary.IsEmpty) g) names ≡ truth_in (mean_by (operate_on unary.IsEmpty) h) names
unfolding truth_in mean_by
empty_watched f g h names grown e = by_values (f names) (g names) (h names) grown e

-- ---- subsets
pub same_truth : (a b : Bool) → (a ≡ true → b ≡ true) → (b ≡ true → a ≡ true) → a ≡ b
same_truth true b there back = sym (there refl)
same_truth false true there back = back refl
same_truth false false there back = refl

-- where the old tuples are in s, all are in s where the new ones are
still_subset : (a w b s : RowsData) → IsGrown a w b → is_subset a s ≡ true → is_subset w s ≡ is_subset b s
still_subset a w b s g old =
    same_truth (is_subset w s) (is_subset b s)
    (λ all. set.contains-is_subset attrs_order_total (body b) (body s) (λ t h. set.is_subset-contains attrs_order_total (body w) (body s) all t (g.new t h)))
    (λ all. set.contains-is_subset attrs_order_total (body w) (body s) (λ t h.
    ⊎_elim
    (set.is_subset-contains attrs_order_total (body a) (body s) old t)
    (set.is_subset-contains attrs_order_total (body b) (body s) all t)
    (g.either t h)))

if_true : (p q r x y z : Bool) → p ≡ q → r ≡ q → (x ≡ true → y ≡ z) → truth_then (if p then Ok (boolean x) else Err Untyped) ≡ Ok true → truth_then (if q then Ok (boolean y) else Err Untyped) ≡ truth_then (if r then Ok (boolean z) else Err Untyped)
if_true true true true x y z d f each e = ap Ok (each (true_of x e))
if_true true true false x y z d f each e = cc
if_true true false r x y z d f each e = cc
if_true false q r x y z d f each e = cc

abbrev pub inside : Result RowsData Stop → RowsData → Result Datum Stop
inside y r = and_then (and_then y (λ s. Ok (r, s))) (λ (p : RowsData × RowsData). if_alike p.0 p.1 (boolean (is_subset p.0 p.1)))

still_inside : (y : Result RowsData Stop) (a w b : RowsData) → IsGrown a w b → truth_then (inside y a) ≡ Ok true → truth_then (inside y w) ≡ truth_then (inside y b)
still_inside (Ok s) a w b g e = if_true (are_equal_headings a.heading s.heading) (are_equal_headings w.heading s.heading) (are_equal_headings b.heading s.heading) (is_subset a s) (is_subset w s) (is_subset b s) (ap (λ h. are_equal_headings h s.heading) g.old_heading) (ap (λ h. are_equal_headings h s.heading) g.new_heading) (still_subset a w b s g) e
still_inside (Err k) a w b g e = cc

-- relations are compared by inclusion
of_rows : (v d : Datum) (r : RowsData) → rows_of d ≡ Ok r → at_most d v ≡ inside (rows_of v) r
unfolding of_alike
of_rows v (relation h ts) r e = ap (λ x. and_then (operands.both x (rows_of v)) (λ (p : RowsData × RowsData). if_alike p.0 p.1 (boolean (is_subset p.0 p.1)))) e
of_rows v (tuple t) r e = cc
of_rows v (boolean b) r e = cc
of_rows v (integer n) r e = cc
of_rows v (char x) r e = cc
of_rows v (user p is) r e = cc

module _ (v d e g : Datum) where
  by_three : (x y z : Result RowsData Stop) → rows_of d ≡ x → rows_of e ≡ y → rows_of g ≡ z → AreGrown x y z → truth_then (at_most d v) ≡ Ok true → truth_then (at_most e v) ≡ truth_then (at_most g v)
  by_three (Ok a) (Ok w) (Ok b) p q r h is =
      ap truth_then (of_rows v e w q)
      ∙ still_inside (rows_of v) a w b h (sym (ap truth_then (of_rows v d a p)) ∙ is)
      ∙ sym (ap truth_then (of_rows v g b r))
  by_three (Ok a) (Ok w) (Err f) p q r h is = absurd h
  by_three (Ok a) (Err k) z p q r h is = absurd h
  by_three (Err k) y z p q r h is = absurd h

  subset_watched : GrownValue d e g → truth_then (at_most d v) ≡ Ok true → truth_then (at_most e v) ≡ truth_then (at_most g v)
  subset_watched h is = by_three (rows_of d) (rows_of e) (rows_of g) refl refl refl h is

-- the operand that grew, and the other one
abbrev IsSubsetTest : (Result Datum Stop → Result Datum Stop → Result Datum Stop) → Type 0
IsSubsetTest f = (x y z v : Result Datum Stop) → Grown GrownValue x y z → truth_then (f x v) ≡ Ok true → truth_then (f y v) ≡ truth_then (f z v)

below : IsSubsetTest (λ x v. and_then x (λ d. and_then v (at_most d)))
below (Ok a) (Ok w) (Ok b) (Ok v) g e = subset_watched v a w b g e
below (Ok a) (Ok w) (Ok b) (Err f) g e = refl
below (Ok a) (Ok w) (Err f) v g e = absurd g
below (Ok a) (Err k) (Ok b) v g e = absurd g
below (Ok a) (Err k) (Err f) v g e = ap Err g
below (Err k) y z v g e = cc

above : IsSubsetTest (λ x v. and_then v (λ e. and_then x (λ d. at_most d e)))
above (Ok a) (Ok w) (Ok b) (Ok v) g e = subset_watched v a w b g e
above (Ok a) (Ok w) (Err f) (Ok v) g e = absurd g
above (Ok a) (Err k) (Ok b) (Ok v) g e = absurd g
above (Ok a) (Err k) (Err f) (Ok v) g e = ap Err g
above (Err k) y z (Ok v) g e = cc
above x y z (Err f) g e = refl

module _ (f g h m : Meaning) (names : Names) (grown : Grown GrownValue (f names) (g names) (h names)) where
  within_watched : truth_in (mean_both binary.AtMost f m) names ≡ Ok true → truth_in (mean_both binary.AtMost g m) names ≡ truth_in (mean_both binary.AtMost h m) names
  unfolding truth_in mean_both
  within_watched e = below (f names) (g names) (h names) (m names) grown e

  around_watched : truth_in (mean_both binary.AtLeast m f) names ≡ Ok true → truth_in (mean_both binary.AtLeast m g) names ≡ truth_in (mean_both binary.AtLeast m h) names
  unfolding truth_in mean_both
  around_watched e = above (f names) (g names) (h names) (m names) grown e

-- AND is true where both are
abbrev pub and_of : Result Bool Stop → Result Bool Stop → Result Datum Stop
and_of x y = and_then x (λ t. if t then and_then y (λ u. Ok (boolean u)) else Ok (boolean false))

pub both_true : (x y : Result Bool Stop) → truth_then (and_of x y) ≡ Ok true → (x ≡ Ok true) × (y ≡ Ok true)
both_true (Ok true) (Ok true) e = (refl, refl)
both_true (Ok true) (Ok false) e = cc
both_true (Ok true) (Err f) e = cc
both_true (Ok false) y e = cc
both_true (Err f) y e = cc

module _ (f g : Meaning) (names : Names) where
  pub and_true : truth_in (mean_and f g) names ≡ Ok true → (truth_in f names ≡ Ok true) × (truth_in g names ≡ Ok true)
  unfolding truth_in mean_and
  and_true e = both_true (truth_then (f names)) (truth_then (g names)) e

  pub and_same : (h k : Meaning) → truth_in f names ≡ truth_in h names → truth_in g names ≡ truth_in k names → truth_in (mean_and f g) names ≡ truth_in (mean_and h k) names
  unfolding truth_in mean_and
  and_same h k d e = λ i. truth_then (and_of (d i) (e i))

-- ---- constraints
module _ (c : CatalogueData) (n : ℕ) (p : Selection) (r s t : Relvars) (a : AreGrownAlike c n p r s t) (names : Names) where
  abbrev truth : Relvars → Typed → Result Bool Stop
  truth q u = truth_in (mean q p u) names

  pub watched : (u : Typed) → IsWatched c n u → truth r u ≡ Ok true → truth s u ≡ truth t u
  watched u (empty {r = x} h) e =
      ap (λ m. truth_in m names) (forms.of_unary s p unary.IsEmpty x)
      ∙ empty_watched (mean r p x) (mean s p x) (mean t p x) names (spread c n p r s t a x h names) (sym (ap (λ m. truth_in m names) (forms.of_unary r p unary.IsEmpty x)) ∙ e)
      ∙ sym (ap (λ m. truth_in m names) (forms.of_unary t p unary.IsEmpty x))
  watched u (within {r = x} y h never) e =
      ap (λ m. truth_in m names) (forms.of_binary s p binary.AtMost x y)
      ∙ within_watched (mean r p x) (mean s p x) (mean t p x) (mean s p y) names (spread c n p r s t a x h names) (sym (ap (λ m. truth_in m names) (forms.of_binary r p binary.AtMost x y ∙ ap (mean_both binary.AtMost (mean r p x)) (old_is c n p r s t a y never))) ∙ e)
      ∙ sym (ap (λ m. truth_in m names) (forms.of_binary t p binary.AtMost x y ∙ ap (mean_both binary.AtMost (mean t p x)) (new_is c n p r s t a y never)))
  watched u (around {s = y} x never h) e =
      ap (λ m. truth_in m names) (forms.of_binary s p binary.AtLeast x y)
      ∙ around_watched (mean r p y) (mean s p y) (mean t p y) (mean s p x) names (spread c n p r s t a y h names) (sym (ap (λ m. truth_in m names) (forms.of_binary r p binary.AtLeast x y ∙ ap (λ m. mean_both binary.AtLeast m (mean r p y)) (old_is c n p r s t a x never))) ∙ e)
      ∙ sym (ap (λ m. truth_in m names) (forms.of_binary t p binary.AtLeast x y ∙ ap (λ m. mean_both binary.AtLeast m (mean t p y)) (new_is c n p r s t a x never)))
  watched u (unread v h) e = ap (λ m. truth_in m names) (sym (new_is c n p r s t a v h))
  watched u (both {u = x} {v = y} h k) e =
      let is = and_true (mean r p x) (mean r p y) names (sym (ap (λ m. truth_in m names) (forms.of_binary r p binary.And x y)) ∙ e) in
      ap (λ m. truth_in m names) (forms.of_binary s p binary.And x y)
      ∙ and_same (mean s p x) (mean s p y) names (mean t p x) (mean t p y) (watched x h is.0) (watched y k is.1)
      ∙ sym (ap (λ m. truth_in m names) (forms.of_binary t p binary.And x y))
