-- What has all that it had where a relvar grows.
use Rattle.std.proofs.Common.{◌≡◌, inl, ℕ, Bool, true, false, List, [], ◌∷◌, if◌then◌else◌, Result, Ok, Err, refl, ap, sym, ◌∙◌, subst}
use Rattle.std.specs.Prelude.{slice_get}
use Rattle.std.specs.FinSet as set
use Rattle.std.specs.List.{filter_map}
use Rattle.td_values.specs.Data.{Attrs, Datum, boolean, integer, char, user, tuple, relation}
use Rattle.td_values.specs.Proving.Total.{attrs_order_total}
use Rattle.td_values.specs.Rows.{RowsData}
use Rattle.td_relations.specs.Sets.{Has, body}
use Rattle.td_syntax.specs.declared.tree.BinaryOperator.TheVariants as binary
use Rattle.td_syntax.specs.declared.tree.UnaryOperator.TheVariants as unary
use Rattle.td_typed_trees.specs.declared.tree.Typed.{Typed}
use Rattle.td_typed_trees.specs.declared.tree.Typed.TheVariants as tree
use Rattle.td_algebra.specs.Functions.{matching_of, not_matching_of, project_of, rename_of}
use Rattle.td_values.specs.Headings.{header_of}
use Rattle.td_values.specs.Order.{text_cmp}
use Rattle.std.specs.Prelude.{int_le}
use Rattle.std.specs.Ordering.{is_le}
use Rattle.td_algebra.specs.Nested.{tuple_list}
use Rattle.td_algebra.proofs.Lists.{In}
use Rattle.td_algebra.specs.Raising.{and_then}
use Rattle.td_algebra.specs.declared.errors.Stop.{Stop}
use Rattle.td_algebra.specs.declared.errors.Stop.TheVariants.{Untyped}
use Rattle.td_algebra.proofs.Bridges.{minus_is}
use Rattle.td_algebra.proofs.Made.{has_in, in_has}
use Rattle.td_headings.specs.Catalogues.{CatalogueData}
use Rattle.td_headings.specs.Expressions.{virtual_at}
use Rattle.td_headings.specs.Reached.{is_base}
use Rattle.td_meaning.specs.Mean.{Meaning, Names, Relvars, Selection, mean, mean_and, mean_both, mean_by, mean_relvar, rows_in, truth_in}
use Rattle.td_meaning.proofs.Forms as forms
use Rattle.td_operators.specs.Operators.{as_value, at_most, is_subset, of_alike, of_relations, operate, operate_on, part_at, are_equal_headings, with_new_names}
use Rattle.td_operators.specs.Values as operands
use Rattle.td_operators.specs.Values.{integer_of, rows_of, text_of, truth_of}
use Rattle.td_semantics.specs.Meanings.{no_names, with_virtuals}
use Rattle.td_incremental.specs.Growth.{IsUnread}
use Rattle.td_incremental.specs.Safety.{IsSafe, Widens, itself, virtual, project, rename, matched, within, around, unread, both}
use Rattle.td_incremental.proofs.Constraints.{and_of, and_true, emptiness, inside, is_nothing, none_in, true_of, truth_then}
use Rattle.td_incremental.proofs.Operators.{matching_it, projected, renamed_grown}
use Rattle.td_incremental.proofs.Values.{AreGrown, GrownValue, as_grown, part_of_rows, rows_back}
use Rattle.td_incremental.proofs.Virtuals.{Alike, all_alike, old_same}
use Rattle.td_incremental.proofs.Walks.{IsGrown}

-- ---- answers before and after
abbrev pub IsWider : RowsData → RowsData → Type 0
IsWider a w = IsGrown w w a

abbrev pub Wider : Result RowsData Stop → Result RowsData Stop → Type 0
Wider (Ok a) (Ok w) = IsWider a w
Wider (Ok a) (Err e) = ⊥
Wider (Err e) y = Unit {0}

abbrev pub WiderValue : Datum → Datum → Type 0
WiderValue d e = GrownValue e e d

abbrev pub WiderAnswer : Result Datum Stop → Result Datum Stop → Type 0
WiderAnswer (Ok d) (Ok e) = WiderValue d e
WiderAnswer (Ok d) (Err f) = ⊥
WiderAnswer (Err e) y = Unit {0}

as_values : (x y : Result RowsData Stop) → Wider x y → WiderAnswer (and_then x as_value) (and_then y as_value)
as_values (Ok a) (Ok w) h = as_grown w w a h
as_values (Ok a) (Err e) h = h
as_values (Err e) y h = tt

both_rows : (x y : Result RowsData Stop) → AreGrown y y x → Wider x y
both_rows (Ok a) (Ok w) h = h
both_rows (Ok a) (Err e) h = absurd h
both_rows (Err e) y h = tt

as_rows : (x y : Result Datum Stop) → WiderAnswer x y → Wider (and_then x rows_of) (and_then y rows_of)
as_rows (Ok d) (Ok e) h = both_rows (rows_of d) (rows_of e) h
as_rows (Ok d) (Err f) h = absurd h
as_rows (Err e) y h = tt

-- ---- what is made of relations
module _ (f : Datum → Result Datum Stop) (F : RowsData → RowsData) (is : (d : Datum) (r : RowsData) → rows_of d ≡ Ok r → f d ≡ as_value (F r)) (each : (a w : RowsData) → IsWider a w → IsWider (F a) (F w)) where
  by_rows : (d e : Datum) (x y : Result RowsData Stop) → rows_of d ≡ x → rows_of e ≡ y → AreGrown y y x → WiderAnswer (f d) (f e)
  by_rows d e (Ok a) (Ok w) p q h = subst (λ x. WiderAnswer x (f e)) (sym (is d a p)) (subst (λ y. WiderAnswer (as_value (F a)) y) (sym (is e w q)) (as_grown (F w) (F w) (F a) (each a w h)))
  by_rows d e (Ok a) (Err k) p q h = absurd h
  by_rows d e (Err k) (Ok w) p q h = absurd h
  by_rows d e (Err k) (Err l) p q h = absurd h

  of_wider : (x y : Result Datum Stop) → WiderAnswer x y → WiderAnswer (and_then x f) (and_then y f)
  of_wider (Ok d) (Ok e) h = by_rows d e (rows_of d) (rows_of e) refl refl h
  of_wider (Ok d) (Err k) h = absurd h
  of_wider (Err k) y h = tt

module _ (f g : Meaning) (names : Names) (h : WiderAnswer (f names) (g names)) where
  part_wider : (xs : List (List ℕ)) → WiderAnswer (mean_by (part_at xs) f names) (mean_by (part_at xs) g names)
  unfolding mean_by
  part_wider xs = of_wider (part_at xs) (project_of xs) (part_of_rows xs) (λ a w k. projected w w a k xs) (f names) (g names) h

  new_names_wider : (xs : List (List ℕ × List ℕ)) → WiderAnswer (mean_by (with_new_names xs) f names) (mean_by (with_new_names xs) g names)
  unfolding mean_by
  new_names_wider xs = of_wider (with_new_names xs) (rename_of xs) (λ d r e. ap (λ x. and_then x (λ q. as_value (rename_of xs q))) e) (λ a w k. renamed_grown w w a k xs) (f names) (g names) h

  rows_wider : Wider (rows_in f names) (rows_in g names)
  unfolding rows_in
  rows_wider = as_rows (f names) (g names) h

relvar_wider : (r s : Relvars) (m : ℕ) (names : Names) → Wider (r m) (s m) → WiderAnswer (mean_relvar r m names) (mean_relvar s m names)
unfolding mean_relvar
relvar_wider r s m names h = as_values (r m) (s m) h

pub along : {x y p q : Result Datum Stop} → x ≡ p → y ≡ q → WiderAnswer p q → WiderAnswer x y
along {x} {y} {p} {q} d e h = subst (λ w. WiderAnswer w y) (sym d) (subst (λ w. WiderAnswer p w) (sym e) h)

-- ---- nothing that is not matched
pub nothing_left : (r q : RowsData) → ((t : Attrs) → Has q t → Has r t) → is_nothing r.tuples ≡ true → is_nothing q.tuples ≡ true
nothing_left r q there e = by q.tuples refl
  where
    by : (ts : List Attrs) → q.tuples ≡ ts → is_nothing ts ≡ true
    by [] is = refl
    by (t ∷ ts) is = absurd (none_in r.tuples e t (has_in r t (there t (in_has q t (subst (In t) (sym is) (inl refl))))))

fewer_left : (a s w : RowsData) → IsWider s w → (t : Attrs) → Has (not_matching_of a w) t → Has (not_matching_of a s) t
unfolding not_matching_of
fewer_left a s w g t h =
    let p = (minus_is a (matching_of a w)).only t h in
    (minus_is a (matching_of a s)).all t (p.0, λ m. p.1 ((matching_it w w s g a).new t m))

abbrev pub unmatched : Result RowsData Stop → Result RowsData Stop → Result Datum Stop
unmatched x y = and_then (operands.both x y) (λ (p : RowsData × RowsData). as_value (not_matching_of p.0 p.1))

abbrev pub is_empty : Result Datum Stop → Result Bool Stop
is_empty x = truth_then (and_then x (operate_on unary.IsEmpty))

pub emptied : (r : RowsData) → is_empty (as_value r) ≡ Ok (is_nothing r.tuples)
emptied r = ap (λ x. truth_then (emptiness x)) (rows_back r)

still_matched : (x y z : Result RowsData Stop) → AreGrown z z y → is_empty (unmatched x y) ≡ Ok true → is_empty (unmatched x z) ≡ Ok true
still_matched (Err f) y z g e = cc
still_matched (Ok a) (Ok s) (Ok w) g e = emptied (not_matching_of a w) ∙ ap Ok (nothing_left (not_matching_of a s) (not_matching_of a w) (fewer_left a s w g) (true_of (is_nothing (not_matching_of a s).tuples) (sym (emptied (not_matching_of a s)) ∙ e)))
still_matched (Ok a) (Ok s) (Err f) g e = absurd g
still_matched (Ok a) (Err f) (Ok w) g e = absurd g
still_matched (Ok a) (Err f) (Err k) g e = absurd g

matched_by : (d v w : Datum) → WiderValue v w → is_empty (operate binary.NotMatching d v) ≡ Ok true → is_empty (operate binary.NotMatching d w) ≡ Ok true
unfolding of_relations
matched_by d v w g e = still_matched (rows_of d) (rows_of v) (rows_of w) g e

-- ---- subsets
if_both : (p q x y : Bool) → p ≡ q → (x ≡ true → y ≡ true) → truth_then (if p then Ok (boolean x) else Err Untyped) ≡ Ok true → truth_then (if q then Ok (boolean y) else Err Untyped) ≡ Ok true
if_both true true x y d each e = ap Ok (each (true_of x e))
if_both true false x y d each e = cc
if_both false q x y d each e = cc

still_within : (a s w : RowsData) → IsWider s w → truth_then (inside (Ok s) a) ≡ Ok true → truth_then (inside (Ok w) a) ≡ Ok true
still_within a s w g e =
    if_both (are_equal_headings a.heading s.heading) (are_equal_headings a.heading w.heading) (is_subset a s) (is_subset a w) (ap (λ h. are_equal_headings a.heading h) g.new_heading)
    (λ all. set.contains-is_subset attrs_order_total (body a) (body w) (λ t h. g.new t (set.is_subset-contains attrs_order_total (body a) (body s) all t h)))
    e

within_rows : (y z : Result RowsData Stop) (a : RowsData) → AreGrown z z y → truth_then (inside y a) ≡ Ok true → truth_then (inside z a) ≡ Ok true
within_rows (Ok s) (Ok w) a g e = still_within a s w g e
within_rows (Ok s) (Err f) a g e = absurd g
within_rows (Err f) (Ok w) a g e = absurd g
within_rows (Err f) (Err k) a g e = absurd g

-- what is no relation is not at most one
no_rows : (z : Result RowsData Stop) → AreGrown z z (Err Untyped) → ⊥
no_rows (Ok a) h = h
no_rows (Err f) h = h

no_integer : (v w : Datum) → WiderValue v w → integer_of v ≡ Err Untyped
no_integer (relation h ts) w g = refl
no_integer (tuple t) w g = refl
no_integer (boolean b) w g = refl
no_integer (char x) w g = refl
no_integer (user p is) w g = refl
no_integer (integer n) w g = absurd (no_rows (rows_of w) g)

no_text : (v w : Datum) → WiderValue v w → text_of v ≡ Err Untyped
no_text (relation h ts) w g = refl
no_text (tuple t) w g = refl
no_text (boolean b) w g = refl
no_text (integer n) w g = refl
no_text (user p is) w g = refl
no_text (char x) w g = absurd (no_rows (rows_of w) g)

raised : (x : Result Bool Stop) → x ≡ Err Untyped → x ≡ Ok true → ⊥
raised x d e = let no : Err Untyped ≡ Ok true = sym d ∙ e in cc

within_by : (d v w : Datum) → WiderValue v w → truth_then (at_most d v) ≡ Ok true → truth_then (at_most d w) ≡ Ok true
unfolding of_alike
within_by (relation h ts) v w g e = within_rows (rows_of v) (rows_of w) (record { heading = header_of h; tuples = tuple_list ts }) g e
within_by (tuple t) v w g e = cc
within_by (boolean b) v w g e = cc
within_by (user p is) v w g e = cc
within_by (integer n) v w g e = absurd (raised (truth_then (at_most (integer n) v)) (ap (λ x. truth_then (and_then x (λ m. Ok (boolean (int_le n m))))) (no_integer v w g)) e)
within_by (char x) v w g e = absurd (raised (truth_then (at_most (char x) v)) (ap (λ y. truth_then (and_then y (λ t. Ok (boolean (is_le (text_cmp x t)))))) (no_text v w g)) e)

-- ---- over operands
matched_then : (x y z : Result Datum Stop) → WiderAnswer y z → is_empty (and_then x (λ d. and_then y (operate binary.NotMatching d))) ≡ Ok true → is_empty (and_then x (λ d. and_then z (operate binary.NotMatching d))) ≡ Ok true
matched_then (Ok d) (Ok v) (Ok w) g e = matched_by d v w g e
matched_then (Ok d) (Ok v) (Err f) g e = absurd g
matched_then (Ok d) (Err f) z g e = cc
matched_then (Err f) y z g e = cc

within_then : (x y z : Result Datum Stop) → WiderAnswer y z → truth_then (and_then x (λ d. and_then y (at_most d))) ≡ Ok true → truth_then (and_then x (λ d. and_then z (at_most d))) ≡ Ok true
within_then (Ok d) (Ok v) (Ok w) g e = within_by d v w g e
within_then (Ok d) (Ok v) (Err f) g e = absurd g
within_then (Ok d) (Err f) z g e = cc
within_then (Err f) y z g e = cc

around_then : (x y z : Result Datum Stop) → WiderAnswer y z → truth_then (and_then y (λ e. and_then x (λ d. at_most d e))) ≡ Ok true → truth_then (and_then z (λ e. and_then x (λ d. at_most d e))) ≡ Ok true
around_then (Ok d) (Ok v) (Ok w) g e = within_by d v w g e
around_then (Err f) (Ok v) (Ok w) g e = cc
around_then x (Ok v) (Err f) g e = absurd g
around_then x (Err f) z g e = cc

module _ (m f g : Meaning) (names : Names) (h : WiderAnswer (f names) (g names)) where
  pub matched_true : truth_in (mean_by (operate_on unary.IsEmpty) (mean_both binary.NotMatching m f)) names ≡ Ok true → truth_in (mean_by (operate_on unary.IsEmpty) (mean_both binary.NotMatching m g)) names ≡ Ok true
  unfolding truth_in mean_by mean_both
  matched_true e = matched_then (m names) (f names) (g names) h e

  pub within_true : truth_in (mean_both binary.AtMost m f) names ≡ Ok true → truth_in (mean_both binary.AtMost m g) names ≡ Ok true
  unfolding truth_in mean_both
  within_true e = within_then (m names) (f names) (g names) h e

  pub around_true : truth_in (mean_both binary.AtLeast f m) names ≡ Ok true → truth_in (mean_both binary.AtLeast g m) names ≡ Ok true
  unfolding truth_in mean_both
  around_true e = around_then (m names) (f names) (g names) h e

pub both_hold : (f g : Meaning) (names : Names) → truth_in f names ≡ Ok true → truth_in g names ≡ Ok true → truth_in (mean_and f g) names ≡ Ok true
unfolding truth_in mean_and
both_hold f g names d e = λ i. truth_then (and_of (d i) (e i))

-- ---- trees
abbrev pub AreWiderAlike : CatalogueData → ℕ → Selection → Relvars → Relvars → Type 0
AreWiderAlike c n p r s = Alike c n p (Widens c n) (λ x y z. Wider x y) r s s

module _ (c : CatalogueData) (n : ℕ) (p : Selection) where
  module _ (r s : Relvars) (a : AreWiderAlike c n p r s) where
    widen : (u : Typed) → Widens c n u → (names : Names) → WiderAnswer (mean r p u names) (mean s p u names)
    widen u itself names = along (λ i. forms.of_relvar r p n i names) (λ i. forms.of_relvar s p n i names) (relvar_wider r s n names a.itself_related)
    widen u (virtual {u = v} m is h) names = along (λ i. forms.of_relvar r p m i names) (λ i. forms.of_relvar s p m i names) (relvar_wider r s m names (a.virtual_related m v is h))
    widen u (project {r = x} xs h) names = along (λ i. forms.of_project r p x xs i names) (λ i. forms.of_project s p x xs i names) (part_wider (mean r p x) (mean s p x) names (widen x h names) xs)
    widen u (rename {r = x} xs h) names = along (λ i. forms.of_rename r p x xs i names) (λ i. forms.of_rename s p x xs i names) (new_names_wider (mean r p x) (mean s p x) names (widen x h names) xs)

    abbrev same : (u : Typed) → IsUnread c n u → mean r p u ≡ mean s p u
    same = old_same c n p (Widens c n) (λ x y z. Wider x y) r s s a

    module _ (names : Names) where
      abbrev truth : Relvars → Typed → Result Bool Stop
      truth q u = truth_in (mean q p u) names

      pub safe : (u : Typed) → IsSafe c n u → truth r u ≡ Ok true → truth s u ≡ Ok true
      safe u (matched {s = y} x never h) e =
          let form : (q : Relvars) → mean q p (tree.Unary unary.IsEmpty (tree.Binary binary.NotMatching x y)) ≡ mean_by (operate_on unary.IsEmpty) (mean_both binary.NotMatching (mean q p x) (mean q p y)) = λ q. forms.of_unary q p unary.IsEmpty (tree.Binary binary.NotMatching x y) ∙ ap (mean_by (operate_on unary.IsEmpty)) (forms.of_binary q p binary.NotMatching x y) in
          ap (λ m. truth_in m names) (form s ∙ ap (λ m. mean_by (operate_on unary.IsEmpty) (mean_both binary.NotMatching m (mean s p y))) (sym (same x never)))
          ∙ matched_true (mean r p x) (mean r p y) (mean s p y) names (widen y h names) (sym (ap (λ m. truth_in m names) (form r)) ∙ e)
      safe u (within {s = y} x never h) e =
          ap (λ m. truth_in m names) (forms.of_binary s p binary.AtMost x y ∙ ap (λ m. mean_both binary.AtMost m (mean s p y)) (sym (same x never)))
          ∙ within_true (mean r p x) (mean r p y) (mean s p y) names (widen y h names) (sym (ap (λ m. truth_in m names) (forms.of_binary r p binary.AtMost x y)) ∙ e)
      safe u (around {r = x} y h never) e =
          ap (λ m. truth_in m names) (forms.of_binary s p binary.AtLeast x y ∙ ap (mean_both binary.AtLeast (mean s p x)) (sym (same y never)))
          ∙ around_true (mean r p y) (mean r p x) (mean s p x) names (widen x h names) (sym (ap (λ m. truth_in m names) (forms.of_binary r p binary.AtLeast x y)) ∙ e)
      safe u (unread v never) e = ap (λ m. truth_in m names) (sym (same v never)) ∙ e
      safe u (both {u = x} {v = y} h k) e =
          let is = and_true (mean r p x) (mean r p y) names (sym (ap (λ m. truth_in m names) (forms.of_binary r p binary.And x y)) ∙ e) in
          ap (λ m. truth_in m names) (forms.of_binary s p binary.And x y)
          ∙ both_hold (mean s p x) (mean s p y) names (safe x h is.0) (safe y k is.1)

  pub all_wider : is_base (slice_get c.origins n) ≡ true → (ns : List ℕ) (r s : Relvars) → AreWiderAlike c n p r s → AreWiderAlike c n p (with_virtuals p (filter_map (virtual_at c) ns) r) (with_virtuals p (filter_map (virtual_at c) ns) s)
  all_wider base ns r s a = all_alike c n p (Widens c n) (λ x y z. Wider x y) base step ns r s s a
    where
      step : (r s t : Relvars) → Alike c n p (Widens c n) (λ x y z. Wider x y) r s t → (u : Typed) → Widens c n u → Wider (rows_in (mean r p u) no_names) (rows_in (mean s p u) no_names)
      step r s t b u h = rows_wider (mean r p u) (mean s p u) no_names (widen r s (without r s t b) u h no_names)
        where
          without : (r s t : Relvars) → Alike c n p (Widens c n) (λ x y z. Wider x y) r s t → AreWiderAlike c n p r s
          without r s t b = record { old = b.old; new = λ m never. refl; itself_related = b.itself_related; virtual_related = b.virtual_related }
