-- Conditions that are made ready: parts joined by AND, and attributes by their places.
use Rattle.std.proofs.Common.{◌≡◌, ◌≤◌, ◌<◌, ◌+◌, ◌++◌, ℕ, zero, suc, Bool, true, false, not, cond, if◌then◌else◌, max, List, [], ◌∷◌, length, get_or, drop, Option, None, Some, is_some, IfOk, IfSome, Result, Ok, Err, refl, sym, ap, ◌∙◌, arith}
use Rattle.std.specs.FinMap as by_name
use Rattle.std.specs.List.{position_or_len, slice_get}
use Rattle.std.specs.Option.{option_map}
use Rattle.std.specs.Ordering.{eq_by_cmp}
use Rattle.std.proofs.Math.Numerals.{one-add}
use Rattle.std.proofs.lemmas.List.{drop_more}
use Rattle.td_values.specs.Attributes.{attribute_of}
use Rattle.td_values.specs.Data.{Datum, boolean, Attrs, no_attrs, attr, attrs_of}
use Rattle.td_values.specs.Headings.{Header}
use Rattle.td_values.specs.Order.{text_cmp}
use Rattle.td_values.specs.Whole.{type_of}
use Rattle.td_tuples.specs.Parts.{attributes, Fits}
use Rattle.td_tuples.proofs.ByName.{attributes_read, fits_here, fits_typed}
use Rattle.td_tuples.proofs.Lists.{on_values}
use Rattle.td_syntax.specs.declared.tree.BinaryOperator.{BinaryOperator}
use Rattle.td_syntax.specs.declared.tree.BinaryOperator.TheVariants as binary
use Rattle.td_typed_trees.specs.declared.tree.Typed.{Typed}
use Rattle.td_typed_trees.specs.declared.tree.Typed.TheVariants as t
use Rattle.td_algebra.specs.declared.errors.Stop.{Stop}
use Rattle.td_algebra.specs.KeyIndexes.{place_in}
use Rattle.td_algebra.specs.Raising.{and_then}
use Rattle.td_operators.specs.Operators.{operate}
use Rattle.td_operators.specs.Values.{known, truth_of}
use Rattle.td_meaning.specs.declared.conditions.Check.{Check}
use Rattle.td_meaning.specs.declared.conditions.Side.{Side}
use Rattle.td_meaning.specs.declared.environment.Environment.{Environment}
use Rattle.td_meaning.specs.ForProofs.Checks.{AddsChecks, IsCheck, all_hold, and_also, check_holds, check_levels, comparison, deepest_check}
use Rattle.td_meaning.specs.ForProofs.Over.{Means}
use Rattle.td_meaning.specs.Mean.{Meaning, Names, mean_and, mean_binary, mean_both, mean_local, or_else, truth_in, within}
use Rattle.td_meaning.specs.Seen.{mean_in, relvars_there}
use Rattle.td_meaning.specs.Selections.{selection}
use Rattle.td_meaning.proofs.Forms.{of_binary, of_local}

-- ---- attributes by their places
value_placed : (n : List ℕ) (u : Attrs) → option_map (λ a. a.1) (slice_get (attributes u) (position_or_len (λ f. eq_by_cmp text_cmp n f.0) (on_values type_of (attributes u)))) ≡ attribute_of n u
value_placed n no_attrs = refl
value_placed n (attr m d u) =
    let p = position_or_len (λ f. eq_by_cmp text_cmp n f.0) (on_values type_of (attributes u)) in
    elim (eq_by_cmp text_cmp n m) as (λ b. option_map (λ (a : List ℕ × Datum). a.1) (slice_get ((m, d) ∷ attributes u) (cond (not b) (1 + p) 0)) ≡ cond b (Some d) (attribute_of n u)) [
      | true ↦ refl
      | false ↦ ap (λ k. option_map (λ (a : List ℕ × Datum). a.1) (slice_get ((m, d) ∷ attributes u) k)) (one-add p) ∙ value_placed n u
    ]

module _ (h : Header) (n : List ℕ) (u : Attrs) (f : Fits h u) where
  pub value_at_place : option_map (λ a. a.1) (slice_get (attributes u) (place_in h n)) ≡ attribute_of n u
  value_at_place = ap (λ fs. option_map (λ (a : List ℕ × Datum). a.1) (slice_get (attributes u) (position_or_len (λ f. eq_by_cmp text_cmp n f.0) fs))) (sym (fits_typed h u f)) ∙ value_placed n u

  hides : (o : Option Datum) (outer : Option Datum) → is_some o ≡ true → known (or_else o outer) ≡ known o
  hides None outer there = cc
  hides (Some d) outer there = refl

  shows : (o : Option Datum) (outer : Option Datum) → is_some o ≡ false → or_else o outer ≡ outer
  shows None outer none = refl
  shows (Some d) outer none = cc

  pub attribute_is : (names : Names) (p : ℕ) → is_some (by_name.get h n) ≡ true → p ≡ place_in h n → known (within u names n) ≡ known (option_map (λ a. a.1) (slice_get (attributes u) p))
  attribute_is names p there is =
      hides (attribute_of n u) (names n) (fits_here h u f n ∙ there)
      ∙ ap known (sym value_at_place)
      ∙ ap (λ k. known (option_map (λ (a : List ℕ × Datum). a.1) (slice_get (attributes u) k))) (sym is)

  pub outer_is : (names : Names) (d : Datum) → is_some (by_name.get h n) ≡ false → names n ≡ Some d → known (within u names n) ≡ Ok d
  outer_is names d none is = ap known (shows (attribute_of n u) (names n) (fits_here h u f n ∙ none) ∙ is)

-- what is read at a place
pub value_found : (u : Attrs) (xs : List (List ℕ × Datum)) (p : ℕ) (o : Option (List ℕ × Datum)) → attrs_of xs ≡ u → o ≡ slice_get xs p → known (option_map (λ a. a.1) (slice_get (attributes u) p)) ≡ known (option_map (λ a. a.1) o)
value_found u xs p o all is = ap (λ ys. known (option_map (λ (a : List ℕ × Datum). a.1) (slice_get ys p))) (sym (attributes_read xs u all)) ∙ ap (λ q. known (option_map (λ (a : List ℕ × Datum). a.1) q)) (sym is)

-- ---- truths in turn
also_true : (r : Result Bool Stop) → and_also r (Ok true) ≡ r
also_true (Ok true) = refl
also_true (Ok false) = refl
also_true (Err e) = refl

also_also : (r s w : Result Bool Stop) → and_also r (and_also s w) ≡ and_also (and_also r s) w
also_also (Ok true) s w = refl
also_also (Ok false) s w = refl
also_also (Err e) s w = refl

module _ (m : Means) (names : Names) (u : Attrs) where
  hold_pushed : (cs : List Check) (c : Check) → all_hold m names u (cs ++ c ∷ []) ≡ and_also (all_hold m names u cs) (check_holds m names u c)
  hold_pushed [] c = also_true (check_holds m names u c)
  hold_pushed (b ∷ cs) c = ap (and_also (check_holds m names u b)) (hold_pushed cs c) ∙ also_also (check_holds m names u b) (all_hold m names u cs) (check_holds m names u c)

  -- ---- one more of a walk over checks
  module _ (cs : List Check) (i : ℕ) (c : Check) (lt : i < length cs) (is : c ≡ get_or cs i c) where
    hold_more : all_hold m names u (drop i cs) ≡ and_also (check_holds m names u c) (all_hold m names u (drop (i + 1) cs))
    hold_more = ap (all_hold m names u) (drop_more cs i c lt) ∙ ap (λ x. and_also (check_holds m names u x) (all_hold m names u (drop (i + 1) cs))) (sym is)

    pub hold_goes : check_holds m names u c ≡ Ok true → all_hold m names u (drop i cs) ≡ all_hold m names u (drop (i + 1) cs)
    hold_goes h = hold_more ∙ ap (λ r. and_also r (all_hold m names u (drop (i + 1) cs))) h

    pub hold_ends : check_holds m names u c ≡ Ok false → all_hold m names u (drop i cs) ≡ Ok false
    hold_ends h = hold_more ∙ ap (λ r. and_also r (all_hold m names u (drop (i + 1) cs))) h

    pub hold_stops : (e : Stop) → check_holds m names u c ≡ Err e → all_hold m names u (drop i cs) ≡ Err e
    hold_stops e h = hold_more ∙ ap (λ r. and_also r (all_hold m names u (drop (i + 1) cs))) h

-- ---- AND
truth_back : (r : Result Bool Stop) → and_then (and_then r (λ b. Ok (boolean b))) truth_of ≡ r
truth_back (Ok b) = refl
truth_back (Err e) = refl

both_true : (r s : Result Bool Stop) → and_then (and_then r (λ b. if b then and_then s (λ c. Ok (boolean c)) else Ok (boolean false))) truth_of ≡ and_also r s
both_true (Ok true) s = truth_back s
both_true (Ok false) s = refl
both_true (Err e) s = refl

and_is : (a b : Meaning) (names : Names) → truth_in (mean_and a b) names ≡ and_also (truth_in a names) (truth_in b names)
unfolding truth_in mean_and
and_is a b names = both_true (and_then (a names) truth_of) (and_then (b names) truth_of)

module _ (env : Environment) (names : Names) where
  abbrev means : Means
  means = mean_in env

  is_binary : (o : BinaryOperator) (a b : Typed) → means (t.Binary o a b) ≡ mean_binary o (means a) (means b)
  is_binary o a b = of_binary (relvars_there env) (selection env.selectors.now) o a b

  pub adds_one : (h : Header) (a : Typed) (c : Check) (old new : List Check) → IsCheck means names h a c → new ≡ old ++ c ∷ [] → AddsChecks means names h a old new
  adds_one h a c old new is same = λ u f. ap (all_hold means names u) same ∙ hold_pushed means names u old c ∙ ap (and_also (all_hold means names u old)) (is u f)

  pub adds_both : (h : Header) (e a b : Typed) (o : BinaryOperator) (old mid new : List Check) → e ≡ t.Binary o a b → o ≡ binary.And → AddsChecks means names h a old mid → AddsChecks means names h b mid new → AddsChecks means names h e old new
  adds_both h e a b o old mid new is and first second = λ u f.
      let here = within u names in
      let both : truth_in (means e) here ≡ and_also (truth_in (means a) here) (truth_in (means b) here) =
      ap (λ x. truth_in (means x) here) is ∙ ap (λ x. truth_in x here) (is_binary o a b) ∙ ap (λ x. truth_in (mean_binary x (means a) (means b)) here) and ∙ and_is (means a) (means b) here in
      second u f
      ∙ ap (λ r. and_also r (truth_in (means b) here)) (first u f)
      ∙ sym (also_also (all_hold means names u old) (truth_in (means a) here) (truth_in (means b) here))
      ∙ ap (and_also (all_hold means names u old)) (sym both)

  -- ---- a name, and a part as it is
  pub local_is : (a : Typed) (n : List ℕ) (u : Attrs) → a ≡ t.Local n → means a (within u names) ≡ known (within u names n)
  unfolding mean_local
  local_is a n u is = ap (λ x. means x (within u names)) is ∙ ap (λ x. x (within u names)) (of_local (relvars_there env) (selection env.selectors.now) n)

  -- ---- a comparison
  pub compares : (h : Header) (e a b : Typed) (o : BinaryOperator) (c : Check) (v w : Attrs → Result Datum Stop) → e ≡ t.Binary o a b → ((x y : Meaning) → mean_binary o x y ≡ mean_both o x y)
      → ((u : Attrs) → check_holds means names u c ≡ comparison o (v u) (w u))
      → ((u : Attrs) → Fits h u → means a (within u names) ≡ v u) → ((u : Attrs) → Fits h u → means b (within u names) ≡ w u) → IsCheck means names h e c
  unfolding truth_in mean_both
  compares h e a b o c v w is both holds first second = λ u f.
      let here = within u names in
      holds u
      ∙ (λ i. and_then (and_then (sym (first u f) i) (λ d. and_then (sym (second u f) i) (operate o d))) truth_of)
      ∙ sym (ap (λ x. truth_in (means x) here) is ∙ ap (λ x. truth_in x here) (is_binary o a b ∙ both (means a) (means b)))

-- ---- how deep checks are
pub deeper : (cs : List Check) (c : Check) → deepest_check (cs ++ c ∷ []) ≤ max (deepest_check cs) (check_levels c)
deeper [] c = omega arith
deeper (b ∷ cs) c = omega (arith, deeper cs c)

pub check_within : (cs : List Check) (i : ℕ) (c d : Check) → i < length cs → c ≡ get_or cs i d → check_levels c ≤ deepest_check cs
check_within [] i c d lt is = omega (arith, lt)
check_within (b ∷ cs) zero c d lt is = omega (arith, ap check_levels is)
check_within (b ∷ cs) (suc i) c d lt is = omega (arith, check_within cs i c d (omega (arith, lt)) is)

-- ---- what holds of a side that may be told
pub side_weaker : {E : Type 0} (P Q : Side → Type 0) (r : Result (Option Side) E) → ((s : Side) → P s → Q s) → IfOk r (λ o. IfSome o P) → IfOk r (λ o. IfSome o Q)
side_weaker P Q (Ok None) f h = tt
side_weaker P Q (Ok (Some s)) f h = f s h
side_weaker P Q (Err e) f h = tt
