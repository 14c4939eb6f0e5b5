-- A relation of the heading of another one's part: it is within that part where each of its tuples matches.
use Rattle.std.proofs.Common.{◌≡◌, ◌==◌, if◌then◌else◌, ℕ, Bool, true, false, cond, List, [], ◌∷◌, length, Option, None, is_some, Result, Ok, Err, inl, refl, sym, ap, ◌∙◌, subst, true≢false, eqb-true, arith}
use Rattle.std.specs.FinMap as by_name
use Rattle.std.specs.FinSet as set
use Rattle.std.specs.Ordering.{eq_by_cmp}
use Rattle.td_values.specs.Data.{Ty, Datum, boolean, integer, char, user, tuple, relation, Attrs}
use Rattle.td_values.specs.Headings.{header_of}
use Rattle.td_values.specs.Order.{attrs_order}
use Rattle.td_values.specs.Rows.{RowsData, AreRows}
use Rattle.td_values.specs.Proving.Total.{attrs_order_total}
use Rattle.td_relations.specs.Sets.{Has, body}
use Rattle.td_tuples.specs.Parts.{Fits, columns_in, cut, is_in, names_of}
use Rattle.td_tuples.proofs.ByName.{fits_named, fits_sorted, same_part, whole_part}
use Rattle.td_tuples.proofs.Lists.{get-retain, in_keys}
use Rattle.td_algebra.specs.declared.errors.Stop.{Stop}
use Rattle.td_algebra.specs.declared.errors.Stop.TheVariants.{Untyped}
use Rattle.td_algebra.specs.ForProofs.Index.{has_part, is_matched}
use Rattle.td_algebra.specs.Functions.{not_matching_of, project_of}
use Rattle.td_algebra.specs.Nested.{relation_value, tuple_list}
use Rattle.td_algebra.specs.Operators.{Matching}
use Rattle.td_algebra.specs.Raising.{and_then}
use Rattle.td_algebra.proofs.Apart.{by_columns}
use Rattle.td_algebra.proofs.Bridges.{not_matching_is, project_is}
use Rattle.td_algebra.proofs.Derived.{in_matching, matching_in}
use Rattle.td_algebra.proofs.Lists.{In, any_in, filter_in, in_any, in_filter}
use Rattle.td_algebra.proofs.Made.{has_fits, has_in, in_has}
use Rattle.td_algebra.proofs.PlacedParts.{itself, same_key}
use Rattle.td_operators.specs.ForProofs.Kinds.{is_scalar}
use Rattle.td_operators.specs.ForProofs.Within.{within_part}
use Rattle.td_operators.specs.Operators.{as_value, at_most, if_alike, is_subset, of_alike, part_at, are_equal_headings}
use Rattle.td_operators.specs.Values.{both, rows_of}
use Rattle.td_operators.proofs.KindLemmas.{at_most_other, rows_back}

kept_some : (b : Bool) (o : Option Ty) → is_some (cond b o None) ≡ true → is_some o ≡ true
kept_some true o e = e
kept_some false o e = absurd (true≢false (sym e))

none_at : (ts : List Attrs) → ((t : Attrs) → In t ts → ⊥) → (length ts == 0) ≡ true
none_at [] h = refl
none_at (t ∷ ts) h = absurd (h t (inl refl))

none_in : (ts : List Attrs) → (length ts == 0) ≡ true → (t : Attrs) → In t ts → ⊥
none_in [] e t h = h
none_in (u ∷ ts) e t h = let no : length (u ∷ ts) ≡ 0 = eqb-true (length (u ∷ ts)) 0 e in absurd (omega (arith, no))

same_truth : (a b : Bool) → (a ≡ true → b ≡ true) → (b ≡ true → a ≡ true) → a ≡ b
same_truth true b there back = sym (there refl)
same_truth false true there back = back refl
same_truth false false there back = refl

module _ (names : List (List ℕ)) (r s : RowsData) (rows : AreRows r.heading r.tuples) (s_rows : AreRows s.heading s.tuples) (e : r.heading ≡ columns_in names s.heading) where
  abbrev part : RowsData
  part = project_of names s

  -- a tuple of the part has no other names than the whole
  whole_of : (t : Attrs) → Fits r.heading t → cut (names_of s.heading) t ≡ t
  whole_of t f = same_part (is_in (names_of s.heading)) (is_in (names_of r.heading)) t (fits_sorted r.heading t f) (λ n here.
      let of_part : is_in (names_of r.heading) n ≡ true = fits_named r.heading t f n ∙ here in
      let there = sym (ap is_some (get-retain s.heading (is_in names) n)) ∙ sym (in_keys (columns_in names s.heading) n) ∙ ap (λ h. is_in (names_of h) n) (sym e) ∙ of_part in
      in_keys s.heading n ∙ kept_some (is_in names n) (by_name.get s.heading n) there ∙ sym of_part)
      ∙ whole_part r.heading t f

  in_part : (t : Attrs) → Matching r s t → Has part t
  in_part t m =
      let k = in_filter (is_matched r.heading s.heading s.tuples) r.tuples t (in_matching r s rows s_rows t m) in
      let u = in_any (has_part (names_of r.heading) (cut (names_of s.heading) t)) s.tuples k.1 in
      let has = in_has s u.0 u.1 in
      let same = sym (by_columns names s s_rows r.heading e u.0 has) ∙ same_key _ _ u.2 ∙ whole_of t (has_fits r rows t (in_has r t k.0)) in
      (project_is names s).all t (u.0, has, sym same)

  has_match : (t : Attrs) → Has r t → Has part t → Matching r s t
  has_match t has there =
      let u = (project_is names s).only t there in
      let same = by_columns names s s_rows r.heading e u.0 u.1 ∙ sym u.2 ∙ sym (whole_of t (has_fits r rows t has)) in
      let alike = subst (λ z. eq_by_cmp attrs_order (cut (names_of r.heading) u.0) z ≡ true) same (itself (cut (names_of r.heading) u.0)) in
      matching_in r s rows s_rows t (filter_in (is_matched r.heading s.heading s.tuples) r.tuples t (has_in r t has)
      (any_in (has_part (names_of r.heading) (cut (names_of s.heading) t)) s.tuples u.0 (has_in s u.0 u.1) alike))

  subset_matches : is_subset r part ≡ (length (not_matching_of r s).tuples == 0)
  subset_matches =
      let n = not_matching_of r s in
      let others = not_matching_is r s rows s_rows in
      same_truth (is_subset r part) (length n.tuples == 0)
      (λ all. none_at n.tuples (λ t m.
      let w = others.only t (in_has n t m) in
      w.1 (has_match t w.0 (set.is_subset-contains attrs_order_total (body r) (body part) all t w.0))))
      (λ none. set.contains-is_subset attrs_order_total (body r) (body part) (λ t has.
      elim (set.contains (body part) t) as (λ b. set.contains (body part) t ≡ b → b ≡ true) [
        | true ↦ λ _. refl
        | false ↦ λ lacks. absurd (none_in n.tuples none t (has_in n t (others.all t (has, λ m. true≢false (sym (in_part t m) ∙ lacks)))))
      ] refl))

  one_others : (n : RowsData) → ◌≡◌ {A = Result RowsData Stop} (Ok (not_matching_of r s)) (Ok n) → not_matching_of r s ≡ n
  one_others n is = cc

  pub within_told : (n : RowsData) (b : Bool) → are_equal_headings r.heading (columns_in names s.heading) ≡ true → ◌≡◌ {A = Result RowsData Stop} (Ok (not_matching_of r s)) (Ok n) → b ≡ (length n.tuples == 0) → if_alike r part (boolean (is_subset r part)) ≡ Ok (boolean b)
  within_told n b alike others none =
      let answer = boolean (is_subset r part) in
      ap (λ h. if are_equal_headings r.heading h then Ok answer else Err Untyped) (project_is names s).heading
      ∙ ap (λ c. if c then Ok answer else Err Untyped) alike
      ∙ ap (λ c. Ok (boolean c)) (subset_matches ∙ ap (λ (m : RowsData). length m.tuples == 0) (one_others n others) ∙ sym none)

pub unlike_told : (names : List (List ℕ)) (r s : RowsData) (d : Datum) → are_equal_headings r.heading (columns_in names s.heading) ≡ false → if_alike r (project_of names s) d ≡ Err Untyped
unlike_told names r s d unlike =
    ap (λ h. if are_equal_headings r.heading h then Ok d else Err Untyped) (project_is names s).heading
    ∙ ap (λ c. if c then Ok d else Err Untyped) unlike

-- ---- of what is neither an integer, nor a text, nor a tuple
abbrev compared : RowsData × RowsData → Result Datum Stop
compared p = if_alike p.0 p.1 (boolean (is_subset p.0 p.1))

both_known : (x : Result RowsData Stop) (p : RowsData) → and_then x (λ r. if_alike r p (boolean (is_subset r p))) ≡ and_then (both x (Ok p)) compared
both_known (Ok r) p = refl
both_known (Err e) p = refl

pub within_is : (names : List (List ℕ)) (d e : Datum) → is_scalar d ≡ false → is_scalar e ≡ false → within_part names d e ≡ and_then (part_at names e) (at_most d)
unfolding within_part of_alike
within_is names d (boolean b) h k = refl
within_is names d (integer n) h k = cc
within_is names d (char t) h k = cc
within_is names d (user p is) h k = refl
within_is names d (tuple t) h k = cc
within_is names d (relation g ts) h k =
    let s : RowsData = record { heading = header_of g; tuples = tuple_list ts } in
    let p = project_of names s in
    both_known (rows_of d) p
    ∙ ap (λ w. and_then (both (rows_of d) w) compared) (sym (rows_back (relation_value p) p refl))
    ∙ sym (at_most_other d (relation_value p) h)

-- a relation has parts
pub relation_part : (xs : List (List ℕ)) (d : Datum) (r : RowsData) → d ≡ relation_value r → part_at xs d ≡ Ok (relation_value (project_of xs r))
relation_part xs d r is = ap (part_at xs) is ∙ ap (λ w. and_then w (λ s. as_value (project_of xs s))) (rows_back (relation_value r) r refl)
