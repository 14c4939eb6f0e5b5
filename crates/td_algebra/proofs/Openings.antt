-- Tuples and relations that are taken out of attributes.
use Rattle.std.proofs.Common.{◌≡◌, ℕ, T, List, [], ◌∷◌, inl, inr, Option, None, Some, refl, sym, ap, ◌∙◌, subst}
use Rattle.std.specs.FinMap as by_name
use Rattle.std.specs.FinSet as set
use Rattle.std.specs.List.{All, Contains, flat_map}
use Rattle.std.specs.Option.{option_map}
use Rattle.td_values.specs.Attributes.{attribute_of}
use Rattle.td_values.specs.Data.{Ty, tuple_type, relation_type, Fields, fields_of, Datum, boolean, integer, char, user, tuple, relation, Attrs, no_attrs, attr, Tuples, tuples_of}
use Rattle.td_values.specs.Headings.{Header, header_fields, field_list}
use Rattle.td_values.specs.Order.{text_cmp}
use Rattle.td_values.specs.Rows.{RowsData, AreRows}
use Rattle.td_values.specs.Whole.{type_of, heading_of, NamesAscend, IsWholeTuple}
use Rattle.td_relations.specs.Sets.{Has, IsRelation, IsRelationOf}
use Rattle.td_relations.proofs.Predicates.{by_predicate}
use Rattle.td_tuples.specs.Parts.{attributes, Fits, names_of, is_out, cut, cut_off, columns_out}
use Rattle.td_tuples.specs.Unions.{beside, joined}
use Rattle.td_tuples.proofs.Lists.{entries-from_entries, on_values, sorted_values}
use Rattle.td_tuples.proofs.ByName.{heading-typed, ascend_is_sorted, fits_get, fits-where, fits-beside, part_by_columns}
use Rattle.td_tuples.specs.Nestings.{columns_of_type, columns_inside, inner_columns, opened_columns, IsRelationValued, IsTupleValued}
use Rattle.td_algebra.specs.Nested.{tuple_list, Ungrouped, Unwrapped}
use Rattle.td_tuples.proofs.Inner.{columns_back, field_list_back}
use Rattle.td_algebra.specs.ForProofs.Opened.{tuples_in, tuples_inside, tuples_at, opened, Opened}
use Rattle.td_algebra.proofs.Lists.{In, in_contains, contains_in, all_in, in_all, in_map, map_in, in_flat_map, flat_map_in}
use Rattle.td_algebra.proofs.Made.{has_in, in_has, has_fits, made}

-- ---- the insides of types and values
pub tuple_list_back : (ts : List Attrs) → tuple_list (tuples_of ts) ≡ ts
tuple_list_back [] = refl
tuple_list_back (t ∷ ts) = ap (λ r. t ∷ r) (tuple_list_back ts)

whole_ascends : (t : Attrs) → IsWholeTuple t → NamesAscend t
whole_ascends no_attrs w = tt
whole_ascends (attr n d t) w = (w.1, whole_ascends t w.2)

-- a tuple fits the columns of its own type
fits_itself : (t : Attrs) → IsWholeTuple t → Fits (columns_of_type (tuple_type (heading_of t))) t
fits_itself t w =
    let es = on_values type_of (attributes t) in
    let sorted : T (by_name.is_sorted text_cmp es) = subst T (sym (sorted_values type_of (attributes t))) (ascend_is_sorted t (whole_ascends t w)) in
    let listed : field_list (heading_of t) ≡ es = ap field_list (heading-typed t) ∙ field_list_back es in
    heading-typed t ∙ ap fields_of (sym (entries-from_entries es sorted)) ∙ ap (λ fs. header_fields (by_name.from_entries fs)) (sym listed)

pub fit_tuple : (d : Datum) (t : Attrs) (ts : List Attrs) → tuple t ≡ d → ts ≡ t ∷ [] → IsWholeTuple t → All (Fits (columns_of_type (type_of d))) ts
fit_tuple d t ts e f w = subst (λ v. All (Fits (columns_of_type (type_of v))) ts) e
    (in_all (Fits (columns_of_type (tuple_type (heading_of t)))) ts (λ u m. elim (subst (In u) f m) [
      | inl same ↦ subst (Fits (columns_of_type (tuple_type (heading_of t)))) (sym same) (fits_itself t w)
      | inr none ↦ absurd none
    ]))

pub relation_tuples : (d : Datum) (h : Header) (us ts : List Attrs) → relation (header_fields h) (tuples_of us) ≡ d → ts ≡ us → ts ≡ tuples_in d
relation_tuples d h us ts e f = f ∙ sym (tuple_list_back us) ∙ ap tuples_in e

pub fit_relation : (d : Datum) (h : Header) (us ts : List Attrs) → relation (header_fields h) (tuples_of us) ≡ d → ts ≡ us → All (Fits h) us → All (Fits (columns_of_type (type_of d))) ts
fit_relation d h us ts e f fit = subst (λ v. All (Fits (columns_of_type (type_of v))) ts) e
    (subst (λ k. All (Fits k) ts) (sym (columns_back h)) (subst (All (Fits h)) (sym f) fit))

pub fit_at : (c : List ℕ) (t : Attrs) (d : Datum) (ts : List Attrs) → Some d ≡ attribute_of c t → All (Fits (columns_of_type (type_of d))) ts → (h : Header) → Fits h t → All (Fits (inner_columns c h)) ts
fit_at c t d ts e fit h f = subst (λ (o : Option Ty). All (Fits (columns_inside o)) ts) (ap (option_map type_of) e ∙ sym (fits_get h t f c)) fit

-- ---- the relation
module _ (c : List ℕ) (r : RowsData) (rows : AreRows r.heading r.tuples) (outer inner : Header) (o : outer ≡ columns_out (c ∷ []) r.heading) (i : inner ≡ inner_columns c r.heading) (out : List Attrs) (is : out ≡ flat_map (opened (names_of outer) c) r.tuples) where
  outer_part : (t : Attrs) → Has r t → cut (names_of outer) t ≡ cut_off (c ∷ []) t
  outer_part t has = ap (λ w. cut (names_of w) t) o ∙ part_by_columns (is_out (c ∷ [])) r.heading t (has_fits r rows t has)

  opened_in : (u : Attrs) → In u out → Opened c r u
  opened_in u m =
      let at = in_flat_map (opened (names_of outer) c) r.tuples u (subst (In u) is m) in
      let t = at.0 in
      let w = in_map (beside (cut (names_of outer) t)) (tuples_at c t) u at.2 in
      let has = in_has r t at.1 in
      (t, has, w.0, in_contains (tuples_at c t) w.0 w.1, w.2 ∙ ap (λ p. beside p w.0) (outer_part t has))

  in_opened : (u : Attrs) → Opened c r u → In u out
  in_opened u p =
      let t = p.0 in
      let w = p.2 in
      subst (In u) (sym is) (flat_map_in (opened (names_of outer) c) r.tuples u t (has_in r t p.1)
      (map_in (beside (cut (names_of outer) t)) (tuples_at c t) u w (contains_in (tuples_at c t) w p.3) (p.4 ∙ ap (λ q. beside q w) (sym (outer_part t p.1)))))

  module _ (h : Header) (e : h ≡ joined outer inner) where
    pub opened_fit : All (λ t. All (Fits (inner_columns c r.heading)) (tuples_at c t)) r.tuples → All (Fits h) out
    opened_fit fit = in_all (Fits h) out (λ u m.
        let p = opened_in u m in
        let t = p.0 in
        let w = p.2 in
        let first : Fits (columns_out (c ∷ []) r.heading) (cut_off (c ∷ []) t) = fits-where (is_out (c ∷ [])) r.heading t (has_fits r rows t p.1) in
        let inside = all_in (λ t. All (Fits (inner_columns c r.heading)) (tuples_at c t)) r.tuples fit t (has_in r t p.1) in
        let second : Fits (inner_columns c r.heading) w = all_in (Fits (inner_columns c r.heading)) (tuples_at c t) inside w (contains_in (tuples_at c t) w p.3) in
        subst (Fits h) (sym p.4) (subst (λ k. Fits k (beside (cut_off (c ∷ []) t) w)) (sym (e ∙ (λ k. joined (o k) (i k))))
        (fits-beside (columns_out (c ∷ []) r.heading) (inner_columns c r.heading) (cut_off (c ∷ []) t) w first second)))

    pub opened_made : (n : RowsData) → IsRelation h (set.from_list out) n → IsRelationOf (opened_columns c r.heading) (Opened c r) n
    opened_made n made_of = made h (opened_columns c r.heading) (Opened c r) out n made_of (e ∙ (λ k. joined (o k) (i k))) opened_in in_opened

-- ---- ungroup and unwrap
is_relation : (d : Datum) (fs : Fields) → type_of d ≡ relation_type fs → (h : Fields) × (ts : Tuples) × (d ≡ relation h ts)
is_relation (boolean b) fs e = cc
is_relation (integer n) fs e = cc
is_relation (char s) fs e = cc
is_relation (user n is) fs e = cc
is_relation (tuple t) fs e = cc
is_relation (relation h ts) fs e = (h, ts, refl)

is_tuple : (d : Datum) (fs : Fields) → type_of d ≡ tuple_type fs → (t : Attrs) × (d ≡ tuple t)
is_tuple (boolean b) fs e = cc
is_tuple (integer n) fs e = cc
is_tuple (char s) fs e = cc
is_tuple (user n is) fs e = cc
is_tuple (tuple t) fs e = (t, refl)
is_tuple (relation h ts) fs e = cc

some_typed : (o : Option Datum) (ty : Ty) → Some ty ≡ option_map type_of o → (d : Datum) × (o ≡ Some d) × (type_of d ≡ ty)
some_typed None ty e = cc
some_typed (Some d) ty e = (d, refl, (cc))

module _ (c : List ℕ) (r : RowsData) (rows : AreRows r.heading r.tuples) where
  value_at : (ty : Ty) → by_name.get r.heading c ≡ Some ty → (t : Attrs) → Has r t → (d : Datum) × (attribute_of c t ≡ Some d) × (type_of d ≡ ty)
  value_at ty valued t has = some_typed (attribute_of c t) ty (sym valued ∙ fits_get r.heading t (has_fits r rows t has) c)

  pub ungrouped : (k : Header) (n : RowsData) → IsRelationValued c r.heading → IsRelationOf k (Opened c r) n → IsRelationOf k (Ungrouped c r) n
  ungrouped k n valued is = by_predicate k (Opened c r) (Ungrouped c r) n is (λ u. (
    λ p.
        let d = value_at (relation_type valued.0) valued.1 p.0 p.1 in
        let s = is_relation d.0 valued.0 d.2 in
        let here : attribute_of c p.0 ≡ Some (relation s.0 s.1) = d.1 ∙ ap Some s.2 in
        (p.0, p.1, s.0, s.1, here, p.2, subst (λ (o : Option Datum). Contains (tuples_inside o) p.2) here p.3, p.4),
    λ p. (p.0, p.1, p.5, subst (λ (o : Option Datum). Contains (tuples_inside o) p.5) (sym p.4) p.6, p.7),
  ))

  pub unwrapped : (k : Header) (n : RowsData) → IsTupleValued c r.heading → IsRelationOf k (Opened c r) n → IsRelationOf k (Unwrapped c r) n
  unwrapped k n valued is = by_predicate k (Opened c r) (Unwrapped c r) n is (λ u. (
    λ p.
        let d = value_at (tuple_type valued.0) valued.1 p.0 p.1 in
        let s = is_tuple d.0 valued.0 d.2 in
        let here : attribute_of c p.0 ≡ Some (tuple s.0) = d.1 ∙ ap Some s.1 in
        let one : In p.2 (s.0 ∷ []) = contains_in (s.0 ∷ []) p.2 (subst (λ (o : Option Datum). Contains (tuples_inside o) p.2) here p.3) in
        let same : p.2 ≡ s.0 = elim one [ inl e ↦ e | inr none ↦ absurd none ] in
        (p.0, p.1, s.0, here, p.4 ∙ ap (beside (cut_off (c ∷ []) p.0)) same),
    λ p. (p.0, p.1, p.2, subst (λ (o : Option Datum). Contains (tuples_inside o) p.2) (sym p.3) (in_contains (p.2 ∷ []) p.2 (inl refl)), p.4),
  ))
