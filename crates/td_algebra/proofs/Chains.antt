-- Pairs, and the pairs that go through a middle.
use Rattle.std.proofs.Common.{◌≡◌, inl, inr, ℕ, true, false, ◌&&◌, T, cond, List, [], ◌∷◌, ◌++◌, map, Some, None, refl, sym, ap, ◌∙◌, subst}
use Rattle.std.specs.FinMap as by_name
use Rattle.std.specs.FinSet as set
use Rattle.std.specs.List.{All, filter, flat_map}
use Rattle.std.specs.Ordering.{eq_by_cmp, is_eq, is_lt}
use Rattle.std.specs.Cmp.{tied_itself}
use Rattle.std.specs.declared.cmp.Ordering.{Ordering}
use Rattle.std.specs.declared.cmp.Ordering.TheVariants.{Less, Equal, Greater}
use Rattle.td_values.specs.Attributes.{attribute_of}
use Rattle.td_values.specs.Data.{Ty, Datum, Attrs, no_attrs, attr}
use Rattle.td_values.specs.Headings.{Header}
use Rattle.td_values.specs.Order.{order, text_cmp}
use Rattle.td_values.specs.Proving.Total.{order_total, tied}
use Rattle.td_values.specs.TextOrder.{text_total}
use Rattle.td_values.specs.Rows.{RowsData, AreRows}
use Rattle.td_values.specs.Whole.{type_of}
use Rattle.td_values.proofs.Entries.{first, less}
use Rattle.td_values.proofs.TupleLemmas.{attribute_here, attribute_past}
use Rattle.td_values.proofs.Walks.{is_tied}
use Rattle.td_relations.specs.Sets.{Has, IsRelation, IsRelationOf}
use Rattle.td_tuples.specs.Parts.{attributes, Fits}
use Rattle.td_tuples.specs.Unions.{with_attribute}
use Rattle.td_tuples.proofs.Lists.{on_values, keys_of, same_name}
use Rattle.td_tuples.proofs.ByName.{IsSorted, same_tuple, sorted-tuple_of, attribute-with, fits_typed, typed_fits}
use Rattle.td_algebra.specs.Closures.{HasColumns, pair_of, pair}
use Rattle.td_algebra.specs.ForProofs.Steps.{Through, has_value, is_value, with_value, replaced, links}
use Rattle.td_algebra.proofs.Lists.{In, in_all, in_append, append_in, in_map, map_in, in_filter, filter_in, in_flat_map, flat_map_in}
use Rattle.td_algebra.proofs.Made.{has_in, in_has, has_fits, made}

module _ (a b : List ℕ) (h : Header) (k : HasColumns a b h) where
  -- the two names ascend
  pub names_rise : text_cmp a b ≡ Less
  names_rise = rises (k.ty) (subst (λ es. T (by_name.is_sorted text_cmp es)) k.are (by_name.entries_sorted h))
    where
      rises : (ty : Ty) → T (by_name.is_sorted text_cmp ((a, ty) ∷ (b, ty) ∷ [])) → text_cmp a b ≡ Less
      rises ty s = less (text_cmp a b) (first (is_lt (text_cmp a b)) true (first (is_lt (text_cmp a b) && true) (true && true) s))

  pub apart : b ≡ a → ⊥
  apart e = absurd (let p : Less ≡ Equal = sym names_rise ∙ ap (text_cmp a) e ∙ tied_itself text_total a in cc)

  abbrev pub P : Datum → Datum → Attrs
  P x y = attr a x (attr b y no_attrs)

  pub pair_is : (x y : Datum) → pair h x y ≡ P x y
  pair_is x y = ap (λ es. pair_of es x y) k.are

  pub first_value : (x y : Datum) → attribute_of a (P x y) ≡ Some x
  first_value x y = attribute_here a x (attr b y no_attrs)

  pub second_value : (x y : Datum) → attribute_of b (P x y) ≡ Some y
  second_value x y = attribute_past b a x (attr b y no_attrs) apart ∙ attribute_here b y no_attrs

  sorted_pair : (x y : Datum) → IsSorted (P x y)
  sorted_pair x y = subst (λ o. T ((is_lt o && true) && true)) (sym names_rise) tt

  -- a pair with another end
  pub with_end : (x y z : Datum) → with_attribute b y (P x z) ≡ P x y
  with_end x y z = same_tuple (with_attribute b y (P x z)) (P x y) (sorted-tuple_of ((b, y) ∷ attributes (P x z))) (sorted_pair x y) (λ n. attribute-with b y (P x z) n ∙ at n (text_cmp n a) refl (text_cmp n b) refl)
    where
      at : (n : List ℕ) (o : Ordering) → text_cmp n a ≡ o → (p : Ordering) → text_cmp n b ≡ p → cond (eq_by_cmp text_cmp n b) (Some y) (cond (eq_by_cmp text_cmp n a) (Some x) (cond (eq_by_cmp text_cmp n b) (Some z) None)) ≡ cond (eq_by_cmp text_cmp n a) (Some x) (cond (eq_by_cmp text_cmp n b) (Some y) None)
      at n Equal e Equal f = absurd (apart (sym (same_name n b f) ∙ same_name n a e))
      at n Equal e Less f = rw (e, f) refl
      at n Equal e Greater f = rw (e, f) refl
      at n Less e Equal f = rw (e, f) refl
      at n Less e Less f = rw (e, f) refl
      at n Less e Greater f = rw (e, f) refl
      at n Greater e Equal f = rw (e, f) refl
      at n Greater e Less f = rw (e, f) refl
      at n Greater e Greater f = rw (e, f) refl

  -- a tuple that fits is a pair of values of the type
  pair_fits : (ty : Ty) (t : Attrs) → on_values type_of (attributes t) ≡ (a, ty) ∷ (b, ty) ∷ [] → (x : Datum) × (y : Datum) × (t ≡ P x y) × (type_of x ≡ ty) × (type_of y ≡ ty)
  pair_fits ty no_attrs e = absurd (cc)
  pair_fits ty (attr n d no_attrs) e = absurd (cc)
  pair_fits ty (attr n d (attr m f no_attrs)) e =
      let names : n ∷ m ∷ [] ≡ a ∷ b ∷ [] = ap keys_of e in
      let types : type_of d ∷ type_of f ∷ [] ≡ ty ∷ ty ∷ [] = ap (map (λ (x : List ℕ × Ty). x.1)) e in
      let p : n ≡ a = cc in
      let q : m ≡ b = cc in
      (d, f, (λ i. attr (p i) d (attr (q i) f no_attrs)), (cc), (cc))
  pair_fits ty (attr n d (attr m f (attr l g t))) e = absurd (cc)

  pub is_pair : (t : Attrs) → Fits h t → (x : Datum) × (y : Datum) × (t ≡ P x y) × (type_of x ≡ k.ty) × (type_of y ≡ k.ty)
  is_pair t f = pair_fits k.ty t (fits_typed h t f ∙ k.are)

  pub fits_pair : (x y : Datum) → type_of x ≡ k.ty → type_of y ≡ k.ty → Fits h (P x y)
  fits_pair x y e f = typed_fits h (P x y) ((λ i. (a, e i) ∷ (b, f i) ∷ []) ∙ sym k.are)

  pub same_pair : (x y v w : Datum) → P x y ≡ P v w → (x ≡ v) × (y ≡ w)
  same_pair x y v w e = (cc, cc)

  -- ---- values at the names
  same_value : (d z : Datum) → eq_by_cmp order d z ≡ true → d ≡ z
  same_value d z e = tied d z (is_tied _ e)

  itself : (z : Datum) → eq_by_cmp order z z ≡ true
  itself z = ap is_eq (tied_itself order_total z)

  pub begins : (x y z : Datum) → has_value a z (P x y) ≡ true → x ≡ z
  begins x y z e = same_value x z (sym (ap (is_value z) (first_value x y)) ∙ e)

  pub begins_at : (y z : Datum) → has_value a z (P z y) ≡ true
  begins_at y z = ap (is_value z) (first_value z y) ∙ itself z

  pub ends : (x y z : Datum) → has_value b z (P x y) ≡ true → y ≡ z
  ends x y z e = same_value y z (sym (ap (is_value z) (second_value x y)) ∙ e)

  pub ends_at : (x z : Datum) → has_value b z (P x z) ≡ true
  ends_at x z = ap (is_value z) (second_value x z) ∙ itself z

  pub replaced_end : (x z v y : Datum) → replaced b (P x z) (P v y) ≡ P x y
  replaced_end x z v y = ap (with_value b (P x z)) (second_value v y) ∙ with_end x y z

in_links : (n : List ℕ) (z : Datum) (us : List Attrs) (t w : Attrs) → In w (links n z us t) → (has_value n z t ≡ true) × In w (map (replaced n t) us)
in_links n z us t w m = elim (has_value n z t) as (λ c. In w (cond c (map (replaced n t) us) []) → (c ≡ true) × In w (map (replaced n t) us)) [
  | true ↦ λ i. (refl, i)
  | false ↦ λ i. absurd i
] m

links_in : (n : List ℕ) (z : Datum) (us : List Attrs) (t w : Attrs) → has_value n z t ≡ true → In w (map (replaced n t) us) → In w (links n z us t)
links_in n z us t w e m = subst (λ c. In w (cond c (map (replaced n t) us) [])) (sym e) m

-- ---- the relation with the pairs through z
module _ (a b : List ℕ) (r : RowsData) (rows : AreRows r.heading r.tuples) (k : HasColumns a b r.heading) (z : Datum) (tails : List Attrs) (t_is : tails ≡ filter (has_value a z) r.tuples) (out : List Attrs) (is : out ≡ r.tuples ++ flat_map (links b z tails) r.tuples) where
  h : Header
  h = r.heading

  through_in : (w : Attrs) → In w out → Through z r w
  through_in w m = elim (in_append r.tuples (flat_map (links b z tails) r.tuples) w (subst (In w) is m)) [
    | inl old ↦ inl (in_has r w old)
    | inr new ↦
        let t = in_flat_map (links b z tails) r.tuples w new in
        let l = in_links b z tails t.0 w t.2 in
        let u = in_map (replaced b t.0) tails w l.1 in
        let tail = in_filter (has_value a z) r.tuples u.0 (subst (In u.0) t_is u.1) in
        let tp = is_pair a b r.heading k t.0 (has_fits r rows t.0 (in_has r t.0 t.1)) in
        let up = is_pair a b r.heading k u.0 (has_fits r rows u.0 (in_has r u.0 tail.0)) in
        let tz : tp.1 ≡ z = ends a b r.heading k tp.0 tp.1 z (sym (ap (has_value b z) tp.2) ∙ l.0) in
        let uz : up.0 ≡ z = begins a b r.heading k up.0 up.1 z (sym (ap (has_value a z) up.2) ∙ tail.1) in
        inr (
          tp.0,
          up.1,
          subst (Has r) (tp.2 ∙ ap (P a b r.heading k tp.0) tz ∙ sym (pair_is a b r.heading k tp.0 z)) (in_has r t.0 t.1),
          subst (Has r) (up.2 ∙ ap (λ v. P a b r.heading k v up.1) uz ∙ sym (pair_is a b r.heading k z up.1)) (in_has r u.0 tail.0),
          u.2 ∙ (λ i. replaced b (tp.2 i) (up.2 i)) ∙ replaced_end a b r.heading k tp.0 tp.1 up.0 up.1 ∙ sym (pair_is a b r.heading k tp.0 up.1),
        )
  ]

  in_through : (w : Attrs) → Through z r w → In w out
  in_through w p = subst (In w) (sym is) (append_in r.tuples (flat_map (links b z tails) r.tuples) w (elim p [
    | inl old ↦ inl (has_in r w old)
    | inr new ↦
        let x = new.0 in
        let y = new.1 in
        let t : Attrs = P a b r.heading k x z in
        let u : Attrs = P a b r.heading k z y in
        let ht : Has r t = subst (Has r) (pair_is a b r.heading k x z) new.2 in
        let hu : Has r u = subst (Has r) (pair_is a b r.heading k z y) new.3 in
        let tail : In u tails = subst (In u) (sym t_is) (filter_in (has_value a z) r.tuples u (has_in r u hu) (begins_at a b r.heading k y z)) in
        inr (flat_map_in (links b z tails) r.tuples w t (has_in r t ht) (links_in b z tails t w (ends_at a b r.heading k x z)
        (map_in (replaced b t) tails w u tail (new.4 ∙ pair_is a b r.heading k x y ∙ sym (replaced_end a b r.heading k x z z y)))))
  ]))

  through_fits : (w : Attrs) → Through z r w → Fits r.heading w
  through_fits w (inl old) = has_fits r rows w old
  through_fits w (inr new) =
      let t = is_pair a b r.heading k (P a b r.heading k new.0 z) (has_fits r rows _ (subst (Has r) (pair_is a b r.heading k new.0 z) new.2)) in
      let u = is_pair a b r.heading k (P a b r.heading k z new.1) (has_fits r rows _ (subst (Has r) (pair_is a b r.heading k z new.1) new.3)) in
      let x_typed : type_of new.0 ≡ k.ty = ap type_of (same_pair a b r.heading k new.0 z t.0 t.1 t.2).0 ∙ t.3 in
      let y_typed : type_of new.1 ≡ k.ty = ap type_of (same_pair a b r.heading k z new.1 u.0 u.1 u.2).1 ∙ u.4 in
      subst (Fits r.heading) (sym (new.4 ∙ pair_is a b r.heading k new.0 new.1)) (fits_pair a b r.heading k new.0 new.1 x_typed y_typed)

  pub through_fit : (g : Header) → g ≡ r.heading → All (Fits g) out
  through_fit g e = in_all (Fits g) out (λ w m. subst (λ v. Fits v w) (sym e) (through_fits w (through_in w m)))

  pub through_made : (g : Header) → g ≡ r.heading → (n : RowsData) → IsRelation g (set.from_list out) n → IsRelationOf r.heading (Through z r) n
  through_made g e n made_of = made g r.heading (Through z r) out n made_of e through_in in_through
