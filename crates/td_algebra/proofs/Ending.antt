-- The closure by a walk from each value: its ends, their links, and the pairs that these make.
use Rattle.std.proofs.Common.{◌≡◌, ◌↔◌, inl, inr, ℕ, zero, suc, ◌+◌, ◌<◌, nat_eq, true, false, List, [], ◌∷◌, ◌++◌, length, get_or, Option, Some, Result, Ok, Err, refl, sym, ap, ◌∙◌, subst, true≢false, arith}
use Rattle.std.specs.declared.cmp.Ordering.TheVariants.{Less, Equal}
use Rattle.std.specs.Cmp.{tied_itself}
use Rattle.std.specs.FinMap as by_name
use Rattle.std.specs.FinSet as set
use Rattle.std.specs.List.{All, Contains, flat_map}
use Rattle.std.specs.List.Sorted.{IsStrictlySortedBy, IsBinarySearchResult, IsSearchInRange}
use Rattle.std.specs.Prelude.{replicate, slice_get}
use Rattle.std.specs.Result.{result_ok}
use Rattle.std.proofs.lemmas.Bool.{cases_order}
use Rattle.std.proofs.lemmas.Bool.Decides.{nat_tests}
use Rattle.std.proofs.lemmas.List.{get_or-set_other, get_or-set_same, length-set, length-replicate}
use Rattle.std.proofs.lemmas.List.Elements.{Contains-append_left, Contains-append_right, Contains-append_cases}
use Rattle.std.proofs.lemmas.Map.Keys.{Less-from_sorted}
use Rattle.std.proofs.lemmas.Option.{get_or_from_slice_get, slice_get-get_or, slice_get_within}
use Rattle.td_values.specs.Attributes.{attribute_of}
use Rattle.td_values.specs.Data.{Ty, Datum, Attrs, no_attrs, attr}
use Rattle.td_values.specs.Headings.{Header}
use Rattle.td_values.specs.Order.{attrs_order}
use Rattle.td_values.specs.Rows.{RowsData, AreRows}
use Rattle.td_values.specs.Proving.Total.{attrs_order_total}
use Rattle.td_values.specs.Whole.{type_of}
use Rattle.td_values.proofs.TupleLemmas.{attribute_here}
use Rattle.td_relations.specs.Sets.{Has, IsRelation, IsRelationOf, tuple_set}
use Rattle.td_relations.proofs.Members.{contains_listed, has_listed}
use Rattle.td_relations.proofs.Searches.{searched}
use Rattle.td_tuples.specs.Parts.{Fits}
use Rattle.td_algebra.specs.Closures.{HasColumns, IsBinary, HasPair, Linked, Closed}
use Rattle.td_algebra.specs.ForProofs.Ends.{single, singles, ends_in, HasEnd, IsEnd, Joins, AreLinks, paired, pair_at, ArePairs}
use Rattle.td_algebra.specs.ForProofs.Links.{LeadsOn, Leads, Reaches, StayWithin}
use Rattle.td_algebra.proofs.Chains.{pair_is, first_value, second_value, is_pair, fits_pair, same_pair}
use Rattle.td_algebra.proofs.Lists.{In, in_contains, contains_in, in_all, append_in, in_flat_map, flat_map_in}
use Rattle.td_algebra.proofs.Made.{in_has, has_fits, made}

-- ---- lists
none_led : (n v : ℕ) → get_or {A = List ℕ} (replicate n []) v [] ≡ []
none_led zero v = refl
none_led (suc n) zero = refl
none_led (suc n) (suc v) = none_led n v

only_one : {X : Type 0} (x y : X) → Contains (x ∷ []) y → y ≡ x
only_one x y h = elim (contains_in (x ∷ []) y h) [ inl e ↦ e | inr none ↦ absurd none ]

the_one : {X : Type 0} (x y : X) → y ≡ x → Contains (x ∷ []) y
the_one x y e = in_contains (x ∷ []) y (inl e)

none_there : {X G : Type 0} (x : X) → Contains [] x → G
none_there x h = absurd (omega (arith, h.1))

-- ---- places of ends
module _ (a : List ℕ) (ends : List Attrs) where
  same_end : (x y : Datum) (v : ℕ) → IsEnd ends a x v → IsEnd ends a y v → x ≡ y
  same_end x y v p q = let e : Some (single a x) ≡ Some (single a y) = sym p ∙ q in cc

  pub end_within : (x : Datum) (v : ℕ) → IsEnd ends a x v → v < length ends
  end_within x v p = slice_get_within ends v (single a x) p

  not_below : IsStrictlySortedBy attrs_order ends → (x : Datum) (v w : ℕ) → v < w → IsEnd ends a x v → IsEnd ends a x w → ⊥
  not_below up x v w lt p q =
      let t = single a x in
      let rises = Less-from_sorted attrs_order ends v w t up lt (slice_get_within ends w t q) in
      let same : attrs_order t t ≡ Less = sym (λ i. attrs_order (get_or_from_slice_get ends v t t p i) (get_or_from_slice_get ends w t t q i)) ∙ rises in
      let itself : Less ≡ Equal = sym same ∙ tied_itself attrs_order_total t in
      absurd (cc)

  same_place : IsStrictlySortedBy attrs_order ends → (x : Datum) (v w : ℕ) → IsEnd ends a x v → IsEnd ends a x w → v ≡ w
  same_place up x v w p q = elim (cases_order v w) [
    | inl same ↦ same
    | inr apart ↦ elim apart [ inl lt ↦ absurd (not_below up x v w lt p q) | inr gt ↦ absurd (not_below up x w v gt q p) ]
  ]

  -- the value at a place
  value_at : (x : Datum) (v : ℕ) → IsEnd ends a x v → attribute_of a (get_or ends v no_attrs) ≡ Some x
  value_at x v p = ap (attribute_of a) (get_or_from_slice_get ends v (single a x) no_attrs p) ∙ attribute_here a x no_attrs

  pair_there : (b : List ℕ) (x y : Datum) (v w : ℕ) → IsEnd ends a x v → IsEnd ends a y w → pair_at a b ends v w ≡ attr a x (attr b y no_attrs) ∷ []
  pair_there b x y v w p q = (λ i. paired a b (value_at x v p i) (value_at y w q i))

-- ---- links
module _ (a b : List ℕ) (ends : List Attrs) where
  pub no_links : AreLinks a b ends [] (replicate (length ends) [])
  no_links = record {
    many = length-replicate (length ends) [];
    sound = λ v w h. none_there w (subst (λ ws. Contains ws w) (none_led (length ends) v) h);
    complete = λ x y h. none_there _ h;
  }

  module _ (ts : List Attrs) (links new : List (List ℕ)) (x y : Datum) (are : AreLinks a b ends ts links) (joins : Joins ends a x y links new) where
    abbrev from : ℕ
    from = joins.0

    abbrev to : ℕ
    to = joins.1

    within : from < length links
    within = let e = end_within a ends x from joins.2 in omega (arith, e, are.many)

    here : get_or new from [] ≡ get_or links from [] ++ to ∷ []
    here = ap (λ l. get_or l from []) joins.4 ∙ get_or-set_same links from (get_or links from [] ++ to ∷ []) [] within

    elsewhere : (v : ℕ) → (v ≡ from → ⊥) → get_or new v [] ≡ get_or links v []
    elsewhere v apart = ap (λ l. get_or l v []) joins.4 ∙ get_or-set_other links from v (get_or links from [] ++ to ∷ []) [] apart

    still : (v w : ℕ) → LeadsOn links v w → LeadsOn new v w
    still v w h = elim (nat_eq v from) as (λ d. nat_eq v from ≡ d → LeadsOn new v w) [
      | true ↦ λ e.
          let is : v ≡ from = grind (arith, nat_tests, e) in
          subst (λ u. LeadsOn new u w) (sym is) (subst (λ ws. Contains ws w) (sym here) (Contains-append_left (get_or links from []) (to ∷ []) w (subst (λ u. LeadsOn links u w) is h)))
      | false ↦ λ e.
          let apart : v ≡ from → ⊥ = λ is. absurd (grind (arith, nat_tests, e, is)) in
          subst (λ ws. Contains ws w) (sym (elsewhere v apart)) h
    ] refl

    abbrev More : ℕ → ℕ → Type 0
    More v w = (x2 : Datum) × (y2 : Datum) × IsEnd ends a x2 v × IsEnd ends a y2 w × Contains (ts ++ attr a x (attr b y no_attrs) ∷ []) (attr a x2 (attr b y2 no_attrs))

    old_link : (v w : ℕ) → LeadsOn links v w → More v w
    old_link v w h = let s = are.sound v w h in (s.0, s.1, s.2, s.3, Contains-append_left ts _ _ s.4)

    new_link : (v w : ℕ) → v ≡ from → w ≡ to → More v w
    new_link v w e f = (
      x,
      y,
      subst (IsEnd ends a x) (sym e) joins.2,
      subst (IsEnd ends a y) (sym f) joins.3,
      Contains-append_right ts _ _ (the_one _ _ refl),
    )

    pub more_links : AreLinks a b ends (ts ++ attr a x (attr b y no_attrs) ∷ []) new
    more_links = record {
      many = ap length joins.4 ∙ length-set links from _ ∙ are.many;
      sound = λ v w h. elim (nat_eq v from) as (λ d. nat_eq v from ≡ d → More v w) [
        | true ↦ λ e.
            let is : v ≡ from = grind (arith, nat_tests, e) in
            elim (Contains-append_cases (get_or links from []) (to ∷ []) w (subst (λ ws. Contains ws w) here (subst (λ u. LeadsOn new u w) is h))) [
              | inl old ↦ old_link v w (subst (λ u. LeadsOn links u w) (sym is) old)
              | inr last ↦ new_link v w is (only_one to w last)
            ]
        | false ↦ λ e.
            let apart : v ≡ from → ⊥ = λ is. absurd (grind (arith, nat_tests, e, is)) in
            old_link v w (subst (λ ws. Contains ws w) (elsewhere v apart) h)
      ] refl;
      complete = λ x2 y2 h. elim (Contains-append_cases ts (attr a x (attr b y no_attrs) ∷ []) (attr a x2 (attr b y2 no_attrs)) h) [
        | inl old ↦ let k = are.complete x2 y2 old in (k.0, k.1, k.2, k.3, still k.0 k.1 k.4)
        | inr last ↦
            let e : attr a x2 (attr b y2 no_attrs) ≡ attr a x (attr b y no_attrs) = only_one _ _ last in
            let ex : x2 ≡ x = cc in
            let ey : y2 ≡ y = cc in (
              from,
              to,
              subst (λ z. IsEnd ends a z from) (sym ex) joins.2,
              subst (λ z. IsEnd ends a z to) (sym ey) joins.3,
              subst (λ ws. Contains ws to) (sym here) (Contains-append_right (get_or links from []) (to ∷ []) to (the_one to to refl)),
            )
      ];
    }

  -- what is led to is an end
  pub links_stay : (ts : List Attrs) (links : List (List ℕ)) → AreLinks a b ends ts links → StayWithin (length links) links
  links_stay ts links are v w h =
      let s = are.sound v w h in
      let lt = end_within a ends s.1 w s.3 in
      omega (arith, lt, are.many)

reach_within : (n : ℕ) (links : List (List ℕ)) → StayWithin n links → (zs : List ℕ) (v w : ℕ) → Leads links v zs w → w < n
reach_within n links stay [] v w l = stay v w l
reach_within n links stay (z ∷ zs) v w l = reach_within n links stay zs z w l.1

pub reached_within : (n : ℕ) (links : List (List ℕ)) (v : ℕ) (ws : List ℕ) → StayWithin n links → ((w : ℕ) → Contains ws w ↔ Reaches links v w) → All (λ w. w < n) ws
reached_within n links v ws stay are = in_all (λ w. w < n) ws (λ w m. let r = (are w).0 (in_contains ws w m) in reach_within n links stay r.0 v w r.1)

-- ---- pairs of places
module _ (a b : List ℕ) (ends : List Attrs) (links : List (List ℕ)) where
  pub pairs_none : (out : List Attrs) → out ≡ [] → ArePairs a b ends links 0 out
  pairs_none out is t = (λ c. none_there t (subst (λ us. Contains us t) is c), λ p. absurd (omega (arith, p.2)))

  pub pairs_more : (n : ℕ) (out : List Attrs) (ws : List ℕ) (new : List Attrs) → ArePairs a b ends links n out → ((w : ℕ) → Contains ws w ↔ Reaches links n w) → new ≡ out ++ flat_map (pair_at a b ends n) ws → ArePairs a b ends links (n + 1) new
  pairs_more n out ws new are same is t =
      let more = flat_map (pair_at a b ends n) ws in (
        λ c. elim (Contains-append_cases out more t (subst (λ us. Contains us t) is c)) [
          | inl old ↦ let p = (are t).0 old in (p.0, p.1, omega (arith, p.2), p.3, p.4)
          | inr last ↦
              let m = in_flat_map (pair_at a b ends n) ws t (contains_in more t last) in
              (n, m.0, omega arith, (same m.0).0 (in_contains ws m.0 m.1), in_contains (pair_at a b ends n m.0) t m.2)
        ],
        λ p. subst (λ us. Contains us t) (sym is) (elim (nat_eq p.0 n) as (λ d. nat_eq p.0 n ≡ d → Contains (out ++ more) t) [
          | true ↦ λ e.
              let here : p.0 ≡ n = grind (arith, nat_tests, e) in
              let w_in = contains_in ws p.1 ((same p.1).1 (subst (λ v. Reaches links v p.1) here p.3)) in
              let t_in = contains_in (pair_at a b ends n p.1) t (subst (λ v. Contains (pair_at a b ends v p.1) t) here p.4) in
              Contains-append_right out more t (in_contains more t (flat_map_in (pair_at a b ends n) ws t p.1 w_in t_in))
          | false ↦ λ e.
              let lt : p.0 < n = grind (arith, nat_tests, e, p.2) in
              Contains-append_left out more t ((are t).1 (p.0, p.1, lt, p.3, p.4))
        ] refl),
      )

-- where a binary search finds an end
pub placed : (ends : List Attrs) (end : Attrs) → IsStrictlySortedBy attrs_order ends → (r : Result ℕ ℕ) → IsSearchInRange r (length ends) → IsBinarySearchResult (λ y. attrs_order y end) ends r → (o : Option ℕ) → o ≡ result_ok r → set.contains (tuple_set ends) end ≡ true → (v : ℕ) × (o ≡ Some v) × (slice_get ends v ≡ Some end)
placed ends end up (Ok i) range found o is has =
    let at = (searched ends end up (Ok i) range found).found in
    (i, is, slice_get-get_or ends i end at.in_range ∙ ap Some at.is)
placed ends end up (Err i) range found o is has = absurd (true≢false (sym has ∙ (searched ends end up (Err i) range found).absent.absent))

-- the two columns, by their places in the heading
pub columns_at : (h : Header) (k : IsBinary h) (fields : List (List ℕ × Ty)) (d e : List ℕ × Ty) → fields ≡ by_name.entries h → HasColumns (get_or fields 0 d).0 (get_or fields 1 e).0 h
columns_at h k fields d e is =
    let ty = k.columns.ty in
    record { ty = ty; are = k.columns.are ∙ ap (λ es. ((get_or es 0 d).0, ty) ∷ ((get_or es 1 e).0, ty) ∷ []) (sym (is ∙ k.columns.are)) }

-- ---- chains
module _ (a b : List ℕ) (r : RowsData) (rows : AreRows r.heading r.tuples) (k : HasColumns a b r.heading) where
  abbrev Q : Datum → Datum → Attrs
  Q x y = attr a x (attr b y no_attrs)

  has_listed_pair : (x y : Datum) → HasPair r x y → Contains r.tuples (Q x y)
  has_listed_pair x y has = (has_listed r (Q x y)).0 (subst (Has r) (pair_is a b r.heading k x y) has)

  listed_has_pair : (x y : Datum) → Contains r.tuples (Q x y) → HasPair r x y
  listed_has_pair x y c = subst (Has r) (sym (pair_is a b r.heading k x y)) ((has_listed r (Q x y)).1 c)

  -- the values of a pair have the type
  pair_typed : (x y : Datum) → HasPair r x y → (type_of x ≡ k.ty) × (type_of y ≡ k.ty)
  pair_typed x y has =
      let t = is_pair a b r.heading k (Q x y) (has_fits r rows _ (subst (Has r) (pair_is a b r.heading k x y) has)) in
      let same = same_pair a b r.heading k x y t.0 t.1 t.2 in
      (ap type_of same.0 ∙ t.3, ap type_of same.1 ∙ t.4)

  first_typed : (x y : Datum) (zs : List Datum) → Linked r x zs y → type_of x ≡ k.ty
  first_typed x y [] l = (pair_typed x y l).0
  first_typed x y (z ∷ zs) l = (pair_typed x z l.0).0

  last_typed : (x y : Datum) (zs : List Datum) → Linked r x zs y → type_of y ≡ k.ty
  last_typed x y [] l = (pair_typed x y l).1
  last_typed x y (z ∷ zs) l = last_typed z y zs l.1

  closed_fits : (u : Attrs) → Closed r u → Fits r.heading u
  closed_fits u c = subst (Fits r.heading) (sym (c.4 ∙ pair_is a b r.heading k c.0 c.1)) (fits_pair a b r.heading k c.0 c.1 (first_typed c.0 c.1 c.2 c.3) (last_typed c.0 c.1 c.2 c.3))

  -- ---- the ends
  module _ (ends : List Attrs) (all : tuple_set ends ≡ tuple_set (flat_map (ends_in a b) r.tuples)) where
    has_end : (t : Attrs) → In t r.tuples → (x : Datum) → In (single a x) (ends_in a b t) → HasEnd ends a x
    has_end t m x e = ap (λ s. set.contains s (single a x)) all ∙ (contains_listed (flat_map (ends_in a b) r.tuples) (single a x)).1 (in_contains _ _ (flat_map_in (ends_in a b) r.tuples (single a x) t m e))

    pub has_first : (t : Attrs) (x : Datum) → In t r.tuples → attribute_of a t ≡ Some x → HasEnd ends a x
    has_first t x m is = has_end t m x (append_in (singles a (attribute_of a t)) (singles a (attribute_of b t)) (single a x) (inl (subst (λ o. In (single a x) (singles a o)) (sym is) (inl refl))))

    pub has_second : (t : Attrs) (y : Datum) → In t r.tuples → attribute_of b t ≡ Some y → HasEnd ends a y
    has_second t y m is = has_end t m y (append_in (singles a (attribute_of a t)) (singles a (attribute_of b t)) (single a y) (inr (subst (λ o. In (single a y) (singles a o)) (sym is) (inl refl))))

  -- a step of the walk that makes the links
  module _ (ends : List Attrs) (all : tuple_set ends ≡ tuple_set (flat_map (ends_in a b) r.tuples)) (t : Attrs) (m : In t r.tuples) (ts : List Attrs) (links new : List (List ℕ)) (are : AreLinks a b ends ts links) (step : (x y : Datum) → attribute_of a t ≡ Some x → attribute_of b t ≡ Some y → HasEnd ends a x → HasEnd ends a y → Joins ends a x y links new) where
    pub links_step : AreLinks a b ends (ts ++ t ∷ []) new
    links_step =
        let p = is_pair a b r.heading k t (has_fits r rows t (in_has r t m)) in
        let x = p.0 in
        let y = p.1 in
        let at_a : attribute_of a t ≡ Some x = ap (attribute_of a) p.2 ∙ first_value a b r.heading k x y in
        let at_b : attribute_of b t ≡ Some y = ap (attribute_of b) p.2 ∙ second_value a b r.heading k x y in
        let joins = step x y at_a at_b (has_first ends all t x m at_a) (has_second ends all t y m at_b) in
        subst (λ u. AreLinks a b ends (ts ++ u ∷ []) new) (sym p.2) (more_links a b ends ts links new x y are joins)

  -- ---- the pairs
  module _ (ends : List Attrs) (up : IsStrictlySortedBy attrs_order ends) (links : List (List ℕ)) (are : AreLinks a b ends r.tuples links) where
    sound_chain : (zs : List ℕ) (v w : ℕ) → Leads links v zs w → (x : Datum) × (y : Datum) × IsEnd ends a x v × IsEnd ends a y w × (ws : List Datum) × Linked r x ws y
    sound_chain [] v w l = let s = are.sound v w l in (s.0, s.1, s.2, s.3, [], listed_has_pair s.0 s.1 s.4)
    sound_chain (z ∷ zs) v w l =
        let s = are.sound v z l.0 in
        let rest = sound_chain zs z w l.1 in
        let same = same_end a ends s.1 rest.0 z s.3 rest.2 in
        (s.0, rest.1, s.2, rest.3, rest.0 ∷ rest.4, (subst (λ u. HasPair r s.0 u) same (listed_has_pair s.0 s.1 s.4), rest.5))

    complete_chain : (zs : List Datum) (x y : Datum) (v : ℕ) → IsEnd ends a x v → Linked r x zs y → (w : ℕ) × IsEnd ends a y w × Reaches links v w
    complete_chain [] x y v e l =
        let s = are.complete x y (has_listed_pair x y l) in
        (s.1, s.3, ([], subst (λ u. LeadsOn links u s.1) (same_place a ends up x s.0 v s.2 e) s.4))
    complete_chain (z ∷ zs) x y v e l =
        let s = are.complete x z (has_listed_pair x z l.0) in
        let rest = complete_chain zs z y s.1 s.3 l.1 in
        (rest.0, rest.1, (s.1 ∷ rest.2.0, (subst (λ u. LeadsOn links u s.1) (same_place a ends up x s.0 v s.2 e) s.4, rest.2.1)))

    begins : (zs : List Datum) (x y : Datum) → Linked r x zs y → (v : ℕ) × IsEnd ends a x v
    begins [] x y l = let s = are.complete x y (has_listed_pair x y l) in (s.0, s.2)
    begins (z ∷ zs) x y l = let s = are.complete x z (has_listed_pair x z l.0) in (s.0, s.2)

    module _ (out : List Attrs) (pairs : ArePairs a b ends links (length ends) out) where
      out_closed : (t : Attrs) → In t out → Closed r t
      out_closed t m =
          let p = (pairs t).0 (in_contains out t m) in
          let s = sound_chain p.3.0 p.0 p.1 p.3.1 in
          let is = only_one _ t (subst (λ us. Contains us t) (pair_there a ends b s.0 s.1 p.0 p.1 s.2 s.3) p.4) in
          (s.0, s.1, s.4, s.5, is ∙ sym (pair_is a b r.heading k s.0 s.1))

      closed_out : (t : Attrs) → Closed r t → In t out
      closed_out t c =
          let start = begins c.2 c.0 c.1 c.3 in
          let end = complete_chain c.2 c.0 c.1 start.0 start.1 c.3 in
          let here = pair_there a ends b c.0 c.1 start.0 end.0 start.1 end.1 in
          contains_in out t ((pairs t).1 (start.0, end.0, end_within a ends c.0 start.0 start.1, end.2, subst (λ us. Contains us t) (sym here) (the_one _ t (c.4 ∙ pair_is a b r.heading k c.0 c.1))))

      pub closed_fit : (h : Header) → h ≡ r.heading → All (Fits h) out
      closed_fit h e = in_all (Fits h) out (λ t m. subst (λ g. Fits g t) (sym e) (closed_fits t (out_closed t m)))

      pub closed_made : (h : Header) → h ≡ r.heading → (n : RowsData) → IsRelation h (set.from_list out) n → IsRelationOf r.heading (Closed r) n
      closed_made h e n made_of = made h r.heading (Closed r) out n made_of e out_closed closed_out
