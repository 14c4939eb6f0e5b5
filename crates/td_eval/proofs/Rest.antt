-- What a negated condition keeps, and what its operand selects.
use Rattle.std.proofs.Common.{◌≡◌, Bool, true, false, not, ◌&&◌, List, [], ◌∷◌, map, Result, Ok, Err, refl, sym, ap, ◌∙◌, subst, true≢false}
use Rattle.std.specs.FinSet as set
use Rattle.td_values.specs.Data.{Attrs}
use Rattle.td_values.specs.Proving.Total.{attrs_order_total, attrs_tied}
use Rattle.td_values.specs.Rows.{RowsData}
use Rattle.td_relations.specs.Sets.{IsRelationOf, body}
use Rattle.td_relations.proofs.Members.{relation_is}
use Rattle.td_algebra.specs.Functions.{minus_of, relation_from, restricted}
use Rattle.td_algebra.specs.Raising.{UnlessRaised, all_of, alone, and_all, and_then}
use Rattle.td_algebra.specs.Restricting.{RaisedIn, Restricted, select}
use Rattle.td_algebra.specs.declared.errors.Stop.{Stop}
use Rattle.td_algebra.proofs.Bridges.{restricted_is}

-- ---- a negated condition
abbrev pub negated : Result Bool Stop → Result Bool Stop
negated x = and_then x (λ b. Ok (not b))

ok_true : (b : Bool) → ◌≡◌ {A = Result Bool Stop} (Ok (not b)) (Ok true) → b ≡ false
ok_true true h = cc
ok_true false h = refl

module _ (m : Attrs → Result Bool Stop) where
  one_more : (x : Result Bool Stop) (w : Result (List Bool) Stop) → and_all (alone (negated x)) (and_then w (λ bs. Ok (map not bs))) ≡ and_then (and_all (alone x) w) (λ bs. Ok (map not bs))
  one_more (Ok b) (Ok bs) = refl
  one_more (Ok b) (Err e) = refl
  one_more (Err e) (Ok bs) = refl
  one_more (Err e) (Err f) = refl

  all_negated : (ts : List Attrs) → all_of (λ t. negated (m t)) ts ≡ and_then (all_of m ts) (λ bs. Ok (map not bs))
  all_negated [] = refl
  all_negated (t ∷ ts) = ap (and_all (alone (negated (m t)))) (all_negated ts) ∙ one_more (m t) (all_of m ts)

  module _ (r : RowsData) where
    -- the tuples that are selected are of the relation
    pub selected : (g : RowsData) → restricted m r ≡ Ok g → IsRelationOf r.heading (Restricted m r) g
    selected g is = (subst (UnlessRaised (RaisedIn m r) (IsRelationOf r.heading (Restricted m r))) is (restricted_is m r)).1

    none_raised : (g : RowsData) → restricted m r ≡ Ok g → (e : Stop) → RaisedIn m r e → ⊥
    none_raised g is = (subst (UnlessRaised (RaisedIn m r) (IsRelationOf r.heading (Restricted m r))) is (restricted_is m r)).0

module _ (m : Attrs → Result Bool Stop) (r g k : RowsData) (is : restricted m r ≡ Ok g) (rest : restricted (λ t. negated (m t)) r ≡ Ok k) where
  abbrev not_m : Attrs → Result Bool Stop
  not_m t = negated (m t)

  here : (t : Attrs) → set.contains (body k) t ≡ (set.contains (body r) t && not (set.contains (body g) t))
  here t = by (set.contains (body k) t) (set.contains (body r) t) (set.contains (body g) t) refl refl refl
    where
      by : (a b c : Bool) → set.contains (body k) t ≡ a → set.contains (body r) t ≡ b → set.contains (body g) t ≡ c → set.contains (body k) t ≡ (set.contains (body r) t && not (set.contains (body g) t))
      by a false c e f h = absurd_or a e f h
        where
          absurd_or : (a : Bool) → set.contains (body k) t ≡ a → set.contains (body r) t ≡ false → set.contains (body g) t ≡ c → set.contains (body k) t ≡ (set.contains (body r) t && not (set.contains (body g) t))
          absurd_or true e f h = absurd (true≢false (sym ((selected not_m r k rest).only t e).0 ∙ f))
          absurd_or false e f h = e ∙ ap (λ b. b && not (set.contains (body g) t)) (sym f)
      by true true true e f h = absurd (true≢false (ok_true true (sym (ap negated ((selected m r g is).only t h).1) ∙ ((selected not_m r k rest).only t e).1)))
      by false true true e f h = e ∙ (λ i. sym f i && not (sym h i))
      by a true false e f h = kept (m t) refl
        where
          kept : (x : Result Bool Stop) → m t ≡ x → set.contains (body k) t ≡ (set.contains (body r) t && not (set.contains (body g) t))
          kept (Err s) raises = absurd (none_raised m r g is s (t, f, raises))
          kept (Ok true) passes = absurd (true≢false (sym ((selected m r g is).all t (f, passes)) ∙ h))
          kept (Ok false) fails = (selected not_m r k rest).all t (f, ap negated fails) ∙ (λ i. sym f i && not (sym h i))

  pub rest_is : k ≡ minus_of r g
  unfolding minus_of
  rest_is = relation_is r.heading (set.difference (body r) (body g)) k (record {
    heading = (selected not_m r k rest).heading;
    members = set.same_set attrs_order_total attrs_tied (body k) (set.difference (body r) (body g)) (λ q. here q ∙ sym (set.contains-difference attrs_order_total (body r) (body g) q));
    ascending = (selected not_m r k rest).ascending;
  })

module _ (m : Attrs → Result Bool Stop) (r : RowsData) where
  abbrev From : (List Attrs → List Bool → List Attrs) → Result (List Bool) Stop → Result RowsData Stop
  From f w = and_then w (λ bs. Ok (relation_from r.heading (f r.tuples bs)))

  by_answers : (w : Result (List Bool) Stop) → all_of m r.tuples ≡ w → restricted (λ t. negated (m t)) r ≡ and_then (restricted m r) (λ g. Ok (minus_of r g))
  unfolding restricted
  by_answers (Err e) h = ap (From select) (all_negated m r.tuples ∙ ap (λ w. and_then w (λ bs. Ok (map not bs))) h) ∙ sym (ap (λ w. and_then (From select w) (λ g. Ok (minus_of r g))) h)
  by_answers (Ok bs) h =
      let g = relation_from r.heading (select r.tuples bs) in
      let k = relation_from r.heading (select r.tuples (map not bs)) in
      let is : restricted m r ≡ Ok g = ap (From select) h in
      let rest : restricted (λ t. negated (m t)) r ≡ Ok k = ap (From select) (all_negated m r.tuples ∙ ap (λ w. and_then w (λ bs. Ok (map not bs))) h) in
      rest ∙ ap Ok (rest_is m r g k is rest) ∙ sym (ap (λ w. and_then w (λ g. Ok (minus_of r g))) is)

  -- the rest of the relation, or the same error
  pub negated_restricts : restricted (λ t. negated (m t)) r ≡ and_then (restricted m r) (λ g. Ok (minus_of r g))
  negated_restricts = by_answers (all_of m r.tuples) refl
