-- What an expression reads is the base relvars among those that it reaches.
use Rattle.std.proofs.Common.{◌≡◌, ◌⊎◌, inl, inr, ℕ, ◌<◌, Bool, true, false, cond, List, [], ◌∷◌, map, get_or, Option, Some, None, slice_get, refl, sym, ap, subst, ◌∙◌, arith}
use Rattle.std.specs.FinMap as by_name
use Rattle.std.specs.List.{Contains, filter, filter_map, cons_option}
use Rattle.std.specs.List.Sorted.{IsStrictlySortedBy}
use Rattle.std.specs.Ordering.{nat_cmp}
use Rattle.std.proofs.lemmas.List.Elements.{Contains-append_left, Contains-append_right, Contains-append_cases}
use Rattle.std.proofs.lemmas.List.Kept.{IsStrictlySortedBy-filter}
use Rattle.std.proofs.lemmas.Option.{slice_get-get_or, slice_get_within}
use Rattle.td_values.specs.Headings.{Header}
use Rattle.td_graph.proofs.Walks.{the_one}
use Rattle.td_syntax.specs.declared.tree.Named.{Named}
use Rattle.td_typed_trees.specs.declared.expression.BaseUnder.{BaseUnder}
use Rattle.td_typed_trees.specs.declared.expression.Expression.{Expression}
use Rattle.td_headings.specs.Catalogues.{CatalogueData}
use Rattle.td_headings.specs.Expressions.{HasAllUnder, base_of, base_at, reads}
use Rattle.td_headings.specs.Reached.{AreThose, ReadsRelvar, is_base}
use Rattle.td_headings.specs.ForProofs.WellTyped.{AllTyped}
use Rattle.td_headings.specs.declared.defined.Origin.{Origin}
use Rattle.td_headings.specs.declared.defined.Origin.TheVariants as origin

-- ---- what stands in the part of a list that passes a test
nowhere : {P : Type 0} (n : ℕ) → Contains [] n → P
nowhere n h = absurd (omega (arith, h.1))

module _ (p : ℕ → Bool) (x : ℕ) (xs ys : List ℕ) (n : ℕ) where
  first_passes : p x ≡ true → (Contains ys n → Contains xs n × (p n ≡ true)) → Contains (x ∷ []) n ⊎ Contains ys n → Contains (x ∷ xs) n × (p n ≡ true)
  first_passes e rest (inl q) = (Contains-append_left (x ∷ []) xs n q, ap p (the_one x n q) ∙ e)
  first_passes e rest (inr q) = let r = rest q in (Contains-append_right (x ∷ []) xs n r.0, r.1)

  passed : (b : Bool) → p x ≡ b → (Contains ys n → Contains xs n × (p n ≡ true)) → Contains (cond b (x ∷ ys) ys) n → Contains (x ∷ xs) n × (p n ≡ true)
  passed true e rest g = first_passes e rest (Contains-append_cases (x ∷ []) ys n g)
  passed false e rest g = let r = rest g in (Contains-append_right (x ∷ []) xs n r.0, r.1)

  passes : (b : Bool) → p x ≡ b → p n ≡ true → (Contains xs n → Contains ys n) → Contains (x ∷ []) n ⊎ Contains xs n → Contains (cond b (x ∷ ys) ys) n
  passes true f e rest (inl q) = Contains-append_left (x ∷ []) ys n q
  passes true f e rest (inr q) = Contains-append_right (x ∷ []) ys n (rest q)
  passes false f e rest (inl q) = let no : true ≡ false = sym e ∙ ap p (the_one x n q) ∙ f in cc
  passes false f e rest (inr q) = rest q

module _ (p : ℕ → Bool) where
  from_filter : (ns : List ℕ) (n : ℕ) → Contains (filter p ns) n → Contains ns n × (p n ≡ true)
  from_filter [] n h = nowhere n h
  from_filter (x ∷ xs) n h = passed p x xs (filter p xs) n (p x) refl (from_filter xs n) h

  to_filter : (ns : List ℕ) (n : ℕ) → p n ≡ true → Contains ns n → Contains (filter p ns) n
  to_filter [] n e h = nowhere n h
  to_filter (x ∷ xs) n e h = passes p x xs (filter p xs) n (p x) refl e (to_filter xs n e) (Contains-append_cases (x ∷ []) xs n h)

-- ---- base relvars by their places
module _ (c : CatalogueData) (w : AllTyped c) where
  abbrev stored : ℕ → Bool
  stored n = is_base (slice_get c.origins n)

  abbrev place_of : BaseUnder → ℕ
  place_of b = b.place

  there : (n : ℕ) (o : Origin) → slice_get c.origins n ≡ Some o → slice_get c.schema.relvars n ≡ None → ⊥
  there n o p q =
      let nobody : Named Header = record { name = []; value = by_name.empty } in
      let lt = slice_get_within c.origins n o p in
      let no : Some (get_or c.schema.relvars n nobody) ≡ None = sym (slice_get-get_or c.schema.relvars n nobody (subst (λ l. n < l) w.origin_each lt)) ∙ q in
      cc

  one : (n : ℕ) (bs : List BaseUnder) (ns : List ℕ) → map place_of bs ≡ ns → (o : Option Origin) (r : Option (Named Header)) → slice_get c.origins n ≡ o → slice_get c.schema.relvars n ≡ r → map place_of (cons_option (base_of n o r) bs) ≡ cond (is_base o) (n ∷ ns) ns
  one n bs ns rest None r p q = rest
  one n bs ns rest (Some (origin.Virtual u)) r p q = rest
  one n bs ns rest (Some (origin.Base ks u)) (Some r) p q = ap (λ ms. n ∷ ms) rest
  one n bs ns rest (Some (origin.Base ks u)) None p q = absurd (there n (origin.Base ks u) p q)

  places_are : (ns : List ℕ) → map place_of (filter_map (base_at c) ns) ≡ filter stored ns
  places_are [] = refl
  places_are (n ∷ ns) = one n (filter_map (base_at c) ns) (filter stored ns) (places_are ns) (slice_get c.origins n) (slice_get c.schema.relvars n) refl refl

  pub reads_those : (x : Expression) → HasAllUnder c x → AreThose (ReadsRelvar c.origins x.tree) (reads x)
  reads_those x u =
      let same : reads x ≡ filter stored u.relvars = ap (map place_of) u.bases ∙ places_are u.relvars in
      record {
        members = λ n. (
          (λ m. let r = from_filter stored u.relvars n (subst (λ l. Contains l n) same m) in ((u.reached.members n).0 r.0, r.1)),
          (λ m. subst (λ l. Contains l n) (sym same) (to_filter stored u.relvars n m.1 ((u.reached.members n).1 m.0))),
        );
        ascending = subst (IsStrictlySortedBy nat_cmp) (sym same) (IsStrictlySortedBy-filter nat_cmp stored u.relvars u.reached.ascending);
      }
