-- As many different items of a list as it has are all of it.
use Rattle.std.proofs.Common.{◌≡◌, ◌⊎◌, inl, inr, ⊎_elim, ◌≤◌, suc, List, [], ◌∷◌, length, refl, ap, sym, ◌∙◌, subst, arith}
use Rattle.std.specs.Cmp.{tied_itself}
use Rattle.std.specs.List.{AllByRecursion}
use Rattle.std.specs.List.Sorted.{IsStrictlySortedBy}
use Rattle.std.specs.declared.cmp.Ordering.TheVariants.{Less, Equal}
use Rattle.std.proofs.lemmas.Map.Keys.{sorted_head, sorted_tail}
use Rattle.td_values.specs.Data.{Attrs}
use Rattle.td_values.specs.Order.{attrs_order}
use Rattle.td_values.specs.Proving.Total.{attrs_order_total}
use Rattle.td_algebra.proofs.Lists.{In}

module _ {A : Type 0} where
  -- the list without this item, once
  abbrev without : (x : A) (ts : List A) → In x ts → List A
  without x [] h = absurd h
  without x (t ∷ ts) (inl e) = ts
  without x (t ∷ ts) (inr h) = t ∷ without x ts h

  one_less : (x : A) (ts : List A) (h : In x ts) → length ts ≡ suc (length (without x ts h))
  one_less x [] h = absurd h
  one_less x (t ∷ ts) (inl e) = refl
  one_less x (t ∷ ts) (inr h) = ap suc (one_less x ts h)

  it_or_left : (x : A) (ts : List A) (h : In x ts) (y : A) → In y ts → (y ≡ x) ⊎ In y (without x ts h)
  it_or_left x [] h y q = absurd h
  it_or_left x (t ∷ ts) (inl e) y (inl f) = inl (f ∙ sym e)
  it_or_left x (t ∷ ts) (inl e) y (inr q) = inr q
  it_or_left x (t ∷ ts) (inr h) y (inl f) = inr (inl f)
  it_or_left x (t ∷ ts) (inr h) y (inr q) = ⊎_elim (λ same. inl same) (λ left. inr (inr left)) (it_or_left x ts h y q)

  -- no two of these are equal
  abbrev pub Different : List A → Type 0
  Different [] = Unit {0}
  Different (x ∷ xs) = ((y : A) → In y xs → y ≡ x → ⊥) × Different xs

  pub all_there : (xs ts : List A) → Different xs → ((y : A) → In y xs → In y ts) → length ts ≤ length xs → (y : A) → In y ts → In y xs
  all_there [] [] different within many y h = h
  all_there [] (t ∷ ts) different within many y h = absurd (omega (arith, many))
  all_there (x ∷ xs) ts different within many y h =
      let at = within x (inl refl) in
      let less = one_less x ts at in
      ⊎_elim (λ same. inl same)
      (λ left. inr (all_there xs (without x ts at) different.1
      (λ z q. ⊎_elim (λ same. absurd (different.0 z q same)) (λ k. k) (it_or_left x ts at z (within z (inr q))))
      (omega (arith, many, less)) y left))
      (it_or_left x ts at y h)

  of_all : (P : A → Type 0) (xs : List A) → AllByRecursion P xs → (y : A) → In y xs → P y
  of_all P [] all y h = absurd h
  of_all P (x ∷ xs) all y (inl e) = subst P (sym e) all.0
  of_all P (x ∷ xs) all y (inr h) = of_all P xs all.1 y h

-- tuples that ascend are different
less_apart : (x y : Attrs) → attrs_order x y ≡ Less → y ≡ x → ⊥
less_apart x y less same = let both : Less ≡ Equal = sym less ∙ ap (attrs_order x) same ∙ tied_itself attrs_order_total x in cc

pub ascending_differ : (xs : List Attrs) → IsStrictlySortedBy attrs_order xs → Different xs
ascending_differ [] up = tt
ascending_differ (x ∷ xs) up = (
  (λ y h. less_apart x y (of_all (λ z. attrs_order x z ≡ Less) xs (sorted_head attrs_order x xs up) y h)),
  ascending_differ xs (sorted_tail attrs_order x xs up),
)
