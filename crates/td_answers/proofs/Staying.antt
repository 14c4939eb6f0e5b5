-- What stays true of sites, and what happens to one of them, place by place.
use Rattle.std.proofs.Common.{◌≡◌, ◌<◌, ℕ, zero, suc, List, [], ◌∷◌, ◌++◌, ◌⊎◌, inl, inr, length, get_or, take, drop, sym, ap, ◌∙◌, subst, arith}
use Rattle.std.specs.List.{slice_set}
use Rattle.std.proofs.lemmas.List.{get_or-take}
use Rattle.td_answers.specs.Sites.{EachStays, HappensToOne}
use Rattle.td_answers.proofs.Drawing.{at_back, set_apart}

module _ {R : Type 0} (P : R → Type 0) where
  pub all_stay : (xs : List R) → EachStays P xs xs
  all_stay [] = tt
  all_stay (x ∷ xs) = (λ p. p, all_stay xs)

  pub stay_then : (xs ys zs : List R) → EachStays P xs ys → EachStays P ys zs → EachStays P xs zs
  stay_then [] [] [] p q = tt
  stay_then [] [] (z ∷ zs) p q = absurd q
  stay_then [] (y ∷ ys) zs p q = absurd p
  stay_then (x ∷ xs) [] zs p q = absurd p
  stay_then (x ∷ xs) (y ∷ ys) [] p q = absurd q
  stay_then (x ∷ xs) (y ∷ ys) (z ∷ zs) p q = (λ a. q.0 (p.0 a), stay_then xs ys zs p.1 q.1)

  -- one is put at a place
  pub stay_at : (xs : List R) (i : ℕ) (d y : R) → i < length xs → (P (get_or xs i d) → P y) → EachStays P xs (slice_set xs i y)
  stay_at [] i d y lt keeps = absurd (omega (arith, lt))
  stay_at (x ∷ xs) zero d y lt keeps = (keeps, all_stay xs)
  stay_at (x ∷ xs) (suc i) d y lt keeps = (λ p. p, stay_at xs i d y (omega (arith, lt)) keeps)

  -- two are put at two places, the first before the second
  stay_at_two : (xs : List R) (a b : ℕ) (d e x y : R) → a < b → b < length xs → (P (get_or xs a d) → P x) → (P (get_or xs b e) → P y) → EachStays P xs (slice_set (slice_set xs a x) b y)
  stay_at_two [] a b d e x y lt within p q = absurd (omega (arith, within))
  stay_at_two (z ∷ zs) a zero d e x y lt within p q = absurd (omega (arith, lt))
  stay_at_two (z ∷ zs) zero (suc b) d e x y lt within p q = (p, stay_at zs b e y (omega (arith, within)) q)
  stay_at_two (z ∷ zs) (suc a) (suc b) d e x y lt within p q = (λ h. h, stay_at_two zs a b d e x y (omega (arith, lt)) (omega (arith, within)) p q)

  -- of a list apart at the second's place, one in each part
  pub stay_apart :
      (xs front back : List R) (a b : ℕ) (d e x y : R) → front ≡ take b xs → back ≡ drop b xs → a < b → b < length xs → (P (get_or front a d) → P x) → (P (get_or back 0 e) → P y)
      → EachStays P xs (slice_set front a x ++ slice_set back 0 y)
  stay_apart xs front back a b d e x y is_front is_back lt within p q =
      let first = subst (λ (r : R). P r → P x) (ap (λ l. get_or l a d) is_front ∙ get_or-take b xs a d lt) p in
      let second = subst (λ (r : R). P r → P y) (ap (λ l. get_or l 0 e) is_back ∙ at_back xs b e) q in
      let whole = ap (λ l. slice_set l a x ++ slice_set back 0 y) is_front ∙ ap (λ l. slice_set (take b xs) a x ++ slice_set l 0 y) is_back ∙ set_apart xs a b x y lt within in
      subst (EachStays P xs) (sym whole) (stay_at_two xs a b d e x y lt within first second)

module _ {R : Type 0} (F : R → R → Type 0) where
  -- it happened to the one that is put at a place
  pub between_at : (xs : List R) (i : ℕ) (d y : R) → i < length xs → F (get_or xs i d) y → HappensToOne F xs (slice_set xs i y)
  between_at [] i d y lt f = absurd (omega (arith, lt))
  between_at (x ∷ xs) zero d y lt f = inl f
  between_at (x ∷ xs) (suc i) d y lt f = inr (between_at xs i d y (omega (arith, lt)) f)

  between_two : (xs : List R) (a b : ℕ) (d e x y : R) → a < b → b < length xs → F (get_or xs a d) x ⊎ F (get_or xs b e) y → HappensToOne F xs (slice_set (slice_set xs a x) b y)
  between_two [] a b d e x y lt within f = absurd (omega (arith, within))
  between_two (z ∷ zs) a zero d e x y lt within f = absurd (omega (arith, lt))
  between_two (z ∷ zs) zero (suc b) d e x y lt within (inl f) = inl f
  between_two (z ∷ zs) zero (suc b) d e x y lt within (inr f) = inr (between_at zs b e y (omega (arith, within)) f)
  between_two (z ∷ zs) (suc a) (suc b) d e x y lt within f = inr (between_two zs a b d e x y (omega (arith, lt)) (omega (arith, within)) f)

  pub between_apart :
      (xs front back : List R) (a b : ℕ) (d e x y : R) → front ≡ take b xs → back ≡ drop b xs → a < b → b < length xs → F (get_or front a d) x ⊎ F (get_or back 0 e) y
      → HappensToOne F xs (slice_set front a x ++ slice_set back 0 y)
  between_apart xs front back a b d e x y is_front is_back lt within f =
      let first = ap (λ l. get_or l a d) is_front ∙ get_or-take b xs a d lt in
      let second = ap (λ l. get_or l 0 e) is_back ∙ at_back xs b e in
      let there = subst (λ (r : R). F r x ⊎ F (get_or xs b e) y) first (subst (λ (r : R). F (get_or front a d) x ⊎ F r y) second f) in
      let whole = ap (λ l. slice_set l a x ++ slice_set back 0 y) is_front ∙ ap (λ l. slice_set (take b xs) a x ++ slice_set l 0 y) is_back ∙ set_apart xs a b x y lt within in
      subst (HappensToOne F xs) (sym whole) (between_two xs a b d e x y lt within there)
