-- A walk along two ascending lists, step by step: which elements it keeps, and that they ascend.
use Rattle.std.proofs.Common.{◌≡◌, ℕ, zero, suc, ◌-◌, ◌<◌, ◌≤◌, Bool, true, false, ◌&&◌, ◌||◌, cond, List, [], ◌∷◌, ◌++◌, length, take, drop, inl, inr, length-drop, refl, sym, ap, ◌∙◌, subst, arith}
use Rattle.std.specs.declared.cmp.Ordering.{Ordering}
use Rattle.std.specs.declared.cmp.Ordering.TheVariants.{Less, Equal, Greater}
use Rattle.std.specs.Ordering.{eq_by_cmp, is_eq, match_ordering}
use Rattle.std.specs.Cmp.{IsTotalOrder}
use Rattle.std.specs.List.{AllByRecursion, list_any}
use Rattle.std.specs.List.Sorted.{IsStrictlySortedBy}
use Rattle.std.specs.FinSet as set
use Rattle.std.proofs.lemmas.Bool.{cases_lt}
use Rattle.td_relations.proofs.Sorted.{none_above, below_cons, greater_less}

-- whether an element is kept that is in the first list or not, and in the second or not
abbrev pub kept : Bool → Bool → Bool → Bool → Bool → Bool
kept f b s true true = b
kept f b s true false = f
kept f b s false true = s
kept f b s false false = false

-- ---- the tests of one step
in_first : (f b s e p q : Bool) → (e ≡ true → p ≡ false) → (e ≡ true → q ≡ false) → ((f && e) || kept f b s p q) ≡ kept f b s (e || p) q
in_first true b s true p q u v = λ i. kept true b s true (sym (v refl) i)
in_first false b s true p q u v = (λ i. kept false b s (u refl i) (v refl i)) ∙ (λ i. kept false b s true (sym (v refl) i))
in_first true b s false p q u v = refl
in_first false b s false p q u v = refl

in_both : (f b s e p q : Bool) → (e ≡ true → p ≡ false) → (e ≡ true → q ≡ false) → ((b && e) || kept f b s p q) ≡ kept f b s (e || p) (e || q)
in_both f true s true p q u v = refl
in_both f false s true p q u v = λ i. kept f false s (u refl i) (v refl i)
in_both f true s false p q u v = refl
in_both f false s false p q u v = refl

in_second : (f b s e p q : Bool) → (e ≡ true → p ≡ false) → (e ≡ true → q ≡ false) → ((s && e) || kept f b s p q) ≡ kept f b s p (e || q)
in_second f b true true p q u v = λ i. kept f b true (sym (u refl) i) true
in_second f b false true p q u v = (λ i. kept f b false (u refl i) (v refl i)) ∙ (λ i. kept f b false (sym (u refl) i) true)
in_second f b true false p q u v = refl
in_second f b false false p q u v = refl

first_alone : (f b s p : Bool) → (f && p) ≡ kept f b s p false
first_alone true b s true = refl
first_alone false b s true = refl
first_alone true b s false = refl
first_alone false b s false = refl

second_alone : (f b s p : Bool) → (s && p) ≡ kept f b s false p
second_alone f b true true = refl
second_alone f b false true = refl
second_alone f b true false = refl
second_alone f b false false = refl

module _ {X : Type 0} where
  abbrev pub put : Bool → X → List X → List X
  put keep x zs = cond keep (x ∷ zs) zs

  abbrev pub some : Bool → List X → List X
  some keep zs = cond keep zs []

  any_put : (p : X → Bool) (keep : Bool) (x : X) (zs : List X) → list_any p (put keep x zs) ≡ ((keep && p x) || list_any p zs)
  any_put p true x zs = refl
  any_put p false x zs = refl

  any_some : (p : X → Bool) (keep : Bool) (zs : List X) → list_any p (some keep zs) ≡ (keep && list_any p zs)
  any_some p true zs = refl
  any_some p false zs = refl

  all_put : (P : X → Type 0) (keep : Bool) (x : X) (zs : List X) → P x → AllByRecursion P zs → AllByRecursion P (put keep x zs)
  all_put P true x zs h a = (h, a)
  all_put P false x zs h a = a

  all_some : (P : X → Type 0) (keep : Bool) (zs : List X) → AllByRecursion P zs → AllByRecursion P (some keep zs)
  all_some P true zs a = a
  all_some P false zs a = tt

  some_nothing : (keep : Bool) → some keep [] ≡ []
  some_nothing true = refl
  some_nothing false = refl

  append_nothing : (xs : List X) → xs ++ [] ≡ xs
  append_nothing [] = refl
  append_nothing (x ∷ xs) = ap (λ r. x ∷ r) (append_nothing xs)

  by_rank : (P : List X → Type 0) (k : Ordering) (xs ys zs : List X) → (k ≡ Less → P xs) → (k ≡ Equal → P ys) → (k ≡ Greater → P zs) → P (match_ordering k xs ys zs)
  by_rank P Less xs ys zs a b c = a refl
  by_rank P Equal xs ys zs a b c = b refl
  by_rank P Greater xs ys zs a b c = c refl

-- ---- the walk that keeps what is in the first alone (f), in both (b), in the second alone (s)
module _ {X : Type 0} (R : X → X → Ordering) (f b s : Bool) where
  abbrev pub step : (x : X) (xs : List X) (on : List X → List X) → List X → List X
  step x xs on [] = some f (x ∷ xs)
  step x xs on (y ∷ ys) = match_ordering (R x y) (put f x (on (y ∷ ys))) (put b x (on ys)) (put s y (step x xs on ys))

  abbrev pub walk : List X → List X → List X
  walk [] ys = some s ys
  walk (x ∷ xs) ys = step x xs (walk xs) ys

  all_step : (P : X → Type 0) (x : X) (xs : List X) (on : List X → List X) → P x → AllByRecursion P xs → ((ys : List X) → AllByRecursion P ys → AllByRecursion P (on ys)) → (ys : List X) → AllByRecursion P ys → AllByRecursion P (step x xs on ys)
  all_step P x xs on h a k [] c = all_some P f (x ∷ xs) (h, a)
  all_step P x xs on h a k (y ∷ ys) c = by_rank (AllByRecursion P) (R x y) _ _ _
      (λ _. all_put P f x _ h (k (y ∷ ys) c)) (λ _. all_put P b x _ h (k ys c.1)) (λ _. all_put P s y _ c.0 (all_step P x xs on h a k ys c.1))

  all_walk : (P : X → Type 0) (xs ys : List X) → AllByRecursion P xs → AllByRecursion P ys → AllByRecursion P (walk xs ys)
  all_walk P [] ys a c = all_some P s ys c
  all_walk P (x ∷ xs) ys a c = all_step P x xs (walk xs) a.0 a.1 (λ zs. all_walk P xs zs a.1) ys c

  -- ---- the end of a loop: one list has ended
  drop_all : (xs : List X) (i : ℕ) → length xs ≤ i → drop i xs ≡ []
  drop_all [] zero h = refl
  drop_all [] (suc i) h = refl
  drop_all (x ∷ xs) zero h = absurd (omega arith)
  drop_all (x ∷ xs) (suc i) h = drop_all xs i (omega arith)

  first_left : (zs : List X) → some f zs ++ some s [] ≡ walk zs []
  first_left [] = ap (λ r. r ++ some s []) (some_nothing f)
  first_left (z ∷ zs) = ap (λ r. some f (z ∷ zs) ++ r) (some_nothing s) ∙ append_nothing (some f (z ∷ zs))

  pub ended : (xs ys : List X) (i j : ℕ) → (i < length xs → j < length ys → ⊥) → some f (drop i xs) ++ some s (drop j ys) ≡ walk (drop i xs) (drop j ys)
  ended xs ys i j h = elim (cases_lt i (length xs)) [
    | inr a ↦ rw (drop_all xs i a) (ap (λ r. r ++ some s (drop j ys)) (some_nothing f))
    | inl a ↦ rw (drop_all ys j (elim (cases_lt j (length ys)) [ inr b ↦ b | inl b ↦ absurd (h a b) ])) (first_left (drop i xs))
  ]

-- ---- where one list has ended, what is left of the other is what that one still has alone
module _ {X : Type 0} (R : X → X → Ordering) (xs ys : List X) (i j : ℕ) (h : i < length xs → j < length ys → ⊥) where
  pub left_of_first : drop i xs ≡ walk R true false false (drop i xs) (drop j ys)
  left_of_first = sym (append_nothing (drop i xs)) ∙ ended R true false false xs ys i j h

  pub left_of_second : drop j ys ≡ walk R false false true (drop i xs) (drop j ys)
  left_of_second = ended R false false true xs ys i j h

-- what `&xs[i..]` is
take_all : {X : Type 0} (n : ℕ) (xs : List X) → length xs ≤ n → take n xs ≡ xs
take_all zero [] h = refl
take_all zero (x ∷ xs) h = absurd (omega arith)
take_all (suc n) [] h = refl
take_all (suc n) (x ∷ xs) h = ap (λ r. x ∷ r) (take_all n xs (omega arith))

pub rest_of : {X : Type 0} (xs : List X) (i : ℕ) → take (length xs - i) (drop i xs) ≡ drop i xs
rest_of xs i = take_all (length xs - i) (drop i xs) (omega (arith, length-drop i xs))

-- ---- along ascending lists
module _ {X : Type 0} {R : X → X → Ordering} (o : IsTotalOrder R) (same : set.IsAntisymmetric R) (f b s : Bool) where
  abbrev Below : X → List X → Type 0
  Below x ys = AllByRecursion (λ y. R x y ≡ Less) ys

  sorted_put : (keep : Bool) (x : X) (zs : List X) → Below x zs → IsStrictlySortedBy R zs → IsStrictlySortedBy R (put keep x zs)
  unfolding IsStrictlySortedBy
  sorted_put true x zs a t = (a, t)
  sorted_put false x zs a t = t

  sorted_some : (keep : Bool) (zs : List X) → IsStrictlySortedBy R zs → IsStrictlySortedBy R (some keep zs)
  unfolding IsStrictlySortedBy
  sorted_some true zs t = t
  sorted_some false zs t = tt

  sorted_step : (x : X) (xs : List X) → IsStrictlySortedBy R (x ∷ xs) → ((ys : List X) → IsStrictlySortedBy R ys → IsStrictlySortedBy R (walk R f b s xs ys)) → (ys : List X) → IsStrictlySortedBy R ys → IsStrictlySortedBy R (walk R f b s (x ∷ xs) ys)
  unfolding IsStrictlySortedBy
  sorted_step x xs up rest [] t = sorted_some f (x ∷ xs) up
  sorted_step x xs up rest (y ∷ ys) t = by_rank (IsStrictlySortedBy R) (R x y) _ _ _
      (λ k. sorted_put f x _ (all_walk R f b s (λ z. R x z ≡ Less) xs (y ∷ ys) up.0 (below_cons o x y ys k t.0)) (rest (y ∷ ys) t))
      (λ k. sorted_put b x _ (all_walk R f b s (λ z. R x z ≡ Less) xs ys up.0 (subst (λ w. Below w ys) (sym (same x y k)) t.0)) (rest ys t.1))
      (λ k. sorted_put s y _ (all_step R f b s (λ z. R y z ≡ Less) x xs (walk R f b s xs) (greater_less o x y k) (below_cons o y x xs (greater_less o x y k) up.0).1 (λ zs. all_walk R f b s (λ z. R y z ≡ Less) xs zs (below_cons o y x xs (greater_less o x y k) up.0).1) ys t.0) (sorted_step x xs up rest ys t.1))

  pub sorted_walk : (xs ys : List X) → IsStrictlySortedBy R xs → IsStrictlySortedBy R ys → IsStrictlySortedBy R (walk R f b s xs ys)
  unfolding IsStrictlySortedBy
  sorted_walk [] ys up t = sorted_some s ys t
  sorted_walk (x ∷ xs) ys up t = sorted_step x xs up (λ zs. sorted_walk xs zs up.1) ys t

  module _ (q : X) where
    abbrev has : List X → Bool
    has zs = list_any (eq_by_cmp R q) zs

    tied : (k : Ordering) → is_eq k ≡ true → k ≡ Equal
    tied Less e = cc
    tied Equal e = refl
    tied Greater e = cc

    -- where q is x, it is nothing above x
    clear : (x : X) (zs : List X) → Below x zs → eq_by_cmp R q x ≡ true → has zs ≡ false
    clear x zs a e = subst (λ w. list_any (eq_by_cmp R w) zs ≡ false) (sym (same q x (tied (R q x) e))) (none_above o x zs a)

    has_step : (x : X) (xs : List X) → IsStrictlySortedBy R (x ∷ xs) → ((ys : List X) → IsStrictlySortedBy R ys → has (walk R f b s xs ys) ≡ kept f b s (has xs) (has ys)) → (ys : List X) → IsStrictlySortedBy R ys → has (walk R f b s (x ∷ xs) ys) ≡ kept f b s (has (x ∷ xs)) (has ys)
    unfolding IsStrictlySortedBy
    has_step x xs up rest [] t = any_some (eq_by_cmp R q) f (x ∷ xs) ∙ first_alone f b s (has (x ∷ xs))
    has_step x xs up rest (y ∷ ys) t = by_rank (λ l. has l ≡ kept f b s (has (x ∷ xs)) (has (y ∷ ys))) (R x y) _ _ _
        (λ k. any_put (eq_by_cmp R q) f x _ ∙ ap (λ r. (f && eq_by_cmp R q x) || r) (rest (y ∷ ys) t)
        ∙ in_first f b s (eq_by_cmp R q x) (has xs) (has (y ∷ ys)) (clear x xs up.0) (clear x (y ∷ ys) (below_cons o x y ys k t.0)))
        (λ k. any_put (eq_by_cmp R q) b x _ ∙ ap (λ r. (b && eq_by_cmp R q x) || r) (rest ys t.1)
        ∙ in_both f b s (eq_by_cmp R q x) (has xs) (has ys) (clear x xs up.0) (clear x ys (subst (λ w. Below w ys) (sym (same x y k)) t.0))
        ∙ ap (λ w. kept f b s (has (x ∷ xs)) (eq_by_cmp R q w || has ys)) (same x y k))
        (λ k. any_put (eq_by_cmp R q) s y _ ∙ ap (λ r. (s && eq_by_cmp R q y) || r) (has_step x xs up rest ys t.1)
        ∙ in_second f b s (eq_by_cmp R q y) (has (x ∷ xs)) (has ys) (clear y (x ∷ xs) (below_cons o y x xs (greater_less o x y k) up.0)) (clear y ys t.0))

    pub has_walk : (xs ys : List X) → IsStrictlySortedBy R xs → IsStrictlySortedBy R ys → has (walk R f b s xs ys) ≡ kept f b s (has xs) (has ys)
    unfolding IsStrictlySortedBy
    has_walk [] ys up t = any_some (eq_by_cmp R q) s ys ∙ second_alone f b s (has ys)
    has_walk (x ∷ xs) ys up t = has_step x xs up (λ zs. has_walk xs zs up.1) ys t
