-- What is in lists that are made of others.
use Rattle.std.proofs.Common.{◌≡◌, ℕ, zero, suc, ◌<◌, nat_eq, not, Bool, true, false, ◌||◌, cond, List, [], ◌∷◌, ◌++◌, map, length, get_or, ◌⊎◌, inl, inr, refl, sym, ap, ◌∙◌, subst, true≢false, arith}
use Rattle.std.specs.List.{All, Contains, list_any, flat_map, filter}
use Rattle.std.proofs.lemmas.Bool.Decides.{nat_tests}

-- x is one of these
abbrev pub In : {X : Type 0} → X → List X → Type 0
In x [] = ⊥
In x (y ∷ ys) = (x ≡ y) ⊎ In x ys

module _ {X : Type 0} where
  pub in_contains : (xs : List X) (x : X) → In x xs → Contains xs x
  in_contains [] x h = absurd h
  in_contains (y ∷ ys) x (inl e) = (0, omega arith, sym e)
  in_contains (y ∷ ys) x (inr h) = let k = in_contains ys x h in (suc k.0, omega (arith, k.1), k.2)

  at_in : (xs : List X) (x : X) (k : ℕ) → k < length xs → get_or xs k x ≡ x → In x xs
  at_in [] x k lt e = absurd (omega arith)
  at_in (y ∷ ys) x zero lt e = inl (sym e)
  at_in (y ∷ ys) x (suc k) lt e = inr (at_in ys x k (omega arith) e)

  pub item_in : (xs : List X) (i : ℕ) (x : X) → i < length xs → x ≡ get_or xs i x → In x xs
  item_in xs i x lt is = at_in xs x i lt (sym is)

  pub contains_in : (xs : List X) (x : X) → Contains xs x → In x xs
  contains_in xs x h = at_in xs x h.0 h.1 h.2

  pub all_in : (P : X → Type 0) (xs : List X) → All P xs → (x : X) → In x xs → P x
  all_in P [] a x h = absurd h
  all_in P (y ∷ ys) a x (inl e) = subst P (sym e) (a 0 y (omega arith))
  all_in P (y ∷ ys) a x (inr h) = all_in P ys (λ k d lt. a (suc k) d (omega arith)) x h

  pub in_all : (P : X → Type 0) (xs : List X) → ((x : X) → In x xs → P x) → All P xs
  in_all P [] h k d lt = absurd (omega arith)
  in_all P (y ∷ ys) h zero d lt = h y (inl refl)
  in_all P (y ∷ ys) h (suc k) d lt = in_all P ys (λ x m. h x (inr m)) k d (omega arith)

  pub in_append : (xs ys : List X) (x : X) → In x (xs ++ ys) → In x xs ⊎ In x ys
  in_append [] ys x h = inr h
  in_append (z ∷ xs) ys x (inl e) = inl (inl e)
  in_append (z ∷ xs) ys x (inr h) = elim (in_append xs ys x h) [ inl a ↦ inl (inr a) | inr b ↦ inr b ]

  pub append_in : (xs ys : List X) (x : X) → In x xs ⊎ In x ys → In x (xs ++ ys)
  append_in [] ys x (inl h) = absurd h
  append_in [] ys x (inr h) = h
  append_in (z ∷ xs) ys x (inl (inl e)) = inl e
  append_in (z ∷ xs) ys x (inl (inr h)) = inr (append_in xs ys x (inl h))
  append_in (z ∷ xs) ys x (inr h) = inr (append_in xs ys x (inr h))

  pub in_filter : (p : X → Bool) (xs : List X) (x : X) → In x (filter p xs) → (In x xs) × (p x ≡ true)
  in_filter p [] x h = absurd h
  in_filter p (y ∷ xs) x h =
      elim (p y) as (λ b. p y ≡ b → In x (cond b (y ∷ filter p xs) (filter p xs)) → In x (y ∷ xs) × (p x ≡ true)) [
        | true ↦ λ e m. elim m [ inl same ↦ (inl same, ap p same ∙ e) | inr more ↦ let k = in_filter p xs x more in (inr k.0, k.1) ]
        | false ↦ λ _ m. let k = in_filter p xs x m in (inr k.0, k.1)
      ] refl h

  pub filter_in : (p : X → Bool) (xs : List X) (x : X) → In x xs → p x ≡ true → In x (filter p xs)
  filter_in p [] x h e = absurd h
  filter_in p (y ∷ xs) x h e =
      elim (p y) as (λ b. p y ≡ b → In x (cond b (y ∷ filter p xs) (filter p xs))) [
        | true ↦ λ _. elim h [ inl same ↦ inl same | inr more ↦ inr (filter_in p xs x more e) ]
        | false ↦ λ g. elim h [ inl same ↦ absurd (true≢false (sym e ∙ ap p same ∙ g)) | inr more ↦ filter_in p xs x more e ]
      ] refl

  -- something passes where the filter leaves something
  pub some_left : (p : X → Bool) (xs : List X) → not (nat_eq (length (filter p xs)) 0) ≡ list_any p xs
  some_left p [] = refl
  some_left p (x ∷ xs) = elim (p x) as (λ b. not (nat_eq (length (cond b (x ∷ filter p xs) (filter p xs))) 0) ≡ (b || list_any p xs)) [ true ↦ grind (arith, nat_tests) | false ↦ some_left p xs ]

  pub in_any : (p : X → Bool) (xs : List X) → list_any p xs ≡ true → (x : X) × (In x xs) × (p x ≡ true)
  in_any p [] e = absurd (true≢false (sym e))
  in_any p (y ∷ xs) e =
      elim (p y) as (λ b. p y ≡ b → (b || list_any p xs) ≡ true → (x : X) × (In x (y ∷ xs)) × (p x ≡ true)) [
        | true ↦ λ f _. (y, inl refl, f)
        | false ↦ λ _ g. let k = in_any p xs g in (k.0, inr k.1, k.2)
      ] refl e

  pub any_in : (p : X → Bool) (xs : List X) (x : X) → In x xs → p x ≡ true → list_any p xs ≡ true
  any_in p [] x h e = absurd h
  any_in p (y ∷ xs) x h e =
      elim (p y) as (λ b. p y ≡ b → (b || list_any p xs) ≡ true) [
        | true ↦ λ _. refl
        | false ↦ λ g. elim h [ inl same ↦ absurd (true≢false (sym e ∙ ap p same ∙ g)) | inr more ↦ any_in p xs x more e ]
      ] refl

module _ {X Y : Type 0} where
  pub in_map : (f : X → Y) (xs : List X) (y : Y) → In y (map f xs) → (x : X) × (In x xs) × (y ≡ f x)
  in_map f [] y h = absurd h
  in_map f (x ∷ xs) y (inl e) = (x, inl refl, e)
  in_map f (x ∷ xs) y (inr h) = let k = in_map f xs y h in (k.0, inr k.1, k.2)

  pub map_in : (f : X → Y) (xs : List X) (y : Y) (x : X) → In x xs → y ≡ f x → In y (map f xs)
  map_in f [] y x h e = absurd h
  map_in f (z ∷ xs) y x (inl p) e = inl (e ∙ ap f p)
  map_in f (z ∷ xs) y x (inr h) e = inr (map_in f xs y x h e)

  pub in_flat_map : (f : X → List Y) (xs : List X) (y : Y) → In y (flat_map f xs) → (x : X) × (In x xs) × (In y (f x))
  in_flat_map f [] y h = absurd h
  in_flat_map f (x ∷ xs) y h = elim (in_append (f x) (flat_map f xs) y h) [
    | inl a ↦ (x, inl refl, a)
    | inr b ↦ let k = in_flat_map f xs y b in (k.0, inr k.1, k.2)
  ]

  pub flat_map_in : (f : X → List Y) (xs : List X) (y : Y) (x : X) → In x xs → In y (f x) → In y (flat_map f xs)
  flat_map_in f [] y x h k = absurd h
  flat_map_in f (z ∷ xs) y x (inl e) k = append_in (f z) (flat_map f xs) y (inl (subst (λ w. In y (f w)) e k))
  flat_map_in f (z ∷ xs) y x (inr h) k = append_in (f z) (flat_map f xs) y (inr (flat_map_in f xs y x h k))
