-- Steps of walks that keep what passes a test, and of those that make something of each element.
use Rattle.std.proofs.Common.{◌≡◌, ℕ, ◌+◌, ◌<◌, take, Bool, true, false, not, cond, List, [], ◌∷◌, ◌++◌, map, length, get_or, Bor, Option, None, Some, is_some, refl, sym, ap, ◌∙◌}
use Rattle.std.specs.List.{filter}
use Rattle.std.specs.Option.{option_copied}
use Rattle.std.proofs.lemmas.List.{take_more, append-nil, map-append}

module _ {X : Type 0} where
  filter_push : (p : X → Bool) (xs : List X) (x : X) → filter p (xs ++ x ∷ []) ≡ filter p xs ++ cond (p x) (x ∷ []) []
  filter_push p [] x = refl
  filter_push p (y ∷ xs) x = elim (p y) as (λ b. cond b (y ∷ filter p (xs ++ x ∷ [])) (filter p (xs ++ x ∷ [])) ≡ cond b (y ∷ filter p xs) (filter p xs) ++ cond (p x) (x ∷ []) []) [
    | true ↦ ap (λ r. y ∷ r) (filter_push p xs x)
    | false ↦ filter_push p xs x
  ]

  pub filter_kept : (p : X → Bool) (xs : List X) (x : X) → p x ≡ true → filter p (xs ++ x ∷ []) ≡ filter p xs ++ x ∷ []
  filter_kept p xs x e = filter_push p xs x ∙ ap (λ b. filter p xs ++ cond b (x ∷ []) []) e

  pub filter_passed : (p : X → Bool) (xs : List X) (x : X) → p x ≡ false → filter p (xs ++ x ∷ []) ≡ filter p xs
  filter_passed p xs x e = filter_push p xs x ∙ ap (λ b. filter p xs ++ cond b (x ∷ []) []) e ∙ append-nil (filter p xs)

  pub taken : (xs : List X) (i : ℕ) (x : X) → i < length xs → x ≡ get_or xs i x → take (i + 1) xs ≡ take i xs ++ x ∷ []
  taken xs i x lt is = take_more xs i x lt ∙ ap (λ w. take i xs ++ w ∷ []) (sym is)

pub mapped_more : {A B : Type 0} (f : A → B) (xs : List A) (i : ℕ) (x : A) → i < length xs → x ≡ get_or xs i x → map f (take i xs) ++ f x ∷ [] ≡ map f (take (i + 1) xs)
mapped_more f xs i x within is = sym (ap (map f) (taken xs i x within is) ∙ map-append f (take i xs) (x ∷ []))

-- an answer that is lent is missing where the answer is
pub none_lent : {X : Type 0} (o : Option (Bor X)) (b : Bool) → is_some o ≡ not b → b ≡ not (is_some (option_copied o))
none_lent None true e = refl
none_lent None false e = e
none_lent (Some x) true e = e
none_lent (Some x) false e = refl
