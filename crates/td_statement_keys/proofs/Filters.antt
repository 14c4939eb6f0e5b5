-- What a filter keeps of a list, and what is found in it.
use Rattle.std.proofs.Common.{◌≡◌, ◌∙◌, ℕ, zero, suc, ◌<◌, ◌≤◌, Bool, true, false, cond, List, [], ◌∷◌, ◌++◌, length, take, get_or, filter, find, reverse, Some, None, refl, sym, ap, arith, append-nil}
use mathlib.Core.List.{reverse-cons}
use Rattle.std.proofs.lemmas.List.Elements.{filter-append}

pub filter-reverse : {X : Type 0} (p : X → Bool) (xs : List X) → filter p (reverse xs) ≡ reverse (filter p xs)
filter-reverse p [] = refl
filter-reverse p (x ∷ xs) =
    ap (filter p) (reverse-cons x xs) ∙ filter-append p (reverse xs) (x ∷ [])
    ∙ ap (λ l. l ++ cond (p x) (x ∷ []) []) (filter-reverse p xs)
    ∙ elim (p x) as (λ b. reverse (filter p xs) ++ cond b (x ∷ []) [] ≡ reverse (cond b (x ∷ filter p xs) (filter p xs))) [
      | true ↦ sym (reverse-cons x (filter p xs))
      | false ↦ append-nil (reverse (filter p xs))
    ]

-- of a longer prefix as much passes
pub filter-take_more : {X : Type 0} (p : X → Bool) (n : ℕ) (xs : List X) → length (filter p (take n xs)) ≤ length (filter p (take (suc n) xs))
filter-take_more p zero xs = omega arith
filter-take_more p (suc n) [] = omega arith
filter-take_more p (suc n) (x ∷ xs) =
    let rest = filter-take_more p n xs in
    elim (p x) as (λ b. length (cond b (x ∷ filter p (take n xs)) (filter p (take n xs))) ≤ length (cond b (x ∷ filter p (take (suc n) xs)) (filter p (take (suc n) xs)))) [
      | true ↦ omega arith
      | false ↦ rest
    ]

-- where none is found, none passes
pub filter-none : {X : Type 0} (p : X → Bool) (xs : List X) → find p xs ≡ None → filter p xs ≡ []
filter-none p [] none = refl
filter-none p (x ∷ xs) none =
    elim (p x) as (λ b. cond b (Some x) (find p xs) ≡ None → cond b (x ∷ filter p xs) (filter p xs) ≡ []) [
      | true ↦ λ some. cc
      | false ↦ filter-none p xs
    ] none

-- an element that passes is counted
counted : {X : Type 0} (p : X → Bool) (xs : List X) (e : X) (k : ℕ) → k < length xs → get_or xs k e ≡ e → p e ≡ true → 1 ≤ length (filter p xs)
counted p [] e k within here passes = absurd (omega arith)
counted p (x ∷ xs) e zero within here passes =
    let first : p x ≡ true = ap p here ∙ passes in
    rw first (omega arith)
counted p (x ∷ xs) e (suc k) within here passes =
    let rest = counted p xs e k (omega arith) here passes in
    elim (p x) as (λ b. 1 ≤ length (cond b (x ∷ filter p xs) (filter p xs))) [ true ↦ omega arith | false ↦ rest ]

-- the one that passes is found
pub found_one : {X : Type 0} (p : X → Bool) (xs : List X) (e : X) (k : ℕ) → length (filter p xs) ≤ 1 → k < length xs → get_or xs k e ≡ e → p e ≡ true → find p xs ≡ Some e
found_one p [] e k few within here passes = absurd (omega arith)
found_one p (x ∷ xs) e zero few within here passes =
    let first : p x ≡ true = ap p here ∙ passes in
    rw first (ap Some here)
found_one p (x ∷ xs) e (suc k) few within here passes =
    let later : 1 ≤ length (filter p xs) = counted p xs e k (omega arith) here passes in
    elim (p x) as (λ b. length (cond b (x ∷ filter p xs) (filter p xs)) ≤ 1 → cond b (Some x) (find p xs) ≡ Some e) [
      | true ↦ λ one. absurd (omega arith)
      | false ↦ λ one. found_one p xs e k one (omega arith) here passes
    ] few
