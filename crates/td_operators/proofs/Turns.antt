-- Steps of the loops over lists of operands.
use Rattle.std.proofs.Common.{◌≡◌, ◌<◌, ◌+◌, ◌++◌, ℕ, List, [], ◌∷◌, length, get_or, drop, Result, Ok, Err, refl, sym, ap, ◌∙◌, append_assoc}
use Rattle.std.proofs.lemmas.List.{append-nil, drop_more}
use Rattle.td_algebra.specs.declared.errors.Stop.{Stop}
use Rattle.td_algebra.specs.Raising.{and_then}
use Rattle.td_operators.specs.ForProofs.Turns.{turn}
use Rattle.td_operators.specs.Operators.{in_turn}

module _ {X A : Type 0} (f : X → Result A Stop) where
  put_before : (done : List A) (a : A) (w : Result (List A) Stop) → and_then w (λ rest. Ok ((done ++ a ∷ []) ++ rest)) ≡ and_then (and_then w (λ rest. Ok (a ∷ rest))) (λ rest. Ok (done ++ rest))
  put_before done a (Ok rest) = ap Ok (append_assoc done (a ∷ []) rest)
  put_before done a (Err e) = refl

  by_first : (done : List A) (xs : List X) (w : Result A Stop) → ((a : A) → turn f (done ++ a ∷ []) xs ≡ and_then (in_turn f xs) (λ rest. Ok ((done ++ a ∷ []) ++ rest)))
      → and_then w (λ a. turn f (done ++ a ∷ []) xs) ≡ and_then (and_then w (λ a. and_then (in_turn f xs) (λ rest. Ok (a ∷ rest)))) (λ rest. Ok (done ++ rest))
  by_first done xs (Ok a) more = more a ∙ put_before done a (in_turn f xs)
  by_first done xs (Err e) more = refl

  turn_from : (done : List A) (xs : List X) → turn f done xs ≡ and_then (in_turn f xs) (λ rest. Ok (done ++ rest))
  turn_from done [] = ap Ok (sym (append-nil done))
  turn_from done (x ∷ xs) = by_first done xs (f x) (λ a. turn_from (done ++ a ∷ []) xs)

  behind_none : (w : Result (List A) Stop) → and_then w (λ rest. Ok ([] ++ rest)) ≡ w
  behind_none (Ok xs) = refl
  behind_none (Err e) = refl

  pub turn_begins : (xs : List X) → in_turn f xs ≡ turn f [] xs
  turn_begins xs = sym (turn_from [] xs ∙ behind_none (in_turn f xs))

  module _ (xs : List X) (i : ℕ) (x : X) (done : List A) (within : i < length xs) (is : x ≡ get_or xs i x) where
    turn_more : turn f done (drop i xs) ≡ and_then (f x) (λ a. turn f (done ++ a ∷ []) (drop (i + 1) xs))
    turn_more =
        ap (turn f done) (drop_more xs i x within)
        ∙ ap (λ y. and_then (f y) (λ a. turn f (done ++ a ∷ []) (drop (i + 1) xs))) (sym is)

    pub turn_goes : (a : A) → f x ≡ Ok a → turn f done (drop i xs) ≡ turn f (done ++ a ∷ []) (drop (i + 1) xs)
    turn_goes a h = turn_more ∙ ap (λ w. and_then w (λ a. turn f (done ++ a ∷ []) (drop (i + 1) xs))) h

    pub turn_stops : (e : Stop) → f x ≡ Err e → turn f done (drop i xs) ≡ Err e
    turn_stops e h = turn_more ∙ ap (λ w. and_then w (λ a. turn f (done ++ a ∷ []) (drop (i + 1) xs))) h
