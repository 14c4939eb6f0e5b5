-- Keywords by their lengths.
use Rattle.std.proofs.Common.{◌≡◌, ℕ, zero, suc, Bool, true, false, true≢false, cond, ◌&&◌, ◌==◌, nat_eq, eq-eqb, eqb-true, List, [], ◌∷◌, length, None, Some, refl, sym, ap, ◌∙◌}
use Rattle.std.specs.List.{filter, list_all}
use Rattle.std.specs.Prelude.{find}
use Rattle.std.specs.Option.{option_map}
use Rattle.std.specs.Str.{str_eq_ignore_ascii_case, str_to_ascii_lowercase, bytes_eq}
use Rattle.std.proofs.lemmas.List.{length-map}
use Rattle.td_tokens.specs.Lex.{keyword_of}
use Rattle.td_tokens.specs.Words.{Spelling, keywords}

also : (a b : Bool) → (a && b) ≡ true → b ≡ true
also true b e = e
also false b e = absurd (true≢false (sym e))

left : (a b : Bool) → (a && b) ≡ true → a ≡ true
left true b e = refl
left false b e = e

same_bytes : (xs ys : List ℕ) → bytes_eq xs ys ≡ true → length xs ≡ length ys
same_bytes [] [] e = refl
same_bytes [] (y ∷ ys) e = absurd (true≢false (sym e))
same_bytes (x ∷ xs) [] e = absurd (true≢false (sym e))
same_bytes (x ∷ xs) (y ∷ ys) e = ap suc (same_bytes xs ys (also (nat_eq x y) (bytes_eq xs ys) e))

same_length : (a b : List ℕ) → str_eq_ignore_ascii_case a b ≡ true → length a ≡ length b
same_length a b e = sym (length-map a _) ∙ same_bytes (str_to_ascii_lowercase a) (str_to_ascii_lowercase b) e ∙ length-map b _

-- what is found is found among those that pass a test that it passes
module _ {X : Type 0} (p q : X → Bool) (h : (x : X) → p x ≡ true → q x ≡ true) where
  one_more : (x : X) (xs ys : List X) → find p ys ≡ find p xs → (b : Bool) → q x ≡ b → (a : Bool) → p x ≡ a → find p (cond b (x ∷ ys) ys) ≡ cond (p x) (Some x) (find p xs)
  one_more x xs ys rest true f a e = ap (cond (p x) (Some x)) rest
  one_more x xs ys rest false f true e = absurd (true≢false (sym (h x e) ∙ f))
  one_more x xs ys rest false f false e = rest ∙ sym (ap (λ c. cond c (Some x) (find p xs)) e)

  found_in_part : (xs : List X) → find p (filter q xs) ≡ find p xs
  found_in_part [] = refl
  found_in_part (x ∷ xs) = one_more x xs (filter q xs) (found_in_part xs) (q x) refl (p x) refl

  none_found : (xs : List X) → (filter q xs ≡ []) → None ≡ find p xs
  none_found xs e = ap (find p) (sym e) ∙ found_in_part xs

abbrev pub of_length : ℕ → List Spelling
of_length n = filter (λ (k : Spelling). length k.0 == n) keywords

abbrev short : ℕ → Bool
short zero = true
short (suc zero) = true
short (suc (suc zero)) = true
short (suc (suc (suc zero))) = true
short (suc (suc (suc (suc zero)))) = true
short (suc (suc (suc (suc (suc zero))))) = true
short (suc (suc (suc (suc (suc (suc zero)))))) = true
short (suc (suc (suc (suc (suc (suc (suc zero))))))) = true
short (suc (suc (suc (suc (suc (suc (suc (suc zero)))))))) = true
short (suc (suc (suc (suc (suc (suc (suc (suc (suc zero))))))))) = true
short (suc (suc (suc (suc (suc (suc (suc (suc (suc (suc zero)))))))))) = true
short (suc (suc (suc (suc (suc (suc (suc (suc (suc (suc (suc m))))))))))) = false

all_short : list_all (λ (k : Spelling). short (length k.0)) keywords ≡ true
all_short = refl

none_passes : (n : ℕ) → short n ≡ false → (ks : List Spelling) → list_all (λ (k : Spelling). short (length k.0)) ks ≡ true → filter (λ (k : Spelling). length k.0 == n) ks ≡ []
none_passes n long [] all = refl
none_passes n long (k ∷ ks) all = by (length k.0 == n) refl (none_passes n long ks (also (short (length k.0)) (list_all (λ (k : Spelling). short (length k.0)) ks) all))
  where
    first : short (length k.0) ≡ true
    first = left (short (length k.0)) (list_all (λ (k : Spelling). short (length k.0)) ks) all

    by : (b : Bool) → (length k.0 == n) ≡ b → filter (λ (k : Spelling). length k.0 == n) ks ≡ [] → cond b (k ∷ filter (λ (k : Spelling). length k.0 == n) ks) (filter (λ (k : Spelling). length k.0 == n) ks) ≡ []
    by true e rest = absurd (true≢false (sym (ap short (sym (eqb-true (length k.0) n e)) ∙ first) ∙ long))
    by false e rest = rest

-- no keyword has another length than these
pub none_of_length : (n : ℕ) → (n ≡ 2 → ⊥) → (n ≡ 3 → ⊥) → (n ≡ 4 → ⊥) → (n ≡ 5 → ⊥) → (n ≡ 6 → ⊥) → (n ≡ 7 → ⊥) → (n ≡ 8 → ⊥) → (n ≡ 9 → ⊥) → (n ≡ 10 → ⊥) → of_length n ≡ []
none_of_length zero a b c d e f g h i = refl
none_of_length (suc zero) a b c d e f g h i = refl
none_of_length (suc (suc zero)) a b c d e f g h i = absurd (a refl)
none_of_length (suc (suc (suc zero))) a b c d e f g h i = absurd (b refl)
none_of_length (suc (suc (suc (suc zero)))) a b c d e f g h i = absurd (c refl)
none_of_length (suc (suc (suc (suc (suc zero))))) a b c d e f g h i = absurd (d refl)
none_of_length (suc (suc (suc (suc (suc (suc zero)))))) a b c d e f g h i = absurd (e refl)
none_of_length (suc (suc (suc (suc (suc (suc (suc zero))))))) a b c d e f g h i = absurd (f refl)
none_of_length (suc (suc (suc (suc (suc (suc (suc (suc zero)))))))) a b c d e f g h i = absurd (g refl)
none_of_length (suc (suc (suc (suc (suc (suc (suc (suc (suc zero))))))))) a b c d e f g h i = absurd (h refl)
none_of_length (suc (suc (suc (suc (suc (suc (suc (suc (suc (suc zero)))))))))) a b c d e f g h i = absurd (i refl)
none_of_length (suc (suc (suc (suc (suc (suc (suc (suc (suc (suc (suc m))))))))))) a b c d e f g h i = none_passes (suc (suc (suc (suc (suc (suc (suc (suc (suc (suc (suc m))))))))))) refl keywords all_short

module _ (letters : List ℕ) where
  abbrev spells : Spelling → Bool
  spells k = str_eq_ignore_ascii_case k.0 letters

  pub by_length : (n : ℕ) → length letters ≡ n → option_map (λ (k : Spelling). k.1) (find spells (of_length n)) ≡ keyword_of letters
  unfolding keyword_of
  by_length n e = ap (option_map (λ (k : Spelling). k.1)) (found_in_part spells (λ (k : Spelling). length k.0 == n) (λ k s. eq-eqb (length k.0) n (same_length k.0 letters s ∙ e)) keywords)

  pub by_no_length : (n : ℕ) → length letters ≡ n → of_length n ≡ [] → None ≡ keyword_of letters
  by_no_length n e none = ap (λ ks. option_map (λ (k : Spelling). k.1) (find spells ks)) (sym none) ∙ by_length n e
