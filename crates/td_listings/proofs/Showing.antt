-- A text in which what would not show is a space, character by character.
use Rattle.std.proofs.Common.{◌≡◌, ◌≤◌, ◌<◌, ℕ, ◌+◌, ◌/◌, ◌%◌, Bool, true, false, cond, ltb, ◌⊎◌, inl, inr, ◌||◌, List, [], ◌∷◌, ◌++◌, map, refl, sym, ap, ◌∙◌, arith, codes, append_assoc, encode_utf8, encode_utf8_all, if◌then◌else◌, nat_lt, nat_eq, ◌==◌}
use Rattle.std.proofs.lemmas.Str.{encodes-append}
use Rattle.std.proofs.lemmas.List.{append-nil}
use Rattle.std.proofs.lemmas.Bool.{cases_lt, ne_eqb, le-ltb}
use lib.Utf8
use lib.Utf8.{next}
use Rattle.std.proofs.lemmas.Str.{encode_ascii}
use Rattle.td_listings.specs.Texts.{showing}

-- what stands after the characters cs of a text
abbrev pub so_far : List ℕ → List ℕ → List ℕ
so_far front cs = front ++ map showing (encode_utf8_all cs)

map-append : (xs ys : List ℕ) → map showing (xs ++ ys) ≡ map showing xs ++ map showing ys
map-append [] ys = refl
map-append (x ∷ xs) ys = ap (λ zs. showing x ∷ zs) (map-append xs ys)

pub more : (front ys : List ℕ) (c : ℕ) (t : List ℕ) → map showing (encode_utf8 c) ≡ t → so_far front ys ++ t ≡ so_far front (ys ++ (c ∷ []))
more front ys c t e =
    append_assoc front (map showing (encode_utf8_all ys)) t
    ∙ ap (λ r. front ++ r)
    (ap (λ r. map showing (encode_utf8_all ys) ++ r) (sym e ∙ ap (map showing) (sym (append-nil (encode_utf8 c))))
    ∙ sym (map-append (encode_utf8_all ys) (encode_utf8_all (c ∷ [])))
    ∙ ap (map showing) (sym (encodes-append ys (c ∷ []))))

-- a byte from 128 on shows
high : (b : ℕ) → 128 ≤ b → showing b ≡ b
high b far = ap (λ x. if x || (b == 127) then 32 else b) (le-ltb b 32 (omega (arith, far))) ∙ ap (λ x. if x then 32 else b) (ne_eqb b 127 (λ e. omega (arith, far, e)))

-- the bytes of a character, by how many they are
abbrev bytes : ℕ → Bool → Bool → Bool → List ℕ
bytes c one two three = cond one (c ∷ []) (cond two ((192 + c / 64) ∷ next c ∷ []) (cond three ((224 + c / 4096) ∷ next (c / 64) ∷ next c ∷ []) ((240 + c / 262144) ∷ next (c / 4096) ∷ next (c / 64) ∷ next c ∷ [])))

all_high : (c : ℕ) (one two three : Bool) → one ≡ false → map showing (bytes c one two three) ≡ bytes c one two three
all_high c true two three e = cc
all_high c false true three e = λ i. high (192 + c / 64) (omega arith) i ∷ high (next c) (omega arith) i ∷ []
all_high c false false true e = λ i. high (224 + c / 4096) (omega arith) i ∷ high (next (c / 64)) (omega arith) i ∷ high (next c) (omega arith) i ∷ []
all_high c false false false e = λ i. high (240 + c / 262144) (omega arith) i ∷ high (next (c / 4096)) (omega arith) i ∷ high (next (c / 64)) (omega arith) i ∷ high (next c) (omega arith) i ∷ []

longer : (c : ℕ) → 128 ≤ c → map showing (encode_utf8 c) ≡ encode_utf8 c
unfolding lib.Utf8.encode
longer c far = all_high c (ltb c 128) (ltb c 2048) (ltb c 65536) (le-ltb c 128 far)

low : (c : ℕ) → c < 128 → showing c < 128
low c near = by (ltb c 32 || (c == 127))
  where
    by : (b : Bool) → (if b then 32 else c) < 128
    by true = omega arith
    by false = near

pub one_char : (c : ℕ) → map showing (encode_utf8 c) ≡ encode_utf8 (showing c)
one_char c = elim (cases_lt c 128) [
  | inl near ↦ ap (map showing) (encode_ascii c near) ∙ sym (encode_ascii (showing c) (low c near))
  | inr far ↦ longer c far ∙ ap encode_utf8 (sym (high c far))
]
