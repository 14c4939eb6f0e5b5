-- A text begins with one comment of a key at most.
use Rattle.std.proofs.Common.{◌≡◌, ◌∙◌, ℕ, ◌*◌, ◌<◌, true, false, List, ◌++◌, length, take, drop, codes, ⊎_elim, refl, sym, ap, arith, length-append, length-drop, length-take}
use Rattle.std.proofs.lemmas.Bool.{and_right, cases_Bool}
use Rattle.std.specs.List.{list_all}
use Rattle.std.proofs.lemmas.Bool.Decides.{Decides-eqb}
use Rattle.std.proofs.lemmas.List.{take_at}
use Rattle.std.proofs.lemmas.Slice.Eq.{starts_is}
use Rattle.hex.specs.Hex.{lower_digits}
use Rattle.hex.proofs.HexLemmas.{length-encode_with}
use Rattle.sha2.specs.Sha256.{sha256}
use Rattle.sha2.proofs.Facts256.{length-sha256}
use Rattle.td_statement_keys.specs.Keys.{has_prefix, is_digit, is_keyed_text, key_comment, key_digits}

pub length-key_digits : (key : List ℕ) → length (key_digits key) ≡ 16
length-key_digits key =
    let all = length-sha256 key in
    let first : length (take 8 (sha256 key)) ≡ 8 = omega (arith, length-take 8 (sha256 key), all) in
    length-encode_with lower_digits (take 8 (sha256 key)) ∙ ap (λ n. 2 * n) first

pub length-key_comment : (key : List ℕ) → length (key_comment key) ≡ 23
length-key_comment key =
    omega (arith, length-key_digits key, length-append (codes "/* ") (key_digits key ++ codes " */ "), length-append (key_digits key) (codes " */ "))

-- two comments of keys with which one text begins are equal
pub one_comment : (one other text : List ℕ) → has_prefix (key_comment one) (key_comment other ++ text) ≡ true → key_comment one ≡ key_comment other
one_comment one other text begins =
    let c = key_comment one in
    let d = key_comment other in
    let both : d ++ text ≡ c ++ drop (length c) (d ++ text) = (starts_is Decides-eqb (d ++ text) c _ refl).0 begins in
    let same : length c ≡ length d = length-key_comment one ∙ sym (length-key_comment other) in
    sym (take_at c (drop (length c) (d ++ text)) (length c) refl) ∙ ap (take (length c)) (sym both) ∙ take_at d text (length c) (sym same)

-- a text with the comment of some key has that many bytes
pub short-keyed : (text : List ℕ) → length text < 23 → is_keyed_text text ≡ false
short-keyed text short =
    let rest = drop 16 (drop 3 text) in
    let ends = has_prefix (codes " */ ") rest in
    ⊎_elim
    (λ (yes' : ends ≡ true).
    let is : rest ≡ codes " */ " ++ drop 4 rest = (starts_is Decides-eqb rest (codes " */ ") _ refl).0 yes' in
    absurd (omega (arith, length-drop 3 text, length-drop 16 (drop 3 text), ap length is, length-append (codes " */ ") (drop 4 rest))))
    (λ (no' : ends ≡ false). and_right (has_prefix (codes "/* ") text) _ (and_right (list_all is_digit (take 16 (drop 3 text))) ends no'))
    (cases_Bool ends)
