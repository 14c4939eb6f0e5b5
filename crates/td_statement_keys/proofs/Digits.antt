-- The digits of a key are such.
use Rattle.std.proofs.Common.{rules, ◌≡◌, ◌∙◌, ℕ, zero, suc, ◌*◌, ◌+◌, ◌<◌, ◌/◌, ◌%◌, Bool, true, false, ◌&&◌, nat_lt, List, [], ◌∷◌, ◌++◌, length, take, get_or, codes, w32, refl, sym, ap, arith, slice_index}
use Rattle.std.specs.Int.{byte_at, bytes_high_first, byte_len, to_be_bytes}
use Rattle.std.specs.List.{AllPass, list_all}
use Rattle.std.proofs.lemmas.Bool.{and_parts, lt-ltb, ltb-true}
use Rattle.std.proofs.lemmas.List.Folds.{list_all-append}
use Rattle.std.proofs.lemmas.List.Sums.{AllPass-from_list_all}
use Rattle.hex.specs.Hex.{encode_lower, encode_with, lower_digits}
use Rattle.sha2.specs.Sha256.{digest_bytes, final_hash, initial_hash_256, sha256}
use Rattle.td_statement_keys.specs.Keys.{is_digit, key_digits}

-- a byte
abbrev small : ℕ → Bool
small b = nat_lt b 256

small_byte : (k n : ℕ) → small (byte_at k n) ≡ true
small_byte zero n = lt-ltb (n % 256) 256 (omega arith)
small_byte (suc k) n = lt-ltb (byte_at (suc k) n) 256 (omega arith)

pub both : (a b : Bool) → a ≡ true → b ≡ true → (a && b) ≡ true
both true b yes' other = other
both false b yes' other = yes'

small_bytes : (k n : ℕ) → list_all small (bytes_high_first k n) ≡ true
small_bytes zero n = refl
small_bytes (suc k) n = both (small (byte_at k n)) (list_all small (bytes_high_first k n)) (small_byte k n) (small_bytes k n)

small_digest : (hash : List ℕ) (n : ℕ) → list_all small (digest_bytes hash n) ≡ true
unfolding digest_bytes
small_digest hash zero = refl
small_digest hash (suc n) =
    let word = to_be_bytes w32 (slice_index hash n) in
    list_all-append small (digest_bytes hash n) word
    ∙ both (list_all small (digest_bytes hash n)) (list_all small word) (small_digest hash n) (small_bytes (byte_len w32) (slice_index hash n))

small_take : (n : ℕ) (bs : List ℕ) → list_all small bs ≡ true → list_all small (take n bs) ≡ true
small_take zero bs all = refl
small_take (suc n) [] all = refl
small_take (suc n) (b ∷ bs) all =
    let parts = and_parts (small b) (list_all small bs) all in
    both (small b) (list_all small (take n bs)) parts.0 (small_take n bs parts.1)

digit_at : (i : ℕ) → i < 16 → is_digit (slice_index lower_digits i) ≡ true
digit_at i within = AllPass-from_list_all is_digit lower_digits refl i 0 within

digits_of : (bs : List ℕ) → list_all small bs ≡ true → list_all is_digit (encode_with lower_digits bs) ≡ true
unfolding encode_with
digits_of [] all = refl
digits_of (b ∷ bs) all =
    let parts = and_parts (small b) (list_all small bs) all in
    let within : b < 256 = ltb-true b 256 parts.0 in
    let rest = encode_with lower_digits bs in
    both (is_digit (slice_index lower_digits (b / 16))) (is_digit (slice_index lower_digits (b % 16)) && list_all is_digit rest)
    (digit_at (b / 16) (omega (arith, within)))
    (both (is_digit (slice_index lower_digits (b % 16))) (list_all is_digit rest) (digit_at (b % 16) (omega arith)) (digits_of bs parts.1))

pub key_has_digits : (key : List ℕ) → list_all is_digit (key_digits key) ≡ true
unfolding sha256
key_has_digits key = digits_of (take 8 (sha256 key)) (small_take 8 (sha256 key) (small_digest (final_hash initial_hash_256 key) 8))
