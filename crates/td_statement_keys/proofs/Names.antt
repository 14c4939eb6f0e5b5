-- The comments of keys and names.
use Rattle.std.proofs.Common.{◌≡◌, ◌∙◌, ℕ, Bool, true, false, ◌&&◌, List, ◌++◌, length, take, drop, codes, Some, None, if◌then◌else◌, ⊎_elim, refl, sym, ap, subst, append_assoc}
use Rattle.std.specs.List.{list_all}
use Rattle.std.proofs.lemmas.Bool.{cases_Bool}
use Rattle.std.proofs.lemmas.Bool.Decides.{Decides-eqb}
use Rattle.std.proofs.lemmas.List.{drop_at, take_at}
use Rattle.std.proofs.lemmas.Slice.Eq.{starts_is}
use Rattle.td_statement_keys.specs.Authors.{is_signed, name_comment, without_key}
use Rattle.td_statement_keys.specs.Keys.{ends_comment, has_prefix, is_digit, is_keyed_text, key_comment, key_digits}
use Rattle.td_statement_keys.specs.Laws.{KeysAreKept, NamesAreKept, NamesAreNoKeys}
use Rattle.td_statement_keys.proofs.Comments.{length-key_comment, length-key_digits}
use Rattle.td_statement_keys.proofs.Digits.{both, key_has_digits}

begins : (prefix text : List ℕ) → has_prefix prefix (prefix ++ text) ≡ true
begins prefix text = (starts_is Decides-eqb (prefix ++ text) prefix _ refl).1 text refl

digits_end : (key text : List ℕ) → ends_comment (key_digits key ++ (codes " */ " ++ text)) ≡ true
digits_end key text =
    let digits = key_digits key in
    let rest = codes " */ " ++ text in
    both (list_all is_digit (take 16 (digits ++ rest))) (has_prefix (codes " */ ") (drop 16 (digits ++ rest)))
    (ap (list_all is_digit) (take_at digits rest 16 (length-key_digits key)) ∙ key_has_digits key)
    (ap (has_prefix (codes " */ ")) (drop_at digits rest 16 (length-key_digits key)) ∙ begins (codes " */ ") text)

pub keys_are_kept : KeysAreKept
keys_are_kept key text = ap ends_comment (append_assoc (key_digits key) (codes " */ ") text) ∙ digits_end key text

pub names_are_no_keys : NamesAreNoKeys
names_are_no_keys name text = refl

keyless : (key text : List ℕ) → without_key (key_comment key ++ text) ≡ text
keyless key text =
    let all = key_comment key ++ text in
    ap (λ b. if b then drop 23 all else all) (keys_are_kept key text) ∙ drop_at (key_comment key) text 23 (length-key_comment key)

-- a text with the comment of a name has none of a key
unsigned : (text : List ℕ) → is_signed text ≡ false → has_prefix (codes "/* by ") text ≡ false
unsigned text plain =
    ⊎_elim
    (λ (yes' : has_prefix (codes "/* by ") text ≡ true).
    let is : text ≡ codes "/* by " ++ drop 6 text = (starts_is Decides-eqb text (codes "/* by ") _ refl).0 yes' in
    let unkeyed : is_keyed_text text ≡ false = ap is_keyed_text is in
    let same : without_key text ≡ text = ap (λ b. if b then drop 23 text else text) unkeyed in
    absurd (let never : true ≡ false = sym yes' ∙ sym (ap (has_prefix (codes "/* by ")) same) ∙ plain in cc))
    (λ (no' : has_prefix (codes "/* by ") text ≡ false). no')
    (cases_Bool (has_prefix (codes "/* by ") text))

pub names_are_kept : NamesAreKept
names_are_kept None None text plain = plain
names_are_kept None (Some name) text plain = begins (name_comment name) text
names_are_kept (Some key) None text plain = ap (has_prefix (codes "/* by ")) (keyless key text) ∙ unsigned text plain
names_are_kept (Some key) (Some name) text plain =
    ap (has_prefix (name_comment name)) (keyless key (name_comment name ++ text)) ∙ begins (name_comment name) text
