-- The key of a statement: the comment that its text begins with, and the statement of a site that is found by it.
use Rattle.std.specs.Prelude.{ℕ, nat_eq, nat_le, Bool, ◌&&◌, ◌||◌, ◌==◌, List, ◌++◌, take, drop, filter, find, reverse, codes, Option, Some, None}
use Rattle.std.specs.List.{list_all, starts_with}
use Rattle.hex.specs.Hex.{encode_lower}
use Rattle.sha2.specs.Sha256.{sha256}
use Rattle.td_stamps.specs.declared.entry.Entry.{Entry}

-- the first 16 hexadecimal digits of the key's SHA-256
abbrev pub key_digits : List ℕ → List ℕ
key_digits key = encode_lower (take 8 (sha256 key))

-- the comment of a key, with a blank after it
abbrev pub key_comment : List ℕ → List ℕ
key_comment key = codes "/* " ++ (key_digits key ++ codes " */ ")

-- the text that is issued for a statement: with a key, its comment comes first
abbrev pub issued_text : Option (List ℕ) → List ℕ → List ℕ
issued_text None text = text
issued_text (Some key) text = key_comment key ++ text

abbrev pub has_prefix : List ℕ → List ℕ → Bool
has_prefix prefix text = starts_with nat_eq text prefix

-- 0 to 9, or a to f
abbrev pub is_digit : ℕ → Bool
is_digit c = (nat_le 48 c && nat_le c 57) || (nat_le 97 c && nat_le c 102)

-- 16 digits, and the end of a comment with a blank after it
abbrev pub ends_comment : List ℕ → Bool
ends_comment rest = list_all is_digit (take 16 rest) && has_prefix (codes " */ ") (drop 16 rest)

-- the text begins with the comment of some key
abbrev pub is_keyed_text : List ℕ → Bool
is_keyed_text text = has_prefix (codes "/* ") text && ends_comment (drop 3 text)

-- a statement of this site that begins with such a comment
abbrev pub is_own_keyed : ℕ → Entry → Bool
is_own_keyed site e = (e.site == site) && is_keyed_text e.text

-- how many of these are searched for a key
abbrev pub most_keyed : ℕ
most_keyed = 1000

-- the last of these, the latest first
abbrev pub last_keyed : ℕ → List Entry → List Entry
last_keyed site es = take most_keyed (filter (is_own_keyed site) (reverse es))

-- the latest of those that begins with this comment
abbrev pub entry_with : ℕ → List ℕ → List Entry → Option Entry
entry_with site comment es = find (λ e. has_prefix comment e.text) (last_keyed site es)

-- the statement that was issued under a key, if it is one of the last
abbrev pub keyed_entry : ℕ → List ℕ → List Entry → Option Entry
keyed_entry site key es = entry_with site (key_comment key) es
