-- The name of a token by which a statement is issued: a comment in front of its text, after that of a key.
use Rattle.std.specs.Prelude.{◌≡◌, ℕ, Bool, true, false, List, ◌++◌, drop, codes, Option, Some, None, if◌then◌else◌}
use Rattle.td_statement_keys.specs.Keys.{has_prefix, is_keyed_text}

-- the comment of a name, with a blank after it
abbrev pub name_comment : List ℕ → List ℕ
name_comment name = codes "/* by " ++ (name ++ codes " */ ")

-- the statement of a token with this name: its comment comes first
abbrev pub signed_text : Option (List ℕ) → List ℕ → List ℕ
signed_text None text = text
signed_text (Some name) text = name_comment name ++ text

-- the text after the comment of a key, if it begins with one
abbrev pub without_key : List ℕ → List ℕ
without_key text = if is_keyed_text text then drop 23 text else text

-- the text begins with the comment of a name, after that of a key
abbrev pub is_signed : List ℕ → Bool
is_signed text = has_prefix (codes "/* by ") (without_key text)

-- the text begins with the comment of this name, or of none
abbrev pub IsSignedBy : Option (List ℕ) → List ℕ → Type 0
IsSignedBy None text = is_signed text ≡ false
IsSignedBy (Some name) text = has_prefix (name_comment name) (without_key text) ≡ true
