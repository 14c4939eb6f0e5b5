-- The fields of a query string, by the syntax of forms of the URL Standard.
use Rattle.std.specs.Prelude.{ℕ, List, [], ◌∷◌, Option, Some, None, String, if◌then◌else◌, map, string_bytes}
use Rattle.std.specs.Str.{bytes_eq}
use Rattle.std.specs.Str.Lossy.{utf8_lossy}
use Rattle.form_urlencoded.specs.Form.{decode, raw_pairs}

-- the text of a name or a value: `+` is a space, escapes are decoded, and what is no UTF-8 becomes U+FFFD
abbrev pub decoded_text : List ℕ → List ℕ
decoded_text bytes = utf8_lossy (decode bytes)

abbrev pub decoded_pair : List ℕ × List ℕ → List ℕ × List ℕ
decoded_pair p = (decoded_text p.0, decoded_text p.1)

-- the names and values of a query string
abbrev pub query_fields : List ℕ → List (List ℕ × List ℕ)
query_fields query = map decoded_pair (raw_pairs query)

-- the texts of a name and a value
abbrev pub field_texts : {A : Type 0} → String A × String A → List ℕ × List ℕ
field_texts p = (string_bytes p.0, string_bytes p.1)

-- the value of the first field of this name
unfoldable pub field_value : List ℕ → List (List ℕ × List ℕ) → Option (List ℕ)
field_value name [] = None
field_value name (f ∷ fs) = if bytes_eq f.0 name then Some f.1 else field_value name fs
