-- Looking for a field, one after the other.
use Rattle.std.proofs.Common.{◌≡◌, ◌<◌, ℕ, ◌+◌, Bool, true, false, List, [], ◌∷◌, length, get_or, drop, map, Option, Some, None, String, string_bytes, if◌then◌else◌, sym, ap, ◌∙◌}
use Rattle.std.specs.Str.{bytes_eq}
use Rattle.std.specs.declared.alloc.Global.{Global}
use Rattle.std.proofs.lemmas.List.{drop_more}
use Rattle.td_http_api.specs.Fields.{field_texts, field_value}

module _ (name : List ℕ) (fields : List (String Global × String Global)) (i : ℕ) (field : String Global × String Global) (within : i < length fields) (is : field ≡ get_or fields i field) where
  abbrev pub left : ℕ → Option (List ℕ)
  left n = field_value name (map field_texts (drop n fields))

  value_next : left i ≡ (if bytes_eq (string_bytes field.0) name then Some (string_bytes field.1) else left (i + 1))
  unfolding field_value
  value_next =
      ap (λ ys. field_value name (map field_texts ys)) (drop_more fields i field within)
      ∙ ap (λ f. field_value name (field_texts f ∷ map field_texts (drop (i + 1) fields))) (sym is)

  pub value_found : (w : Option (List ℕ)) → bytes_eq (string_bytes field.0) name ≡ true → left i ≡ w → Some (string_bytes field.1) ≡ w
  value_found w same all =
      sym (ap (λ b. if b then Some (string_bytes field.1) else left (i + 1)) same) ∙ sym value_next ∙ all

  pub value_passed : (w : Option (List ℕ)) → bytes_eq (string_bytes field.0) name ≡ false → left i ≡ w → left (i + 1) ≡ w
  value_passed w other all =
      sym (ap (λ b. if b then Some (string_bytes field.1) else left (i + 1)) other) ∙ sym value_next ∙ all
