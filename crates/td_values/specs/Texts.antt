-- What a text keeps, by cases.
use Rattle.std.specs.Prelude.{ℕ, List, string_bytes}
use Rattle.td_values.specs.declared.texts.Kept.{Kept}
use Rattle.td_values.specs.declared.texts.Kept.TheVariants.{Short, Long}

-- the bytes of a text that is kept in the value, or shared
abbrev pub kept_bytes : Kept → List ℕ
kept_bytes (Short text) = text.bytes
kept_bytes (Long text) = string_bytes text.value
