-- The last of some names that is a given one.
use Rattle.std.specs.Prelude.{List, [], ◌∷◌, Option, Some, if◌then◌else◌}
use Rattle.td_values.specs.declared.TypeKind.{TypeKind}
use Rattle.td_syntax.specs.declared.tree.Named.{Named}
use Rattle.td_schema.specs.Kinds.{Name}
use Rattle.td_schema.specs.Schemas.{same_text}

-- its kind, or what was found before
abbrev pub latest : List (Named TypeKind) → Name → Option TypeKind → Option TypeKind
latest [] x found = found
latest (n ∷ ns) x found = latest ns x (if same_text n.name x then Some n.value else found)
