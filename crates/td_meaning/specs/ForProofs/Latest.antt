-- The last of some names of WITH that is a given one.
use Rattle.std.specs.Prelude.{ℕ, List, [], ◌∷◌, Option, Some, if◌then◌else◌}
use Rattle.td_syntax.specs.declared.tree.Named.{Named}
use Rattle.td_meaning.specs.declared.scope.KnownValue.{KnownValue}
use Rattle.td_meaning.specs.Mean.{are_equal_names}

-- what it holds, or what was found before
abbrev pub latest : List (Named KnownValue) → List ℕ → Option KnownValue → Option KnownValue
latest [] x found = found
latest (n ∷ ns) x found = latest ns x (if are_equal_names n.name x then Some n.value else found)
