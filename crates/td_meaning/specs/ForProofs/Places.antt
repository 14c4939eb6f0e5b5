-- Relvars that are known, and virtual ones, sought by their places.
use Rattle.std.specs.Prelude.{◌==◌, ℕ, Bool, List}
use Rattle.std.specs.List.{list_any}
use Rattle.td_typed_trees.specs.declared.expression.VirtualUnder.{VirtualUnder}
use Rattle.td_meaning.specs.declared.environment.Known.{Known}

-- there is one at this place
abbrev pub is_known : ℕ → List Known → Bool
is_known n ks = list_any (λ k. k.place == n) ks

abbrev pub is_virtual : ℕ → List VirtualUnder → Bool
is_virtual n vs = list_any (λ v. v.place == n) vs
