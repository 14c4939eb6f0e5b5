use Rattle.std.proofs.Common.{◌≡◌, ◌++◌, drop}
use Rattle.td_headings.specs.Expressions.{places_of}
use Rattle.td_assign.proofs.names.add_places.Given as goal

abbrev pub invariant-loop-base : goal.invariant-loop-base
invariant-loop-base l = l.initial.places.items ++ places_of l.bases ≡ l.places.items ++ places_of (drop l.base-index l.bases)
