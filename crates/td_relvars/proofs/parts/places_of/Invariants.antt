use Rattle.std.proofs.Common.{◌≡◌, ◌++◌, drop}
use Rattle.td_relvars.specs.Parts.{numbers_named}
use Rattle.td_relvars.proofs.parts.places_of.Given as goal

abbrev pub invariant-loop-name : goal.invariant-loop-name
invariant-loop-name l =
    numbers_named l.catalogue.schema l.names ≡ l.places.items ++ numbers_named l.catalogue.schema (drop l.name-index l.names)
