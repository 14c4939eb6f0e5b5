-- Extensions of which only the errors and the number of tuples are asked for.
use Rattle.std.specs.Prelude.{◌≡◌, List, false, Option, None, Some, Result, Ok, Err}
use Rattle.std.specs.List.{All}
use Rattle.td_values.specs.Headings.{Header}
use Rattle.td_algebra.specs.Stops.{lesser}
use Rattle.td_algebra.specs.declared.errors.Stop.{Stop}
use Rattle.td_algebra.specs.Raising.{and_then}
use Rattle.td_tuples.specs.declared.items.Item.{Item}
use Rattle.td_tuples.specs.Parts.{is_in, names_of}

-- whether there is an answer, or the error
abbrev pub checked : {A : Type 0} → Result A Stop → Result (Unit {0}) Stop
checked m = and_then m (λ _. Ok tt)

-- the least error so far, if there is one
abbrev pub least_so_far : Option Stop → Result (Unit {0}) Stop
least_so_far None = Ok tt
least_so_far (Some e) = Err e

-- the least error of both, if there is one
abbrev pub both : Result (Unit {0}) Stop → Result (Unit {0}) Stop → Result (Unit {0}) Stop
both (Ok _) (Ok _) = Ok tt
both (Ok _) (Err e) = Err e
both (Err e) (Ok _) = Err e
both (Err e) (Err f) = Err (lesser e f)

-- the heading has none of the items' names
abbrev pub AreNew : {E : Type 0} → Header → List (Item E) → Type 0
AreNew h items = All (λ i. is_in (names_of h) i.name ≡ false) items
