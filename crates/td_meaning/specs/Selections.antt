-- What selectors make of components: a user value, if the CONSTRAINT of its possrep is true of them.
use Rattle.std.specs.Prelude.{ℕ, true, ◌==◌, if◌then◌else◌, List, [], ◌∷◌, Option, None, Some, Bool, Result, Ok, Err}
use Rattle.std.specs.List.{fold}
use Rattle.td_values.specs.Data.{Datum, user, items_of}
use Rattle.td_typed_trees.specs.declared.expression.Selector.{Selector}
use Rattle.td_typed_trees.specs.declared.tree.Typed.{Typed}
use Rattle.td_algebra.specs.declared.errors.Stop.{Stop}
use Rattle.td_values.specs.declared.raises.Raise.TheVariants as raise
use Rattle.td_algebra.specs.declared.errors.Stop.TheVariants as stop
use Rattle.td_algebra.specs.Raising.{and_then}
use Rattle.td_meaning.specs.Mean.{Names, Relvars, Selection, mean, are_equal_names, truth_in}

-- the components by their names
abbrev pub components : List (List ℕ) → List Datum → Names
components [] ds x = None
components (n ∷ ns) [] x = None
components (n ∷ ns) (d ∷ ds) x = if are_equal_names n x then Some d else components ns ds x

abbrev pub no_relvars : Relvars
no_relvars n = Err stop.Untyped

-- the CONSTRAINT of the components: it sees no relvar, and the selectors before its own
unfoldable pub admits : Selection → Option Typed → Names → Result Bool Stop
admits earlier None names = Ok true
admits earlier (Some e) names = truth_in (mean no_relvars earlier e) names

-- where the CONSTRAINT is false, selection raises; where it raises, that error stands
unfoldable pub selected : Selection → Selector → List Datum → Result Datum Stop
selected earlier s ds = and_then (admits earlier s.limit (components s.components ds)) (λ b. if b then Ok (user s.possrep (items_of ds)) else Err (stop.Error raise.Selector))

abbrev pub none_selected : Selection
none_selected n ds = Err stop.Untyped

abbrev pub with_selector : Selection → Selector → Selection
with_selector earlier s n ds = if s.place == n then selected earlier s ds else earlier n ds

-- these selectors, of which each sees those before it
abbrev pub selection : List Selector → Selection
selection ss = fold with_selector none_selected ss
