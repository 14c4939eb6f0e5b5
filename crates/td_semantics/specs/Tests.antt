-- What must be true of relvars after each statement: the tests of a script, in its order.
use Rattle.std.specs.Prelude.{◌≡◌, ℕ, Bool, true, false, not, ◌&&◌, List, [], ◌∷◌, Option, None, Some, Result, Ok, Err}
use Rattle.std.specs.List.{Contains, list_any}
use Rattle.std.specs.Ordering.{eq_by_cmp}
use Rattle.td_values.specs.Data.{Attrs, no_attrs}
use Rattle.td_values.specs.Order.{attrs_order}
use Rattle.td_tuples.specs.Parts.{cut}
use Rattle.td_algebra.specs.declared.errors.Stop.{Stop}
use Rattle.td_algebra.specs.Raising.{and_then}
use Rattle.td_headings.specs.Catalogues.{CatalogueData}
use Rattle.td_headings.specs.declared.defined.Test.{Test}
use Rattle.td_headings.specs.declared.defined.Test.TheVariants as test
use Rattle.td_meaning.specs.Mean.{Relvars}
use Rattle.td_operators.specs.Values.{truth_of}
use Rattle.td_semantics.specs.Trees.{tree_means}

-- the tuples agree on these attributes
abbrev pub agree : List (List ℕ) → Attrs → Attrs → Bool
agree key t u = eq_by_cmp attrs_order (cut key t) (cut key u)

-- no two tuples agree on the attributes of the key
abbrev pub is_key : List (List ℕ) → List Attrs → Bool
is_key key [] = true
is_key key (t ∷ ts) = not (list_any (agree key t) ts) && is_key key ts

-- whether the test is true of these relvars, or the error that it raises
abbrev pub judgement : CatalogueData → Relvars → Test → Result Bool Stop
judgement c relvars (test.Key n key) = and_then (relvars n) (λ r. Ok (is_key key r.tuples))
judgement c relvars (test.Constraint x u) = and_then (tree_means c relvars u no_attrs) truth_of

-- the test, where it is false or raises, or what fails behind it
abbrev pub or_behind : Test → Result Bool Stop → Option (Test × Option Stop) → Option (Test × Option Stop)
or_behind t (Ok true) behind = behind
or_behind t (Ok false) behind = Some (t, None)
or_behind t (Err e) behind = Some (t, Some e)

-- the first test that is false or raises, with its error
abbrev pub failing : CatalogueData → Relvars → List Test → Option (Test × Option Stop)
failing c relvars [] = None
failing c relvars (t ∷ ts) = or_behind t (judgement c relvars t) (failing c relvars ts)

-- every test is true
abbrev pub AreLegal : CatalogueData → Relvars → Type 0
AreLegal c relvars = (t : Test) → Contains c.tests t → judgement c relvars t ≡ Ok true
