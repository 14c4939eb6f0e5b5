-- Conditions made ready for a walk over tuples: parts that are joined by AND, and attributes by their places.
use Rattle.std.specs.Prelude.{◌≡◌, ℕ, Bool, true, false, max, slice_get, List, [], ◌∷◌, Result, Ok, Err}
use Rattle.std.specs.Option.{option_map}
use Rattle.td_values.specs.Data.{Datum, Attrs}
use Rattle.td_values.specs.Headings.{Header}
use Rattle.td_tuples.specs.Parts.{Fits, attributes}
use Rattle.td_syntax.specs.declared.tree.BinaryOperator.{BinaryOperator}
use Rattle.td_typed_trees.specs.declared.tree.Typed.{Typed}
use Rattle.td_algebra.specs.declared.errors.Stop.{Stop}
use Rattle.td_algebra.specs.Raising.{and_then}
use Rattle.td_operators.specs.Operators.{operate}
use Rattle.td_operators.specs.Values.{known, truth_of}
use Rattle.td_meaning.specs.declared.conditions.Check.{Check}
use Rattle.td_meaning.specs.declared.conditions.Check.TheVariants as check
use Rattle.td_meaning.specs.declared.conditions.Side.{Side}
use Rattle.td_meaning.specs.declared.conditions.Side.TheVariants as side
use Rattle.td_meaning.specs.ForProofs.Levels.{levels}
use Rattle.td_meaning.specs.ForProofs.Over.{Means}
use Rattle.td_meaning.specs.Mean.{Names, truth_in, within}

abbrev pub side_value : Attrs → Side → Result Datum Stop
side_value t (side.Attribute p) = known (option_map (λ a. a.1) (slice_get (attributes t) p))
side_value t (side.Value d) = Ok d

-- the truth of what the operator makes of both
abbrev pub comparison : BinaryOperator → Result Datum Stop → Result Datum Stop → Result Bool Stop
comparison o v w = and_then (and_then v (λ d. and_then w (operate o d))) truth_of

unfoldable pub check_holds : Means → Names → Attrs → Check → Result Bool Stop
check_holds m names t (check.Comparison o a b) = comparison o (side_value t a) (side_value t b)
check_holds m names t (check.Other e) = truth_in (m e.now) (within t names)

-- the second is asked for only where the first is true
abbrev pub and_also : Result Bool Stop → Result Bool Stop → Result Bool Stop
and_also (Ok true) s = s
and_also (Ok false) s = Ok false
and_also (Err e) s = Err e

abbrev pub all_hold : Means → Names → Attrs → List Check → Result Bool Stop
all_hold m names t [] = Ok true
all_hold m names t (c ∷ cs) = and_also (check_holds m names t c) (all_hold m names t cs)

-- ---- at each tuple of the heading
-- the operand's value is the side's
abbrev pub IsSide : Means → Names → Header → Typed → Side → Type 0
IsSide m names h a s = (t : Attrs) → Fits h t → m a (within t names) ≡ side_value t s

-- the check is true where the expression is
abbrev pub IsCheck : Means → Names → Header → Typed → Check → Type 0
IsCheck m names h a c = (t : Attrs) → Fits h t → check_holds m names t c ≡ truth_in (m a) (within t names)

-- all of these are true where the expression is
abbrev pub AreChecks : Means → Names → Header → Typed → List Check → Type 0
AreChecks m names h a cs = (t : Attrs) → Fits h t → all_hold m names t cs ≡ truth_in (m a) (within t names)

-- the new ones ask for the expression too, behind the old ones
abbrev pub AddsChecks : Means → Names → Header → Typed → List Check → List Check → Type 0
AddsChecks m names h a old new = (t : Attrs) → Fits h t → all_hold m names t new ≡ and_also (all_hold m names t old) (truth_in (m a) (within t names))

-- ---- how deep their expressions are
abbrev pub check_levels : Check → ℕ
check_levels (check.Comparison o a b) = 0
check_levels (check.Other e) = levels e.now

abbrev pub deepest_check : List Check → ℕ
deepest_check [] = 0
deepest_check (c ∷ cs) = max (check_levels c) (deepest_check cs)
