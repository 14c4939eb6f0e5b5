-- That the values of parts are right is a proposition, and how deep parts are.
use Rattle.std.specs.Prelude.{ℕ, max, List, [], ◌∷◌, Result}
use Rattle.std.specs.Borrow.{Bor}
use Rattle.std.specs.Coded.{Coded-set, Π_prop, coded_result}
use Rattle.td_values.specs.Data.{Datum}
use Rattle.td_values.specs.Proving.Code.{datum_code}
use Rattle.td_algebra.specs.contracts.errors.Stop as stop
use Rattle.td_typed_trees.specs.declared.tree.Typed.{Typed}
use Rattle.td_algebra.specs.declared.errors.Stop.{Stop}
use Rattle.td_meaning.specs.declared.environment.Environment.{Environment}
use Rattle.td_meaning.specs.declared.parts.HoistedTerm.{HoistedTerm}
use Rattle.td_meaning.specs.ForProofs.Levels.{levels}
use Rattle.td_meaning.specs.Parts.{AreRight, known_value}
use Rattle.td_meaning.specs.Seen.{mean_in}

pub answers_set : IsSet (Result Datum Stop)
answers_set = Coded-set (coded_result datum_code stop.the_row.coded)

pub AreRight-prop : (env : Environment) (ps : List HoistedTerm) → IsProp (AreRight env ps)
AreRight-prop env ps = Π_prop (λ p. Π_prop (λ h. Π_prop (λ names. answers_set (mean_in env p.tree.now names) (known_value p.value))))

-- the levels of the deepest of these
abbrev pub deepest_in : List (Bor Typed) → ℕ
deepest_in [] = 0
deepest_in (a ∷ all) = max (levels a.now) (deepest_in all)
