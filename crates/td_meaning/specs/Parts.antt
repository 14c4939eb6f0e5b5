-- Parts of expressions whose values are known.
use Rattle.std.specs.Prelude.{◌≡◌, List, Result, Ok, Err}
use Rattle.std.specs.List.{Contains}
use Rattle.td_values.specs.Data.{Datum}
use Rattle.td_algebra.specs.declared.errors.Stop.{Stop}
use Rattle.td_meaning.specs.declared.environment.Environment.{Environment}
use Rattle.td_meaning.specs.declared.parts.HoistedTerm.{HoistedTerm}
use Rattle.td_meaning.specs.declared.scope.KnownValue.{KnownValue}
use Rattle.td_meaning.specs.Mean.{Names}
use Rattle.td_meaning.specs.Seen.{held_value, mean_in}

abbrev pub known_value : Result KnownValue Stop → Result Datum Stop
known_value (Ok h) = Ok (held_value h)
known_value (Err e) = Err e

-- the part means this, whatever the names around it stand for
abbrev pub IsRight : Environment → HoistedTerm → Type 0
IsRight env p = (names : Names) → mean_in env p.tree.now names ≡ known_value p.value

abbrev pub AreRight : Environment → List HoistedTerm → Type 0
AreRight env ps = (p : HoistedTerm) → Contains ps p → IsRight env p
