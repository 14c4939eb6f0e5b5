-- What an operand is, where that decides what is done with it.
use Rattle.std.specs.Prelude.{◌≡◌, Bool, true, false}
use Rattle.td_values.specs.Data.{Datum, integer, char, tuple}
use Rattle.td_operators.specs.declared.operand.Shape.{Shape}
use Rattle.td_operators.specs.declared.operand.Shape.TheVariants as shape

abbrev pub is_scalar : Datum → Bool
is_scalar (integer n) = true
is_scalar (char s) = true
is_scalar (tuple t) = true
is_scalar d = false

abbrev pub HasShape : Shape → Datum → Type 0
HasShape (shape.Integer n) d = d ≡ integer n
HasShape (shape.Text s) d = d ≡ char s.now
HasShape (shape.Tuple t) d = d ≡ tuple t.now
HasShape shape.Other d = is_scalar d ≡ false
