-- Values by their kinds. Where a value is of another kind than is wanted there is no meaning, which typing rules out.
use Rattle.std.specs.Prelude.{ℕ, ℤ, Bool, List, [], ◌∷◌, Option, None, Some, Result, Ok, Err}
use Rattle.td_values.specs.Data.{Datum, boolean, integer, char, user, tuple, relation, Items, no_items, item, Attrs}
use Rattle.td_values.specs.Headings.{header_of}
use Rattle.td_values.specs.Rows.{RowsData}
use Rattle.td_algebra.specs.declared.errors.Stop.{Stop}
use Rattle.td_algebra.specs.declared.errors.Stop.TheVariants.{Untyped}
use Rattle.td_algebra.specs.Nested.{tuple_list}
use Rattle.td_algebra.specs.Raising.{and_then}

abbrev pub truth_of : Datum → Result Bool Stop
truth_of (boolean b) = Ok b
truth_of d = Err Untyped

abbrev pub integer_of : Datum → Result ℤ Stop
integer_of (integer n) = Ok n
integer_of d = Err Untyped

abbrev pub text_of : Datum → Result (List ℕ) Stop
text_of (char s) = Ok s
text_of d = Err Untyped

abbrev pub tuple_in : Datum → Result Attrs Stop
tuple_in (tuple t) = Ok t
tuple_in d = Err Untyped

abbrev pub rows_of : Datum → Result RowsData Stop
rows_of (relation h ts) = Ok (record { heading = header_of h; tuples = tuple_list ts })
rows_of d = Err Untyped

-- the components of a user value
abbrev pub item_list : Items → List Datum
item_list no_items = []
item_list (item d is) = d ∷ item_list is

abbrev pub components_of : Datum → Result (List Datum) Stop
components_of (user p is) = Ok (item_list is)
components_of d = Err Untyped

-- what is there, if something is
abbrev pub known : Option Datum → Result Datum Stop
known None = Err Untyped
known (Some d) = Ok d

-- two answers, or the error of the first that has one
abbrev pub both : {A B : Type 0} → Result A Stop → Result B Stop → Result (A × B) Stop
both r s = and_then r (λ a. and_then s (λ b. Ok (a, b)))
