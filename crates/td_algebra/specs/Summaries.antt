-- Summaries over groups of tuples (Date and Darwen, The Third Manifesto).
use Rattle.std.specs.Prelude.{◌≡◌, ◌^◌, ℤ, pos, neg_ℤ, ◌+ℤ◌, int_le, int_lt, Bool, false, ◌&&◌, if◌then◌else◌, List, [], ◌∷◌, length, Option, None, Some, IfSome, Result, Ok, Err}
use Rattle.std.specs.Borrow.{Bor}
use Rattle.std.specs.List.{All, Contains, filter, fold, list_all, list_any}
use Rattle.std.specs.Ordering.{eq_by_cmp, is_gt, is_lt}
use Rattle.td_algebra.specs.declared.errors.Stop.{Stop}
use Rattle.td_values.specs.declared.raises.Raise.TheVariants.{Overflow, Empty}
use Rattle.td_algebra.specs.declared.errors.Stop.TheVariants.{Error}
use Rattle.td_values.specs.Data.{Datum, boolean, integer, Attrs}
use Rattle.td_values.specs.Headings.{Header}
use Rattle.td_values.specs.Order.{order, attrs_order}
use Rattle.td_values.specs.Rows.{RowsData}
use Rattle.td_tuples.specs.Parts.{names_of, cut}
use Rattle.td_tuples.specs.declared.items.Summary.{Summary}
use Rattle.td_tuples.specs.declared.items.Summary.TheVariants.{Count, Sum, Max, Min, And, Or}
use Rattle.td_algebra.specs.declared.errors.Fault.{Fault}
use Rattle.td_algebra.specs.Raising.{all_of, and_then}
use Rattle.td_algebra.specs.Extending.{TermMeaning, TakesBoth, Means}

-- the group of u: the tuples of r whose part at the names of the heading is u
abbrev pub group_of : RowsData → Header → Attrs → List Attrs
group_of r h u = filter (λ t. eq_by_cmp attrs_order (cut (names_of h) t) u) r.tuples

-- the sum of the integers, whatever its size
abbrev pub number_in : Datum → ℤ
number_in (integer n) = n
number_in d = pos 0

abbrev pub whole_sum : List Datum → ℤ
whole_sum [] = pos 0
whole_sum (d ∷ ds) = number_in d +ℤ whole_sum ds

abbrev pub in_64_bits : ℤ → Bool
in_64_bits n = int_le (neg_ℤ (pos (2 ^ 63))) n && int_lt n (pos (2 ^ 63))

-- the sum, if it is within 64 bits
abbrev pub sum_of : List Datum → Result Datum Stop
sum_of ds = if in_64_bits (whole_sum ds) then Ok (integer (whole_sum ds)) else Err (Error Overflow)

-- the greater and the lesser of two values
abbrev pub greater : Datum → Datum → Datum
greater d e = if is_lt (order d e) then e else d

abbrev pub lesser_of : Datum → Datum → Datum
lesser_of d e = if is_lt (order e d) then e else d

-- the greatest and the least of these, of which there is one at least
abbrev pub most : (Datum → Datum → Datum) → List Datum → Result Datum Stop
most better [] = Err (Error Empty)
most better (d ∷ ds) = Ok (fold better d ds)

abbrev pub is_true : Datum → Bool
is_true (boolean b) = b
is_true d = false

-- what a summary makes of the values of its term, or of the tuples where it has none
abbrev pub fold_of : {E : Type 0} → Summary E → List Datum → Result Datum Stop
fold_of Count ds = Ok (integer (pos (length ds)))
fold_of (Sum e) ds = sum_of ds
fold_of (Max e) ds = most greater ds
fold_of (Min e) ds = most lesser_of ds
fold_of (And e) ds = Ok (boolean (list_all is_true ds))
fold_of (Or e) ds = Ok (boolean (list_any is_true ds))

-- the term of a summary; COUNT has none
abbrev pub term_of : {E : Type 0} → Summary E → Option E
term_of Count = None
term_of (Sum e) = Some e
term_of (Max e) = Some e
term_of (Min e) = Some e
term_of (And e) = Some e
term_of (Or e) = Some e

-- a summary over a group: of how many tuples it has, or of the term's values on them, or else the least of their errors
abbrev pub over_term : {E : Type 0} → TermMeaning E → List Attrs → Summary E → Option E → Result Datum Stop
over_term m ts s None = Ok (integer (pos (length ts)))
over_term m ts s (Some e) = and_then (all_of (m e) ts) (fold_of s)

abbrev pub summary_over : {E : Type 0} → TermMeaning E → List Attrs → Summary E → Result Datum Stop
summary_over m ts s = over_term m ts s (term_of s)

-- what summaries mean at a tuple u: each over u's group in r
abbrev pub over_groups : {E : Type 0} → TermMeaning E → RowsData → Header → TermMeaning (Summary E)
over_groups m r h summary u = summary_over m (group_of r h u) summary

-- a fact of a summary's term
abbrev pub OfTerm : {E : Type 0} → (E → Type 0) → Summary E → Type 0
OfTerm P s = IfSome (term_of s) P

-- what a function takes, and that it answers the meaning, at the summary's term and a tuple
abbrev pub TakesTerm : {E : Type 0} → (Bor E → Bor Attrs → Type 0) → Summary E → Attrs → Type 0
TakesTerm pre s t = OfTerm (λ e. TakesBoth pre e t) s

abbrev pub MeansTerm : {E W : Type 0} → (Bor E → Bor Attrs → Result Datum (Fault W) → Type 0) → TermMeaning E → Summary E → Attrs → Type 0
MeansTerm post m s t = OfTerm (λ e. Means post m e t) s

-- ---- what the greatest and the least are
-- d is one of these, and none is greater
abbrev pub IsGreatestOf : List Datum → Datum → Type 0
IsGreatestOf ds d = Contains ds d × All (λ e. is_gt (order e d) ≡ false) ds

-- d is one of these, and none is less
abbrev pub IsLeastOf : List Datum → Datum → Type 0
IsLeastOf ds d = Contains ds d × All (λ e. is_gt (order d e) ≡ false) ds

abbrev pub MaxIsGreatest : Type 0
MaxIsGreatest = (ds : List Datum) (d : Datum) → most greater ds ≡ Ok d → IsGreatestOf ds d

abbrev pub MinIsLeast : Type 0
MinIsLeast = (ds : List Datum) (d : Datum) → most lesser_of ds ≡ Ok d → IsLeastOf ds d
