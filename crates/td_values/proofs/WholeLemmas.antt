-- What is whole, from the facts of one level.
use Rattle.std.proofs.Common.{◌≡◌, ℕ, suc, List, [], ◌∷◌, arith}
use Rattle.std.specs.List.{All, AllByRecursion}
use Rattle.std.specs.List.Sorted.{IsStrictlySortedBy}
use Rattle.std.specs.declared.cmp.Ordering.TheVariants.{Less}
use Rattle.td_values.specs.Data.{Fields, Datum, Attrs, items_of, attrs_of, tuples_of}
use Rattle.td_values.specs.Order.{attrs_order}
use Rattle.td_values.specs.Whole.{heading_of, NamesAscend, TupleBelow, IsWhole, AreWhole, IsWholeTuple, AreRowsOf}

-- each value is whole
abbrev pub AllWhole : List (List ℕ × Datum) → Type 0
AllWhole xs = All (λ x. IsWhole x.1) xs

pub whole_from : (xs : List (List ℕ × Datum)) → NamesAscend (attrs_of xs) → AllWhole xs → IsWholeTuple (attrs_of xs)
whole_from [] n a = tt
whole_from (x ∷ xs) n a = (a 0 x (omega arith), n.0, whole_from xs n.1 (λ k d lt. a (suc k) d (omega arith)))

pub items_whole : (ds : List Datum) → All IsWhole ds → AreWhole (items_of ds)
items_whole [] a = tt
items_whole (d ∷ ds) a = (a 0 d (omega arith), items_whole ds (λ k e lt. a (suc k) e (omega arith)))

below_from : (t : Attrs) (ts : List Attrs) → AllByRecursion (λ u. attrs_order t u ≡ Less) ts → TupleBelow t (tuples_of ts)
below_from t [] a = tt
below_from t (u ∷ us) a = a.0

pub rows_whole : (h : Fields) (ts : List Attrs) → All (λ t. heading_of t ≡ h) ts → All IsWholeTuple ts → IsStrictlySortedBy attrs_order ts → AreRowsOf h (tuples_of ts)
unfolding IsStrictlySortedBy
rows_whole h [] f w s = tt
rows_whole h (t ∷ ts) f w s =
    (f 0 t (omega arith), w 0 t (omega arith), below_from t ts s.0, rows_whole h ts (λ k d lt. f (suc k) d (omega arith)) (λ k d lt. w (suc k) d (omega arith)) s.1)
