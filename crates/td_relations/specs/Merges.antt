-- Merges of two ascending lists of tuples: what a walk along both keeps.
use Rattle.std.specs.Prelude.{◌≡◌, Bool, true, false, List}
use Rattle.std.specs.FinSet as set
use Rattle.std.specs.List.Sorted.{IsStrictlySortedBy}
use Rattle.td_values.specs.Data.{Attrs}
use Rattle.td_values.specs.Order.{attrs_order}
use Rattle.td_relations.specs.Sets.{tuple_set}
use Rattle.td_relations.specs.declared.merges.Kept.{Kept}

-- what the first list alone has, or what the second alone has
abbrev pub first_alone : Kept
first_alone = record { first = true; both = false; second = false }

abbrev pub second_alone : Kept
second_alone = record { first = false; both = false; second = true }

-- whether a tuple is kept that is in the first list or not, and in the second or not
abbrev pub is_kept : Kept → Bool → Bool → Bool
is_kept k true true = k.both
is_kept k true false = k.first
is_kept k false true = k.second
is_kept k false false = false

-- zs ascends, and its tuples are those that are kept
pub record IsMerge (k : Kept) (xs ys zs : List Attrs) : Type 0 where
  pub ascending : IsStrictlySortedBy attrs_order zs
  pub members : (t : Attrs) → set.contains (tuple_set zs) t ≡ is_kept k (set.contains (tuple_set xs) t) (set.contains (tuple_set ys) t)
