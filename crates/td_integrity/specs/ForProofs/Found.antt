-- What a tuple finds in an index by its own key.
use Rattle.std.specs.Prelude.{List, Bool}
use Rattle.std.specs.List.{filter, list_all}
use Rattle.std.specs.Ordering.{eq_by_cmp}
use Rattle.td_values.specs.Data.{Attrs}
use Rattle.td_values.specs.Order.{attrs_order}
use Rattle.td_algebra.specs.KeyIndexes.{KeyIndexData}
use Rattle.td_algebra.specs.Keys.{shares_part}

-- each of these tuples is this one
abbrev pub are_all : Attrs → List Attrs → Bool
are_all t us = list_all (λ u. eq_by_cmp attrs_order u t) us

-- no tuple but itself
abbrev pub finds_itself : KeyIndexData → Attrs → Bool
finds_itself x t = are_all t (filter (shares_part x.key t) x.tuples)
