-- Places in ascending lists of tuples.
use Rattle.std.specs.Prelude.{◌≡◌, ℕ, ◌<◌, ◌≤◌, List, length, get_or}
use Rattle.std.specs.declared.cmp.Ordering.TheVariants.{Less, Greater}
use Rattle.td_values.specs.Data.{Attrs}
use Rattle.td_values.specs.Order.{attrs_order}

-- those before the place are below the tuple
abbrev pub AreBelow : List Attrs → ℕ → Attrs → Type 0
AreBelow ts at t = (k : ℕ) (d : Attrs) → k < at → attrs_order (get_or ts k d) t ≡ Less

-- those behind it are above
abbrev pub AreAbove : List Attrs → ℕ → Attrs → Type 0
AreAbove ts at t = (k : ℕ) (d : Attrs) → at < k → k < length ts → attrs_order (get_or ts k d) t ≡ Greater

-- those from it on are above
abbrev pub AreAboveFrom : List Attrs → ℕ → Attrs → Type 0
AreAboveFrom ts at t = (k : ℕ) (d : Attrs) → at ≤ k → k < length ts → attrs_order (get_or ts k d) t ≡ Greater
