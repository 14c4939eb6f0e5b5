-- The attributes of a tuple by name.
use Rattle.std.specs.Prelude.{ℕ, List, Option, None, Some, if◌then◌else◌}
use Rattle.std.specs.Coded.{Coded, coded_ℕ, coded_list}
use Rattle.std.specs.FinMap as map
use Rattle.std.specs.Ordering.{eq_by_cmp}
use Rattle.td_values.specs.Data.{Datum, Attrs, no_attrs, attr}
use Rattle.td_values.specs.Proving.Code.{datum_code}
use Rattle.td_values.specs.Order.{text_cmp}

-- the value at a name
abbrev pub attribute_of : List ℕ → Attrs → Option Datum
attribute_of n no_attrs = None
attribute_of n (attr m d as') = if eq_by_cmp text_cmp n m then Some d else attribute_of n as'

-- a finite map from names to values
abbrev pub AttributeMap : Type 0
AttributeMap = map.FinMap text_cmp Datum

-- by which a proof tells such maps apart
abbrev pub attribute_code : Coded AttributeMap
attribute_code = map.code (coded_list coded_ℕ) datum_code
