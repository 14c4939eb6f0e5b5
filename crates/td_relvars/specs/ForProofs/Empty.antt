-- Empty relvars, place by place.
use Rattle.std.specs.Prelude.{Option, None, Some}
use Rattle.td_values.specs.Headings.{Header}
use Rattle.td_values.specs.Rows.{RowsData}
use Rattle.td_syntax.specs.declared.tree.Named.{Named}
use Rattle.td_headings.specs.declared.defined.Origin.{Origin}
use Rattle.td_semantics.specs.Openings.{empty_at}

-- of the relvar with this origin, heading and name, if it is there
abbrev pub empty_in : Option Origin → Option (Named Header) → Option RowsData
empty_in (Some o) (Some v) = empty_at o v
empty_in _ _ = None
