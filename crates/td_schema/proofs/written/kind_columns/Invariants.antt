use Rattle.std.proofs.Common.{◌≡◌, take, map}
use Rattle.std.specs.FinMap as by_name
use Rattle.td_schema.specs.Written.{kind_column}
use Rattle.td_schema.proofs.written.kind_columns.Given as goal

abbrev pub invariant-loop-field : goal.invariant-loop-field
invariant-loop-field l = l.heading ≡ by_name.from_entries (map kind_column (take l.field-index l.fields))
