-- What is added to a schema, where it may be.
use Rattle.std.specs.Prelude.{Bool, not, ◌&&◌, List, map, Option, is_none}
use Rattle.td_values.specs.Headings.{Header}
use Rattle.td_schema.specs.declared.schema.Representation.{Representation}
use Rattle.td_schema.specs.Kinds.{Name}
use Rattle.td_schema.specs.Results.{where_true}
use Rattle.td_schema.specs.Schemas.{SchemaData, begins_with_the, possrep_named, relvar_named, type_named, schema_with_relvar, schema_with_type}

-- the names of the possreps, and those of their types
abbrev pub possrep_names : List Representation → List Name
possrep_names rs = map (λ r. r.possrep.name) rs

abbrev pub type_names : List Representation → List Name
type_names rs = map (λ r. r.possrep.ty) rs

-- with one more relvar, whose name is new
abbrev pub relvar_added : SchemaData → Name → Header → Option SchemaData
relvar_added cat n h = where_true (is_none (relvar_named cat n)) (schema_with_relvar cat n h)

-- the names of a type and of its possrep are new, and that of the possrep does not begin with THE_
abbrev pub may_add : SchemaData → Representation → Bool
may_add cat r = not (begins_with_the r.possrep.name) && (is_none (type_named cat r.possrep.ty) && is_none (possrep_named cat r.possrep.name))

-- with one more type
abbrev pub type_added : SchemaData → Representation → Option SchemaData
type_added cat r = where_true (may_add cat r) (schema_with_type cat r)
