-- What a name means in an expression: it is looked up innermost first among the names of WITH and the attributes of
-- tuples, then among the relvars. Attributes of an inner tuple hide outer names, and outer ones stay visible otherwise.
use Rattle.std.specs.Prelude.{ℕ, List, [], ◌∷◌, Option, Some, None, if◌then◌else◌}
use Rattle.std.specs.FinMap as by_name
use Rattle.td_values.specs.Data.{Ty}
use Rattle.td_values.specs.Headings.{Header}
use Rattle.td_values.specs.declared.TypeKind.{TypeKind}
use Rattle.td_syntax.specs.declared.tree.Named.{Named}
use Rattle.td_schema.specs.declared.scope.Meant.{Meant}
pub use Rattle.td_schema.specs.declared.scope.Meant.TheVariants.{Local as local, Relvar as relvar}
use Rattle.td_schema.specs.declared.scope.Scope as scoped
use Rattle.td_schema.specs.declared.scope.Scope.TheVariants.{Nothing, Relvars, Within', Given'}
use Rattle.td_schema.specs.Kinds.{Name, kind_of}
use Rattle.td_schema.specs.Schemas.{SchemaData, relvar_named, same_text}

abbrev pub Scope : Type 0
Scope = Name → Option Meant

abbrev pub nothing : Scope
nothing x = None

abbrev pub as_relvar : Option (ℕ × Named Header) → Option Meant
as_relvar None = None
as_relvar (Some r) = Some (relvar r.0 r.1.value)

abbrev pub relvars_of : SchemaData → Scope
relvars_of cat x = as_relvar (relvar_named cat x)

abbrev pub or_outer : Option Ty → Option Meant → Option Meant
or_outer (Some ty) outer = Some (local (kind_of ty))
or_outer None outer = outer

-- within a tuple of the heading
abbrev pub within_tuple : Header → Scope → Scope
within_tuple h outer x = or_outer (by_name.get h x) (outer x)

-- with one more name of WITH, and with several: a later one hides an earlier one
abbrev pub with_name : Name → TypeKind → Scope → Scope
with_name n k outer x = if same_text n x then Some (local k) else outer x

abbrev pub with_names : List (Named TypeKind) → Scope → Scope
with_names [] outer = outer
with_names (n ∷ ns) outer = with_names ns (with_name n.name n.value outer)

-- what a scope of the program is seen as
abbrev pub visible : scoped.Scope → Scope
visible Nothing = nothing
visible (Relvars cat) = relvars_of cat.now
visible (Within' h p outer) = within_tuple h.now (visible outer)
visible (Given' ns p outer) = with_names ns.now (visible outer)
