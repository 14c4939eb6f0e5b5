-- What a script has defined, as far as an expression can name it: relvars, and types with their possreps, each in order
-- of definition.
use Rattle.std.specs.Prelude.{ℕ, ◌+◌, Bool, List, [], ◌∷◌, ◌++◌, Option, Some, None, if◌then◌else◌, nat_eq, codes}
use Rattle.std.specs.List.{starts_with}
use Rattle.std.specs.Ordering.{eq_by_cmp}
use Rattle.td_values.specs.Headings.{Header}
use Rattle.td_values.specs.Order.{text_cmp}
use Rattle.td_values.specs.declared.TypeKind.{TypeKind}
use Rattle.td_syntax.specs.declared.tree.Named.{Named}
use Rattle.td_schema.specs.declared.schema.Representation.{Representation}
use Rattle.td_schema.specs.Kinds.{Name}

pub record SchemaData : Type 0 where
  pub possreps : List Representation
  pub relvars : List (Named Header)

abbrev pub same_text : Name → Name → Bool
same_text = eq_by_cmp text_cmp

-- the name begins with THE_
abbrev pub begins_with_the : Name → Bool
begins_with_the x = starts_with nat_eq x (codes "THE_")

-- the first that passes the test, with its place, counted from n
abbrev pub first_from : {A : Type 0} → ℕ → (A → Bool) → List A → Option (ℕ × A)
first_from n test [] = None
first_from n test (x ∷ xs) = if test x then Some (n, x) else first_from (n + 1) test xs

abbrev pub first_with_place : {A : Type 0} → (A → Bool) → List A → Option (ℕ × A)
first_with_place test xs = first_from 0 test xs

abbrev pub is_named : {A : Type 0} → Name → Named A → Bool
is_named x a = same_text x a.name

abbrev pub has_possrep : Name → Representation → Bool
has_possrep x r = same_text x r.possrep.name

abbrev pub has_type_name : Name → Representation → Bool
has_type_name x r = same_text x r.possrep.ty

-- the relvar of this name
abbrev pub relvar_named : SchemaData → Name → Option (ℕ × Named Header)
relvar_named cat x = first_with_place (is_named x) cat.relvars

-- the possrep of this name, and that of the type of this name
abbrev pub possrep_named : SchemaData → Name → Option (ℕ × Representation)
possrep_named cat x = first_with_place (has_possrep x) cat.possreps

abbrev pub type_named : SchemaData → Name → Option (ℕ × Representation)
type_named cat x = first_with_place (has_type_name x) cat.possreps

-- the component of this name, among those of a possrep
abbrev pub component_named : List (Named TypeKind) → Name → Option (ℕ × Named TypeKind)
component_named cs x = first_with_place (is_named x) cs

-- where nothing is defined
abbrev pub empty_schema : SchemaData
empty_schema = record { possreps = []; relvars = [] }

-- with one more relvar, and with one more type
abbrev pub schema_with_relvar : SchemaData → Name → Header → SchemaData
schema_with_relvar cat n h = record cat { relvars = cat.relvars ++ record { name = n; value = h } ∷ [] }

abbrev pub schema_with_type : SchemaData → Representation → SchemaData
schema_with_type cat r = record cat { possreps = cat.possreps ++ r ∷ [] }
