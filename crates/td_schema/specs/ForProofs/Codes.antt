-- By which a proof tells schemas apart.
use Rattle.std.specs.Prelude.{List, refl}
use Rattle.std.specs.Coded.{Coded, code_by, coded×, coded_list, coded_ℕ}
use Rattle.td_values.specs.Headings.{Header, header_code}
use Rattle.td_syntax.specs.declared.tree.Named.{Named}
use Rattle.td_schema.specs.contracts.schema.Representation.{the_row}
use Rattle.td_schema.specs.declared.schema.Representation.{Representation}
use Rattle.td_schema.specs.Kinds.{Name}
use Rattle.td_schema.specs.Schemas.{SchemaData}

abbrev pub relvar_code : Coded (Named Header)
relvar_code =
    code_by (Name × Header) (coded× (coded_list coded_ℕ) header_code) (λ x. (x.name, x.value)) (λ p. record { name = p.0; value = p.1 }) (λ _. refl)

abbrev pub schema_code : Coded SchemaData
schema_code =
    code_by (List Representation × List (Named Header)) (coded× (coded_list the_row.coded) (coded_list relvar_code)) (λ s. (s.possreps, s.relvars)) (λ p. record { possreps = p.0; relvars = p.1 }) (λ _. refl)
