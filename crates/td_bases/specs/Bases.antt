-- What a base relvar has: a relation, and the key by which its tuples are always kept.
use Rattle.std.specs.Prelude.{ℕ, List, refl}
use Rattle.std.specs.Coded.{Coded, code_by, coded×, coded_list, coded_ℕ}
use Rattle.td_values.specs.Rows.{RowsData, rows_code}
use Rattle.td_relations.specs.Deltas.{DeltaData, applied}
use Rattle.td_relations.specs.Sets.{body, relation_of}

pub record BaseData : Type 0 where
  pub rows : RowsData
  pub key : List (List ℕ)

-- by which a proof tells them apart
abbrev pub base_code : Coded BaseData
base_code = code_by (RowsData × List (List ℕ)) (coded× rows_code (coded_list (coded_list coded_ℕ))) (λ b. (b.rows, b.key)) (λ p. record { rows = p.0; key = p.1 }) (λ _. refl)

-- the relation after the change
abbrev pub changed : RowsData → DeltaData → RowsData
changed r d = relation_of r.heading (applied (body r) d)

-- by the same key
abbrev pub changed_base : BaseData → DeltaData → BaseData
changed_base b d = record b { rows = changed b.rows d }
