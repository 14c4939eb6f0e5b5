-- Changes of a relation: which tuples are put in, and which are taken out.
use Rattle.std.specs.Prelude.{◌≡◌, refl}
use Rattle.std.specs.Coded.{Coded, code_by, coded×}
use Rattle.std.specs.FinSet as set
use Rattle.td_values.specs.Data.{Attrs}
use Rattle.td_values.specs.Rows.{RowsData, rows_code}
use Rattle.td_relations.specs.Sets.{TupleSet, body, Has, IsRelation}

pub record DeltaData : Type 0 where
  pub inserted : RowsData
  pub deleted : RowsData

-- the tuples have one heading, and none is both put in and taken out
pub record IsDelta (d : DeltaData) : Type 0 where
  pub heading : d.inserted.heading ≡ d.deleted.heading
  pub apart : (t : Attrs) → Has d.inserted t → ¬ (Has d.deleted t)

-- by which a proof tells changes apart
abbrev pub delta_code : Coded DeltaData
delta_code = code_by (RowsData × RowsData) (coded× rows_code rows_code) (λ d. (d.inserted, d.deleted)) (λ p. record { inserted = p.0; deleted = p.1 }) (λ _. refl)

-- the set without the deleted tuples, with the inserted ones
abbrev pub applied : TupleSet → DeltaData → TupleSet
applied s d = set.union (set.difference s (body d.deleted)) (body d.inserted)

-- n is the relation r after the change
abbrev pub IsApplied : RowsData → DeltaData → RowsData → Type 0
IsApplied r d n = IsRelation r.heading (applied (body r) d) n

-- n is the relation r without the tuples that are taken out, with those that are put in
abbrev pub IsExchanged : RowsData → RowsData → RowsData → RowsData → Type 0
IsExchanged r deleted inserted n = IsApplied r (record { inserted = inserted; deleted = deleted }) n

-- what is put in is taken out, and the other way round
abbrev pub inverse_of : DeltaData → DeltaData
inverse_of d = record { inserted = d.deleted; deleted = d.inserted }

-- what the new relation has and the old one lacks is inserted, what the old one has and the new one lacks is deleted
pub record IsDifference (old new : RowsData) (d : DeltaData) : Type 0 where
  pub inserted : IsRelation old.heading (set.difference (body new) (body old)) d.inserted
  pub deleted : IsRelation old.heading (set.difference (body old) (body new)) d.deleted
