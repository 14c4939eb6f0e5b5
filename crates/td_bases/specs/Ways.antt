-- What it takes to take a change back without memory.
use Rattle.std.specs.Prelude.{◌≡◌, ◌≤◌, ◌+◌, ℕ, List, length, refl}
use Rattle.std.specs.Coded.{Coded, code_by, coded×, coded_list, coded_ℕ}
use Rattle.td_values.specs.Data.{Attrs}
use Rattle.td_values.specs.Proving.Code.{attrs_code}
use Rattle.td_values.specs.Rows.{RowsData}
use Rattle.td_relations.specs.Deltas.{DeltaData}

-- tuples to be put in, and room for so many
pub record WayBackData : Type 0 where
  pub deleted : List Attrs
  pub room : ℕ

-- by which a proof tells ways apart
abbrev pub way_back_code : Coded WayBackData
way_back_code = code_by (List Attrs × ℕ) (coded× (coded_list attrs_code) coded_ℕ) (λ w. (w.deleted, w.room)) (λ p. record { deleted = p.0; room = p.1 }) (λ _. refl)

-- it is for this change of the relation r
pub record LeadsBack (r : RowsData) (delta : DeltaData) (w : WayBackData) : Type 0 where
  pub deleted : w.deleted ≡ delta.deleted.tuples
  pub room : length r.tuples + length delta.deleted.tuples ≤ w.room
