-- Copies of what some relvars have, and what is stored when they are put back.
use Rattle.std.specs.Prelude.{◌≡◌, ◌==◌, ℕ, List, [], ◌∷◌, map, Option, None, Some, option_map, Result, Ok, slice_get, refl, if◌then◌else◌}
use Rattle.std.specs.List.{Contains, filter_map, find}
use Rattle.std.specs.Option.{option_flatten}
use Rattle.std.specs.Coded.{Coded, code_by, coded×, coded_list, coded_ℕ}
use Rattle.td_values.specs.Rows.{RowsData, rows_code}
use Rattle.td_relations.specs.Deltas.{DeltaData, inverse_of}
use Rattle.td_schema.specs.Schemas.{SchemaData, relvar_named}
use Rattle.td_algebra.specs.declared.errors.Stop.{Stop}
use Rattle.td_headings.specs.Catalogues.{CatalogueData}
use Rattle.td_meaning.specs.Mean.{Relvars}
use Rattle.td_semantics.specs.Databases.{Stored, with_relation, stored_relvars}
use Rattle.td_relvars.specs.Changed.{changed}
use Rattle.td_relvars.specs.Keys.{key_at}

-- what some relvars have, or had, by their places
abbrev pub Copies : Type 0
Copies = List (ℕ × RowsData)

-- what is copied of a place; where nothing is stored, nothing is
abbrev pub copy_of : ℕ → Option RowsData → Option (ℕ × RowsData)
copy_of n None = None
copy_of n (Some r) = Some (n, r)

-- the relvars at these places that have something, with what they have
abbrev pub part_of : Stored → List ℕ → Copies
part_of stored ns = filter_map (λ n. copy_of n (option_flatten (slice_get stored n))) ns

-- the places of the relvars of these names; a name of none is passed over
abbrev pub place_named : SchemaData → List ℕ → Option ℕ
place_named s x = option_map (λ r. r.0) (relvar_named s x)

abbrev pub numbers_named : SchemaData → List (List ℕ) → List ℕ
numbers_named s xs = filter_map (place_named s) xs

-- what is copied of the relvar at the place: the first copy
abbrev pub copy_at : Copies → ℕ → Option RowsData
copy_at ps n = option_map (λ (p : ℕ × RowsData). p.1) (find (λ (p : ℕ × RowsData). p.0 == n) ps)

-- what relvars have, some of them by their copies
abbrev pub or_there : Option RowsData → Result RowsData Stop → Result RowsData Stop
or_there (Some r) there = Ok r
or_there None there = there

abbrev pub with_copies : Copies → Relvars → Relvars
with_copies ps there n = or_there (copy_at ps n) (there n)

-- the copies with the keys by which their tuples are kept
pub record PartData : Type 0 where
  pub copies : Copies
  pub keys : List (List (List ℕ))

-- by which a proof tells parts apart
abbrev pub part_code : Coded PartData
part_code = code_by (Copies × List (List (List ℕ))) (coded× (coded_list (coded× coded_ℕ rows_code)) (coded_list (coded_list (coded_list coded_ℕ)))) (λ p. (p.copies, p.keys)) (λ q. record { copies = q.0; keys = q.1 }) (λ _. refl)

-- they are the first keys of their relvars
abbrev pub AreTheirs : CatalogueData → PartData → Type 0
AreTheirs c p = p.keys ≡ map (λ (q : ℕ × RowsData). key_at c q.0) p.copies

-- the copies, each one of the relvar at the place with the change
abbrev pub changed_if : ℕ → DeltaData → ℕ × RowsData → ℕ × RowsData
changed_if n x p = (p.0, (if p.0 == n then changed p.1 x else p.1))

abbrev pub change_part : ℕ → DeltaData → Copies → Copies
change_part n x ps = map (changed_if n x) ps

-- the copies with each change taken back
abbrev pub undone_part : List (ℕ × DeltaData) → Copies → Copies
undone_part [] ps = ps
undone_part (d ∷ ds) ps = undone_part ds (change_part d.0 (inverse_of d.1) ps)

-- the change is of the heading of each copy of its relvar
abbrev pub FitsPart : Copies → ℕ × DeltaData → Type 0
FitsPart ps d = (r : RowsData) → Contains ps (d.0, r) → d.1.inserted.heading ≡ r.heading

abbrev pub FitPart : Copies → List (ℕ × DeltaData) → Type 0
FitPart ps ds = (d : ℕ × DeltaData) → Contains ds d → FitsPart ps d

-- with what each of them had in place of what it has
abbrev pub put_part : Copies → Stored → Stored
put_part [] stored = stored
put_part (p ∷ ps) stored = put_part ps (with_relation p.0 p.1 stored)

-- each copy is of what is stored
abbrev pub AreCopies : Copies → Stored → Type 0
AreCopies ps stored = (p : ℕ × RowsData) → Contains ps p → stored_relvars stored p.0 ≡ Ok p.1
