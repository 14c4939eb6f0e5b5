-- Ways back from changes of the relvars of a database.
use Rattle.std.proofs.Common.{◌≡◌, ℕ, IfOk, Result, Ok, Err, subst}
use Rattle.td_values.specs.Rows.{RowsData}
use Rattle.td_relations.specs.Deltas.{DeltaData}
use Rattle.td_bases.specs.Ways.{LeadsBack, WayBackData}
use Rattle.td_headings.specs.Catalogues.{CatalogueData}
use Rattle.td_semantics.specs.Databases.{DatabaseData, Stored, stored_relvars}
use Rattle.td_relvars.specs.Ways.{LeadsBackAt, LeadsBackFrom}

-- the way that is made of what a relvar has
pub leads_from :
    {E : Type 0} (s : Stored) (n : ℕ) (x : DeltaData) (r : RowsData) → stored_relvars s n ≡ Ok r → (a : Result WayBackData E) → IfOk a (LeadsBack r x)
    → IfOk a (LeadsBackFrom s n x)
leads_from s n x r has (Ok w) way = (r, has, way)
leads_from s n x r has (Err e) way = tt

pub leads_at :
    {E : Type 0} (d : DatabaseData) (k : CatalogueData) (s : Stored) (n : ℕ) (x : DeltaData) → record { catalogue = k; stored = s } ≡ d → (a : Result WayBackData E) → IfOk a (LeadsBackFrom s n x)
    → IfOk a (LeadsBackAt d n x)
leads_at d k s n x seen a = subst (λ (e : DatabaseData). IfOk a (LeadsBackFrom s n x) → IfOk a (LeadsBackAt e n x)) seen (λ way. way)
