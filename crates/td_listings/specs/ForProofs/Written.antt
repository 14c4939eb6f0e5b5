-- A writer of records between two records, and what is made of an answer.
use Rattle.std.specs.Prelude.{◌≡◌, ℕ, false, List, Some, Result, Ok, Err}
use Rattle.csv.specs.Writing.{default_writer, fields_written, has_written, writer_setup}
use Rattle.csv.specs.declared.writer.Writer.{Writer}
use Rattle.td_values.specs.Headings.{Header}
use Rattle.td_values.specs.Rows.{RowsData}
use Rattle.td_syntax.specs.declared.tree.Named.{Named}
use Rattle.td_schema.specs.Schemas.{relvar_named}
use Rattle.td_headings.specs.Catalogues.{CatalogueData}
use Rattle.td_semantics.specs.Raises.{stop_of}
use Rattle.td_semantics.specs.declared.answer.Answer.{Answer}
use Rattle.td_listings.specs.Tables.{table_of}
use Rattle.td_listings.specs.declared.error.TableError.{TableError}
use Rattle.td_listings.specs.declared.error.TableError.TheVariants.{Raised, OutOfMemory}
use Rattle.td_listings.specs.ForProofs.Asked.{meant}

-- nothing of the next record is written
pub record IsReady {W : Type 0} (w : Writer W) : Type 0 where
  pub setup : writer_setup w ≡ default_writer
  pub fields : fields_written w ≡ 0
  pub clean : has_written w ≡ false

-- the relvar of this name stands at this place, with this heading
pub record IsFound (c : CatalogueData) (x : List ℕ) (n : ℕ) (name : List ℕ) (h : Header) : Type 0 where
  pub named : relvar_named c.schema x ≡ Some (n, record { name = name; value = h })
  pub same : name ≡ x

abbrev pub Renders : Answer RowsData → Result (List ℕ) TableError → Type 0
Renders a (Ok text) = (r : RowsData) × (meant a ≡ Ok r) × (text ≡ table_of r)
Renders a (Err (Raised e)) = meant a ≡ Err (stop_of e)
Renders a (Err OutOfMemory) = Unit {0}
Renders a (Err e) = ⊥
