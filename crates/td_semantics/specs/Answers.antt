-- What a query is answered, and what a relvar has, told by its name.
use Rattle.std.specs.Prelude.{◌≡◌, ℕ, List, None, Some, Result, Ok, Err}
use Rattle.td_values.specs.Headings.{Header}
use Rattle.td_values.specs.Data.{Datum}
use Rattle.td_values.specs.Rows.{RowsData}
use Rattle.td_syntax.specs.declared.tree.Named.{Named}
use Rattle.td_algebra.specs.declared.errors.Stop.{Stop}
use Rattle.td_schema.specs.Schemas.{relvar_named}
use Rattle.td_semantics.specs.Raises.{stop_of}
use Rattle.td_semantics.specs.Trees.{all_relvars}
use Rattle.td_semantics.specs.Databases.{DatabaseData, stored_relvars}
use Rattle.td_semantics.specs.declared.answer.Answer.{Answer}
use Rattle.td_semantics.specs.declared.answer.Answer.TheVariants.{Value, Raised}
use Rattle.td_semantics.specs.declared.error.RelvarError.{RelvarError}
use Rattle.td_semantics.specs.declared.error.RelvarError.TheVariants.{Unknown, OutOfMemory}

-- the answer of a query says what is meant
abbrev pub SaysValue : Answer Datum → Result Datum Stop → Type 0
SaysValue (Value v) m = m ≡ Ok v
SaysValue (Raised e) m = m ≡ Err (stop_of e)

-- the answer of a relvar says what is meant
abbrev pub SaysRelation : Answer RowsData → Result RowsData Stop → Type 0
SaysRelation (Value r) m = m ≡ Ok r
SaysRelation (Raised e) m = m ≡ Err (stop_of e)

-- its relation, or what evaluating it raises; a name that is no relvar's is unknown
abbrev pub TellsRelvar : DatabaseData → List ℕ → Result (Answer RowsData) RelvarError → Type 0
TellsRelvar d x (Ok a) = (n : ℕ) × (v : Named Header) × (relvar_named d.catalogue.schema x ≡ Some (n, v)) × SaysRelation a (all_relvars d.catalogue (stored_relvars d.stored) n)
TellsRelvar d x (Err Unknown) = relvar_named d.catalogue.schema x ≡ None
TellsRelvar d x (Err OutOfMemory) = Unit {0}
