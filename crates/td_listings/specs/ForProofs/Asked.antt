-- What a site that is open is asked, relvar by relvar.
use Rattle.std.specs.Prelude.{◌≡◌, ◌++◌, ℕ, true, List, [], Some, slice_get, unwrap_or, Result, Ok, Err}
use Rattle.td_values.specs.Headings.{Header}
use Rattle.td_values.specs.Rows.{RowsData}
use Rattle.td_syntax.specs.declared.tree.Named.{Named}
use Rattle.td_algebra.specs.declared.errors.Stop.{Stop}
use Rattle.td_schema.specs.Schemas.{relvar_named}
use Rattle.td_headings.specs.Catalogues.{CatalogueData}
use Rattle.td_semantics.specs.Raises.{stop_of}
use Rattle.td_semantics.specs.Databases.{DatabaseData}
use Rattle.td_semantics.specs.Scripts.{IsScriptOf}
use Rattle.td_semantics.specs.declared.answer.Answer.{Answer}
use Rattle.td_semantics.specs.declared.answer.Answer.TheVariants.{Value, Raised}
use Rattle.td_semantics.specs.declared.outcome.Outcome.{Outcome}
use Rattle.td_replica.specs.Seen.{Seen, Leaves}
use Rattle.td_listings.specs.Texts.{reason, relvars_lines, relvar_value}

-- the words of the reason, if there is one
abbrev pub reason_words : Outcome → List ℕ
reason_words o = unwrap_or (reason o) []

-- the site is open, and its script is that of the catalogue
pub record IsOpenOn (s : Seen) (c : CatalogueData) : Type 0 where
  pub live : s.live ≡ true
  pub script : IsScriptOf s.script c

-- the relvar of this name stands at this place
abbrev pub StandsAt : CatalogueData → List ℕ → ℕ → Type 0
StandsAt c x n = (v : Named Header) × (relvar_named c.schema x ≡ Some (n, v))

-- the relvar at this place has this name, and no other one has it
pub record IsRelvarAt (c : CatalogueData) (x : List ℕ) (n : ℕ) : Type 0 where
  pub relvar : Named Header
  pub there : slice_get c.schema.relvars n ≡ Some relvar
  pub name : relvar.name ≡ x
  pub named : relvar_named c.schema x ≡ Some (n, relvar)

-- what an answer says
abbrev pub meant : Answer RowsData → Result RowsData Stop
meant (Value r) = Ok r
meant (Raised e) = Err (stop_of e)

-- it is what the relvar at the place has after the history
abbrev pub IsValueAt : Seen → ℕ → Answer RowsData → Type 0
IsValueAt s n a = (d : DatabaseData) → Leaves s d → relvar_value d n ≡ meant a

-- it was told after the history
abbrev pub WasToldAt : Seen → ℕ → Answer RowsData → Type 0
WasToldAt s n a = (d : DatabaseData) × Leaves s d × (relvar_value d n ≡ meant a)

-- these are the lines of the relvars after the history
abbrev pub AreRelvars : Seen → List ℕ → List ℕ → Type 0
AreRelvars s old new = (d : DatabaseData) → Leaves s d → new ≡ old ++ relvars_lines d
