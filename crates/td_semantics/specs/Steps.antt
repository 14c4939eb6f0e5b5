-- The step of one statement: its outcome, and the database after it.
use Rattle.std.specs.Prelude.{◌≡◌, ℕ, List, Option, None, Some, Result, Ok, Err}
use Rattle.td_values.specs.declared.raises.Raise.{Raise}
use Rattle.td_syntax.specs.declared.script.Statement.{Statement}
use Rattle.td_grammar.specs.Statements as grammar
use Rattle.td_headings.specs.Catalogues.{CatalogueData}
use Rattle.td_headings.specs.Statements as typed
use Rattle.td_headings.specs.declared.defined.Test.{Test}
use Rattle.td_headings.specs.declared.statement.TypedStatement.{TypedStatement}
use Rattle.td_algebra.specs.declared.errors.Stop.{Stop}
use Rattle.td_semantics.specs.Raises.{stop_of}
use Rattle.td_semantics.specs.Reports.{title}
use Rattle.td_semantics.specs.Tests.{failing}
use Rattle.td_semantics.specs.declared.broken.BrokenTest.TheVariants as broken
use Rattle.td_semantics.specs.Databases.{DatabaseData, stored_relvars}
use Rattle.td_semantics.specs.Given.{Given, with_given}
use Rattle.td_semantics.specs.Sources.{given_over}
use Rattle.td_semantics.specs.declared.outcome.Outcome.{Outcome}
use Rattle.td_semantics.specs.declared.outcome.Outcome.TheVariants.{Done, Unread, Raised, BreaksKey, BreaksConstraint}

-- in this dialect the text is the statement, of this typed form
pub record IsRead (c : CatalogueData) (dialect : ℕ) (text : List ℕ) (x : TypedStatement) : Type 0 where
  pub statement : Statement
  pub reads : grammar.IsStatementIn dialect text statement
  pub types : typed.TypesStatement c statement x

abbrev pub IsUnreadText : CatalogueData → ℕ → List ℕ → Type 0
IsUnreadText c dialect text = (x : TypedStatement) → IsRead c dialect text x → ⊥

-- the database with what its targets are given
abbrev pub with_all : DatabaseData → Given → DatabaseData
with_all d g = record { catalogue = d.catalogue; stored = with_given g d.stored }

-- what the statement gives to its targets over these relvars
abbrev pub given_by : DatabaseData → TypedStatement → Result Given Stop
given_by d x = given_over d.catalogue (stored_relvars d.stored) x

-- the first test that is false or raises with all targets replaced
abbrev pub failing_with : DatabaseData → Given → Option (Test × Option Stop)
failing_with d g = failing d.catalogue (stored_relvars (with_given g d.stored)) d.catalogue.tests

-- a test that is false breaks its key or its constraint; one that raises gives its error
abbrev pub TellsTest : CatalogueData → Test → Option Stop → Outcome → Type 0
TellsTest c t None (BreaksKey n) = title c t ≡ broken.Key n
TellsTest c t None (BreaksConstraint n) = title c t ≡ broken.Constraint n
TellsTest c t (Some e) (Raised r) = e ≡ stop_of r
TellsTest c t o outcome = ⊥

-- A text that in its dialect has no reading or no typing is unread. Else its condition, if it has one, decides which
-- assignments it makes, and their sources are evaluated; where one of these raises, that error stands. Else, with all
-- targets replaced, the first test that is false or raises decides. Only where none does, the database changes.
pub data Steps (d : DatabaseData) (dialect : ℕ) (text : List ℕ) : Outcome → DatabaseData → Type 0 where
  unread :
      IsUnreadText d.catalogue dialect text
      → Steps d dialect text Unread d
  raised : {x : TypedStatement} {e : Raise}
      → IsRead d.catalogue dialect text x
      → given_by d x ≡ Err (stop_of e)
      → Steps d dialect text (Raised e) d
  refused : {x : TypedStatement} {g : Given} {t : Test} {o : Option Stop} {outcome : Outcome}
      → IsRead d.catalogue dialect text x
      → given_by d x ≡ Ok g
      → failing_with d g ≡ Some (t, o)
      → TellsTest d.catalogue t o outcome
      → Steps d dialect text outcome d
  done : {x : TypedStatement} {g : Given}
      → IsRead d.catalogue dialect text x
      → given_by d x ≡ Ok g
      → failing_with d g ≡ None
      → Steps d dialect text Done (with_all d g)
