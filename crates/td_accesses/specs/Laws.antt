-- The law of insertions.
use Rattle.std.specs.Prelude.{◌⊎◌, ℕ, List}
use Rattle.td_relations.specs.Deltas.{DeltaData}
use Rattle.td_semantics.specs.Databases.{DatabaseData, IsDatabase, IsLegal, stored_relvars}
use Rattle.td_semantics.specs.Differences.{AreDifferences}
use Rattle.td_semantics.specs.Steps.{Steps}
use Rattle.td_semantics.specs.declared.outcome.Outcome.{Outcome}
use Rattle.td_accesses.specs.Commuting.{InsertApart, InsertBeside}

-- a step from a database, and the differences that it makes
pub record Goes (d : DatabaseData) (k : ℕ) (a : List ℕ) (o : Outcome) (ds : List (ℕ × DeltaData)) (e : DatabaseData) : Type 0 where
  pub step : Steps d k a o e
  pub differences : AreDifferences (stored_relvars d.stored) (stored_relvars e.stored) ds

-- Two insertions that follow each other may be exchanged: each has the outcome and makes the differences that it had,
-- and they lead to the same database.
abbrev pub InsertionsCommute : Type 0
InsertionsCommute =
    (d e f : DatabaseData) (k l : ℕ) (a b : List ℕ) (o p : Outcome) (ds es : List (ℕ × DeltaData)) → IsDatabase d → IsLegal d → InsertApart d.catalogue k a l b ⊎ InsertBeside d.catalogue k a l b → Goes d k a o ds e → Goes e l b p es f
    → (g : DatabaseData) × Goes d l b p es g × Goes g k a o ds f
