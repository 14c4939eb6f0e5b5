-- The history of a set of entries: running them once, in stamp order, from what the script opens.
use Rattle.std.specs.Prelude.{List, ℕ, None}
use Rattle.td_stamps.specs.declared.entry.Entry.{Entry}
use Rattle.td_stamps.specs.declared.entry.Stamp.{Stamp}
use Rattle.td_stamps.specs.History.{History}
use Rattle.td_semantics.specs.Databases.{DatabaseData}
use Rattle.td_semantics.specs.Scripts.{OpensOn}
use Rattle.td_semantics.specs.Steps.{Steps}
use Rattle.td_semantics.specs.declared.outcome.Outcome.{Outcome}

-- an entry's step is that of its text, in its dialect
abbrev pub StepsEntry : DatabaseData → Entry → Outcome → DatabaseData → Type 0
StepsEntry d e o after = Steps d e.dialect e.text o after

-- these outcomes, with their stamps, and this database after all
pub record IsHistory (script : List ℕ) (es : List Entry) (os : List (Stamp × Outcome)) (d : DatabaseData) : Type 0 where
  pub opening : DatabaseData
  pub opens : OpensOn script None opening
  pub runs : History StepsEntry opening es os d
