-- Copies of what some base relvars have, while changes are taken back in them.
use Rattle.std.specs.Prelude.{◌≡◌, ◌==◌, ◌≤◌, ◌+◌, ℕ, Bool, true, false, List, [], drop, length, take, Some, Result, Ok, Err, slice_get}
use Rattle.std.specs.List.{Contains, list_any}
use Rattle.td_values.specs.Data.{Datum}
use Rattle.td_values.specs.Rows.{RowsData}
use Rattle.td_relations.specs.Deltas.{DeltaData}
use Rattle.td_syntax.specs.declared.tree.Expr.{Expr}
use Rattle.td_grammar.specs.Grammar.{IsQuery}
use Rattle.td_typed_trees.specs.declared.expression.Expression.{Expression}
use Rattle.td_headings.specs.Catalogues.{CatalogueData}
use Rattle.td_headings.specs.Expressions.{IsExpression, no_tuple}
use Rattle.td_headings.specs.Reached.{is_base}
use Rattle.td_assign.specs.declared.ran.Ran.{Ran}
use Rattle.td_stamps.specs.declared.entry.Entry.{Entry}
use Rattle.td_stamps.specs.Entries.{stamp_of}
use Rattle.td_stamps.specs.declared.entry.Stamp.{Stamp}
use Rattle.td_stamps.specs.History.{History}
use Rattle.td_semantics.specs.Databases.{DatabaseData, stored_relvars}
use Rattle.td_relvars.specs.Evaluated.{EvaluatesTo}
use Rattle.td_relvars.specs.Parts.{AreCopies, Copies}
use Rattle.td_replica.specs.Histories.{IsHistory}
use Rattle.td_semantics.specs.declared.answer.Answer.{Answer}
use Rattle.td_replica.specs.declared.refusal.AskError.{AskError}
use Rattle.td_replica.specs.declared.refusal.AskError.TheVariants as ask_error
use Rattle.td_replica.specs.declared.refusal.PastError.{PastError}
use Rattle.td_replica.specs.declared.refusal.PastError.TheVariants as past_error
use Rattle.td_replay.specs.Noted.{Notes}
use Rattle.td_replay.specs.ForProofs.Asked.{IsIllTyped}
use Rattle.td_replay.specs.ForProofs.Told.{Log, Outcomes}

-- each of these base relvars has a copy
abbrev pub HaveCopies : CatalogueData → List ℕ → Copies → Type 0
HaveCopies c places copies = (n : ℕ) → Contains places n → is_base (slice_get c.origins n) ≡ true → (r : RowsData) × Contains copies (n, r)

-- the changes have one of what is at the place
abbrev pub is_changed : List (ℕ × DeltaData) → ℕ → Bool
is_changed ds n = list_any (λ (p : ℕ × DeltaData). p.0 == n) ds

-- one of the statements changed it
abbrev pub is_changed_in : Log → ℕ → Bool
is_changed_in log n = list_any (λ (p : Stamp × Ran). is_changed p.1.delta.items n) log

-- the copies of these relvars are of what they had at the end of the first n entries; what the others did not change is
-- as it is now
pub record AreAt (o now : DatabaseData) (es : List Entry) (log : Log) (places : List ℕ) (n : ℕ) (copies : Copies) : Type 0 where
  pub state : DatabaseData
  pub history : History Notes o (take n es) (take n log) state
  pub copied : AreCopies copies state.stored
  pub all : HaveCopies o.catalogue places copies
  pub others : (m : ℕ) → is_changed_in (drop n log) m ≡ false → stored_relvars now.stored m ≡ stored_relvars state.stored m

-- the text is this query
pub record Types (c : CatalogueData) (text : List ℕ) (x : Expression) : Type 0 where
  pub query : Expr
  pub reads : IsQuery text query
  pub types : IsExpression c no_tuple query x

-- the query, or why there is none
abbrev pub TellsQuery : CatalogueData → List ℕ → Result Expression AskError → Type 0
TellsQuery c text (Ok x) = Types c text x
TellsQuery c text (Err ask_error.Broken) = ⊥
TellsQuery c text (Err ask_error.Syntax) = (e : Expr) → IsQuery text e → ⊥
TellsQuery c text (Err ask_error.IllTyped) = IsIllTyped c text
TellsQuery c text (Err ask_error.OutOfMemory) = length text ≤ 8192

-- what it means over what the first entries leave
pub record SaysAfter (script : List ℕ) (es : List Entry) (n : ℕ) (x : Expression) (r : Answer Datum) : Type 0 where
  pub state : DatabaseData
  pub outcomes : Outcomes
  pub history : IsHistory script (take n es) outcomes state
  pub says : EvaluatesTo state.catalogue (stored_relvars state.stored) x r

-- so many entries end with that of the stamp
pub record EndsWith (at : Stamp) (es : List Entry) (n : ℕ) : Type 0 where
  pub place : ℕ
  pub entry : Entry
  pub count : n ≡ place + 1
  pub there : slice_get es place ≡ Some entry
  pub stamp : stamp_of entry ≡ at

-- an entry of the stamp, by which the others are sought
abbrev pub entry_at : Stamp → Entry
entry_at s = record { site = s.site; seq = 0; clock = s.clock; dialect = 0; text = [] }

abbrev pub as_past : AskError → PastError
as_past ask_error.Broken = past_error.Broken
as_past ask_error.Syntax = past_error.Syntax
as_past ask_error.IllTyped = past_error.IllTyped
as_past ask_error.OutOfMemory = past_error.OutOfMemory
