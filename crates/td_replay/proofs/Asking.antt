-- What a site is asked, from what its database is asked.
use Rattle.std.proofs.Common.{◌≡◌, ℕ, true, List, Result, Ok, Err}
use Rattle.td_headings.specs.Catalogues.{CatalogueData}
use Rattle.td_headings.specs.Definitions.{names_of_relvars}
use Rattle.td_headings.specs.Expressions.{IsExpression, no_tuple}
use Rattle.td_headings.proofs.NoTuple.{at_relvars}
use Rattle.td_typing.specs.Types.{IsIllTyped}
use Rattle.td_syntax.specs.declared.tree.Expr.{Expr}
use Rattle.td_typed_trees.specs.declared.expression.Expression.{Expression}
use Rattle.td_semantics.specs.Databases.{DatabaseData}
use Rattle.td_replica.specs.Calls.{Asks, TellsValue}
use Rattle.td_replay.specs.ForProofs.Asked.{Answers, TellsNamed}
use Rattle.td_replay.specs.ForProofs.Told.{Outcomes}
use Rattle.td_replica.specs.Seen.{Seen}
use Rattle.td_replica.specs.Histories.{IsHistory}
use Rattle.td_semantics.specs.declared.answer.Answer.{Answer}
use Rattle.td_replica.specs.declared.refusal.AskError.{AskError}
use Rattle.td_replica.specs.declared.refusal.AskError.TheVariants as ask_error
use Rattle.td_replica.specs.declared.refusal.ValueError.{ValueError}
use Rattle.td_replica.specs.declared.refusal.ValueError.TheVariants as value_error
use Rattle.td_replay.proofs.Telling.{history_catalogue}
use Rattle.td_values.specs.Data.{Datum}
use Rattle.td_values.specs.Rows.{RowsData}

pub never_typed : (c : CatalogueData) (a : Expr) → IsIllTyped c.schema (names_of_relvars c) a → (x : Expression) → IsExpression c no_tuple a x → ⊥
never_typed c a h x d = h x.tree x.kind (at_relvars c a x.tree x.kind d.types)

module _ (s : Seen) (os : Outcomes) (d : DatabaseData) (live : s.live ≡ true) (st : IsHistory s.script s.entries os d) where
  pub asks : (text : List ℕ) (r : Result (Answer Datum) AskError) → Answers d text r → Asks s text r
  asks text (Ok r) h = record { database = d; query = h.query; expression = h.expression; live = live; leaves = (os, st); reads = h.reads; types = h.types; says = h.says }
  asks text (Err ask_error.Broken) h = absurd h
  asks text (Err ask_error.Syntax) h = (live, h)
  asks text (Err ask_error.IllTyped) h = (live, record { catalogue = d.catalogue; query = h.query; defines = history_catalogue s.script s.entries os d st; reads = h.reads; refused = h.refused })
  asks text (Err ask_error.OutOfMemory) h = (live, h)

  pub tells : (x : List ℕ) (r : Result (Answer RowsData) ValueError) → TellsNamed d x r → TellsValue s x r
  tells x (Ok a) h = (live, d, (os, st), h)
  tells x (Err value_error.Broken) h = absurd h
  tells x (Err value_error.Unknown) h = (live, d, (os, st), h)
  tells x (Err value_error.OutOfMemory) h = live
