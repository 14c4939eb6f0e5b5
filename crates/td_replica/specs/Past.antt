-- What a site answers to a query at a past place: just after the entry of a stamp. Of the causes of refusal that stand,
-- the first in the order of the call's errors is answered, or want of memory in place of one that was not reached yet.
use Rattle.std.specs.Prelude.{◌≡◌, ◌≤◌, ℕ, true, false, List, [], ◌∷◌, ◌++◌, length, Result, Ok, Err}
use Rattle.std.specs.List.{Contains}
use Rattle.td_syntax.specs.declared.tree.Expr.{Expr}
use Rattle.td_grammar.specs.Grammar.{IsQuery, query_bytes}
use Rattle.td_headings.specs.Catalogues.{CatalogueData}
use Rattle.td_headings.specs.Expressions.{IsExpression, no_tuple}
use Rattle.td_typed_trees.specs.declared.expression.Expression.{Expression}
use Rattle.td_stamps.specs.Entries.{stamp_of}
use Rattle.td_stamps.specs.declared.entry.Entry.{Entry}
use Rattle.td_stamps.specs.declared.entry.Stamp.{Stamp}
use Rattle.td_replica.specs.Calls.{AsksQuery, IsIllTypedQuery}
use Rattle.td_semantics.specs.Scripts.{IsScriptOf}
use Rattle.td_replica.specs.Seen.{Seen, with_entries}
use Rattle.td_semantics.specs.declared.answer.Answer.{Answer}
use Rattle.td_replica.specs.declared.refusal.PastError.{PastError}
use Rattle.td_replica.specs.declared.refusal.PastError.TheVariants as past_error
use Rattle.td_values.specs.Data.{Datum}

-- a front of the entries, whose last one has the stamp
pub record EndsAt (at : Stamp) (es front : List Entry) : Type 0 where
  pub before : List Entry
  pub last : Entry
  pub behind : List Entry
  pub front_is : front ≡ before ++ last ∷ []
  pub all : es ≡ front ++ behind
  pub stamp : stamp_of last ≡ at

-- the text is a well-typed query of the script
pub record IsQueryOf (script text : List ℕ) : Type 0 where
  pub catalogue : CatalogueData
  pub query : Expr
  pub expression : Expression
  pub defines : IsScriptOf script catalogue
  pub reads : IsQuery text query
  pub types : IsExpression catalogue no_tuple query expression

-- no entry has the stamp
abbrev pub HasNoPlace : Stamp → List Entry → Type 0
HasNoPlace at es = (e : Entry) → Contains es e → stamp_of e ≡ at → ⊥

-- what the query is answered where the site holds the entries up to that of the stamp, and no other
abbrev pub AsksAt : Seen → List ℕ → Stamp → Result (Answer Datum) PastError → Type 0
AsksAt s text at (Ok r) = (front : List Entry) × EndsAt at s.entries front × AsksQuery (with_entries s front) text r
AsksAt s text at (Err past_error.Broken) = s.live ≡ false
AsksAt s text at (Err past_error.Syntax) = (s.live ≡ true) × ((e : Expr) → IsQuery text e → ⊥)
AsksAt s text at (Err past_error.IllTyped) = (s.live ≡ true) × IsIllTypedQuery s.script text
AsksAt s text at (Err past_error.NoPlace) = (s.live ≡ true) × IsQueryOf s.script text × HasNoPlace at s.entries
AsksAt s text at (Err past_error.OutOfMemory) = (s.live ≡ true) × (length text ≤ query_bytes)
