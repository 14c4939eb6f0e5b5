-- What is read of a statement's text before it is run.
use Rattle.std.specs.Prelude.{ℕ, List, MatchOption}
use Rattle.td_headings.specs.Catalogues.{CatalogueData}
use Rattle.td_headings.specs.Reached.{AreThose}
use Rattle.td_semantics.specs.Footprints.{IsInFootprint, IsTargetOfText}
use Rattle.td_semantics.specs.Steps.{IsRead, IsUnreadText}
use Rattle.td_assign.specs.declared.reading.ReadText.{ReadText}

-- this was read of the text in its dialect: the statement that it is, if it is one, the relvars that it assigns, and those
-- on which it hangs
pub record IsReadText (c : CatalogueData) (dialect : ℕ) (text : List ℕ) (r : ReadText) : Type 0 where
  pub statement : MatchOption r.statement (IsUnreadText c dialect text) (IsRead c dialect text)
  pub targets : AreThose (IsTargetOfText c dialect text) r.names.targets.items
  pub footprint : AreThose (IsInFootprint c dialect text) r.names.footprint.items
