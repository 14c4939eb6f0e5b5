-- What it means that a place is told.
use Rattle.std.specs.Prelude.{Bool, true, false, ℕ, List, Option, Some, None}
use Rattle.std.specs.Str.{IsCharBoundary}
use Rattle.td_tokens.specs.Lex.{Text}
use Rattle.td_syntax.specs.declared.script.Definition.{Definition}
use Rattle.td_syntax.specs.declared.script.Statement.{Statement}
use Rattle.td_syntax.specs.declared.tree.Expr.{Expr}
use Rattle.td_grammar.specs.declared.stops.Reading.{Reading}
use Rattle.td_grammar.specs.declared.stops.Reading.TheVariants as reading
use Rattle.td_grammar.specs.Grammar.{IsQuery}
use Rattle.td_grammar.specs.Statements.{IsScript, IsStatement}

-- the text is a script, a statement or a query
abbrev pub HasReading : Reading → Text → Type 0
HasReading reading.Script bytes = (trees : List Definition) × IsScript bytes trees
HasReading reading.Statement bytes = (tree : Statement) × IsStatement bytes tree
HasReading reading.Query bytes = (tree : Expr) × IsQuery bytes tree

-- whether it is
abbrev pub Decides : Reading → Text → Bool → Type 0
Decides r bytes true = HasReading r bytes
Decides r bytes false = ¬ (HasReading r bytes)

-- a place is told exactly where the text has no such reading, and lies in it, between two characters
abbrev pub TellsPlace : Reading → Text → Option ℕ → Type 0
TellsPlace r bytes None = HasReading r bytes
TellsPlace r bytes (Some n) = ¬ (HasReading r bytes) × IsCharBoundary bytes n
