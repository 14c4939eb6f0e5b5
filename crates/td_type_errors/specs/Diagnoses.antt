-- What it means that a diagnostic is told.
use Rattle.std.specs.Prelude.{◌≡◌, List, [], ◌∷◌, Option, Some, None}
use Rattle.std.specs.Str.{IsCharBoundary}
use Rattle.td_tokens.specs.Lex.{Text}
use Rattle.td_syntax.specs.declared.script.Definition.{Definition}
use Rattle.td_syntax.specs.declared.script.Statement.{Statement}
use Rattle.td_syntax.specs.declared.tree.Expr.{Expr}
use Rattle.td_grammar.specs.Grammar.{IsQuery}
use Rattle.td_grammar.specs.Statements.{IsScript, IsStatement}
use Rattle.td_typing.specs.Types.{IsIllTyped}
use Rattle.td_headings.specs.Catalogues.{CatalogueData}
use Rattle.td_headings.specs.Definitions.{Defines, names_of_relvars}
use Rattle.td_headings.specs.Statements.{TypesNoStatement}
use Rattle.td_type_errors.specs.declared.diagnostic.Diagnostic.{Diagnostic}

-- the text is read as a query that has no type over the relvars
abbrev pub IsQueryWithoutType : CatalogueData → Text → Type 0
IsQueryWithoutType c bytes = (tree : Expr) × IsQuery bytes tree × IsIllTyped c.schema (names_of_relvars c) tree

-- the text is read as a statement that no rule types
abbrev pub IsStatementWithoutType : CatalogueData → Text → Type 0
IsStatementWithoutType c bytes = (tree : Statement) × IsStatement bytes tree × TypesNoStatement c tree

-- the text is this definition alone
abbrev pub IsDefinition : Text → Definition → Type 0
IsDefinition bytes tree = IsScript bytes (tree ∷ [])

-- the definition is not well typed after those before it
abbrev pub DefinesNothing : CatalogueData → Definition → Type 0
DefinesNothing c tree = (d : CatalogueData) → ¬ (Defines c tree d)

abbrev pub IsDefinitionWithoutType : CatalogueData → Text → Type 0
IsDefinitionWithoutType c bytes = (tree : Definition) × IsDefinition bytes tree × DefinesNothing c tree

-- something is found exactly where this is so
abbrev pub FindsWhere : {A : Type 0} → Type 0 → Option A → Type 0
FindsWhere IsWrong None = ¬ IsWrong
FindsWhere IsWrong (Some found) = IsWrong

-- the text is the definition that is found alone, or none
abbrev pub FindsDefinition : Text → Option (List Definition) → Type 0
FindsDefinition bytes None = (tree : Definition) → ¬ (IsDefinition bytes tree)
FindsDefinition bytes (Some trees) = (tree : Definition) × (trees ≡ tree ∷ []) × IsDefinition bytes tree

-- a diagnostic is told exactly where this is so, and its place lies in the text, between two characters
abbrev pub Diagnoses : Type 0 → Text → Option Diagnostic → Type 0
Diagnoses IsWrong bytes None = ¬ IsWrong
Diagnoses IsWrong bytes (Some told) = IsWrong × IsCharBoundary bytes told.place

-- c becomes d: by the definition that the text is, or not at all where it is none
pub record IsDefined (c : CatalogueData) (bytes : Text) (d : CatalogueData) : Type 0 where
  pub defined : (tree : Definition) → IsDefinition bytes tree → Defines c tree d
  pub none : ((tree : Definition) → ¬ (IsDefinition bytes tree)) → d ≡ c

-- Where nothing is told, what is defined grows by the definition that the text is; else it stays.
abbrev pub IsCatalogueAfter : CatalogueData → Text → Option Diagnostic → CatalogueData → Type 0
IsCatalogueAfter c bytes None d = IsDefined c bytes d
IsCatalogueAfter c bytes (Some told) d = d ≡ c
