-- The laws of the grammar.
use Rattle.std.specs.Prelude.{◌≡◌, ◌↔◌, List, [], Some}
use Rattle.td_tokens.specs.Lex.{Text}
use Rattle.td_grammar.specs.declared.forms.Form.TheVariants as f
use Rattle.td_syntax.specs.declared.tree.Expr.{Expr}
use Rattle.td_syntax.specs.declared.script.Statement.{Statement}
use Rattle.td_syntax.specs.declared.script.Definition.{Definition}
use Rattle.td_grammar.specs.Grammar.{Tokens, Reads, IsQuery}
use Rattle.td_grammar.specs.Statements.{ReadsStatement, ReadsScript, IsStatement, IsScript}
use Rattle.td_grammar.specs.ForProofs.Reader.{read_expr}
use Rattle.td_grammar.specs.ForProofs.StatementReader.{read_statement, read_script}

-- no token list is two expressions
abbrev pub OneExpr : Type 0
OneExpr = (ts : Tokens) (a b : Expr) → Reads f.Expr ts a [] → Reads f.Expr ts b [] → a ≡ b

-- none is two statements
abbrev pub OneStatement : Type 0
OneStatement = (ts : Tokens) (s t : Statement) → ReadsStatement ts s → ReadsStatement ts t → s ≡ t

-- and none is two scripts
abbrev pub OneScript : Type 0
OneScript = (ts : Tokens) (ds es : List Definition) → ReadsScript ts ds → ReadsScript ts es → ds ≡ es

-- the reader finds a tree exactly where the text is a query
abbrev pub ReaderDecidesQueries : Type 0
ReaderDecidesQueries = (bytes : Text) (a : Expr) → (read_expr bytes ≡ Some a) ↔ IsQuery bytes a

-- a statement
abbrev pub ReaderDecidesStatements : Type 0
ReaderDecidesStatements = (bytes : Text) (s : Statement) → (read_statement bytes ≡ Some s) ↔ IsStatement bytes s

-- and a script
abbrev pub ReaderDecidesScripts : Type 0
ReaderDecidesScripts = (bytes : Text) (ds : List Definition) → (read_script bytes ≡ Some ds) ↔ IsScript bytes ds
