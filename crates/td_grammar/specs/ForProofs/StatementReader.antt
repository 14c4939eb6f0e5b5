-- How statements and scripts are read.
use Rattle.std.specs.Prelude.{ℕ, zero, suc, nat_le, if◌then◌else◌, List, [], ◌∷◌, ◌++◌, Option, Some, None, length, option_and_then}
use Rattle.td_tokens.specs.declared.token.Word.{Word}
use Rattle.td_tokens.specs.declared.token.Word.TheVariants as w
use Rattle.td_tokens.specs.Lex.{Text}
use Rattle.td_tokens.specs.Lexer.{lexemes}
use Rattle.td_grammar.specs.declared.forms.Form.{Form}
use Rattle.td_grammar.specs.declared.forms.Naming.TheVariants as naming
use Rattle.td_syntax.specs.declared.tree.TypeExpr.{TypeExpr}
use Rattle.td_syntax.specs.declared.tree.Named.{Named}
use Rattle.td_syntax.specs.declared.tree.Attributes.{Attributes}
use Rattle.td_syntax.specs.declared.tree.Expr.{Expr}
use Rattle.td_syntax.specs.declared.script.Action.{Action}
use Rattle.td_syntax.specs.declared.script.Action.TheVariants as action
use Rattle.td_syntax.specs.declared.script.Statement.{Statement}
use Rattle.td_syntax.specs.declared.script.Statement.TheVariants as statement
use Rattle.td_syntax.specs.declared.script.Opening.{Opening}
use Rattle.td_syntax.specs.declared.script.Opening.TheVariants as opening
use Rattle.td_syntax.specs.declared.script.Definition.{Definition}
use Rattle.td_syntax.specs.declared.script.Definition.TheVariants as definition
use Rattle.td_grammar.specs.Grammar.{Tokens, most_levels}
use Rattle.td_grammar.specs.Statements.{since, statement_bytes, script_bytes}
use Rattle.td_grammar.specs.ForProofs.Reader.{Reader, and_then, ◌>>=◌, ◌>>◌, pure, refuse, at, at_name, tail, eat, expect, take_name, list_at, listed, attributes_at, heading_at, field_of, type_at, named_at, reads, inner, is_over, whole}

-- a name, if one comes next
unfoldable pub maybe_name : Reader (Option Text)
maybe_name = λ ts. if at_name ts then and_then (take_name ts) (λ x. pure (Some x)) else Some (None, ts)

-- fields, if a name comes next
unfoldable pub components_at : Reader (List (Named TypeExpr))
components_at = λ ts. if at_name ts then list_at (field_of (type_at (length ts))) ts else Some ([], ts)

-- KEY attributes as long as they come; the number bounds the turns
unfoldable pub keys_from : ℕ → List Attributes → Reader (List Attributes)
keys_from zero found = refuse
keys_from (suc n) found = do
  expect w.Key
  xs ← attributes_at
  (λ ts. if at w.Key ts then keys_from n (found ++ xs ∷ []) ts else Some (found ++ xs ∷ [], ts))

abbrev pub keys_at : Reader (List Attributes)
keys_at = λ ts. keys_from (length ts) [] ts

-- readers of statements, by those of expressions
module _ (reads : ℕ → Form → Reader Expr) (b : ℕ) where
  unfoldable pub sets_at : Reader (List (Named Expr))
  sets_at = do
    opened ← eat w.OpenParenthesis
    if opened
        then listed w.CloseParenthesis (named_at reads b naming.Assigned)
        else (do _ ← eat w.Colon; expect w.OpenBrace; listed w.CloseBrace (named_at reads b naming.Assigned))

  -- an expression behind the word, if the word comes next
  unfoldable pub behind : Word → Reader (Option Expr)
  behind v = do
    found ← eat v
    if found then (do a ← inner reads b; pure (Some a)) else pure None

  unfoldable pub assigned : Reader Action
  assigned = do
    x ← take_name
    expect w.Assign
    a ← inner reads b
    pure (action.Assign x a)

  unfoldable pub inserted : Reader Action
  inserted = do
    x ← take_name
    a ← inner reads b
    pure (action.Insert x a)

  unfoldable pub deleted : Reader Action
  deleted = do
    x ← take_name
    c ← behind w.Where
    pure (action.Delete x c)

  unfoldable pub updated : Reader Action
  updated = do
    x ← take_name
    c ← behind w.Where
    xs ← sets_at
    pure (action.Update x c xs)

  unfoldable pub action_at : Reader Action
  action_at = λ ts.
      if at w.Insert ts then inserted (tail ts)
      else (if at w.Delete ts then deleted (tail ts)
      else (if at w.Update ts then updated (tail ts)
      else assigned ts))

  -- actions, up to a semicolon
  unfoldable pub actions_at : Reader (List Action)
  actions_at = listed w.Semicolon action_at

  -- those behind ELSE, if it comes next
  unfoldable pub otherwise : Reader (List Action)
  otherwise = do
    found ← eat w.Else
    if found then actions_at else pure []

  unfoldable pub conditional : Reader Statement
  conditional = do
    a ← inner reads b
    expect w.Then
    xs ← actions_at
    ys ← otherwise
    expect w.End
    expect w.If
    expect w.Semicolon
    pure (statement.Conditional a xs ys)

  unfoldable pub statement_at : Reader Statement
  statement_at = λ ts.
      if at w.If ts then conditional (tail ts)
      else and_then (actions_at ts) (λ xs. pure (statement.Assignment xs))

  unfoldable pub type_definition : Reader Definition
  type_definition = do
    x ← take_name
    expect w.Possrep
    y ← maybe_name
    expect w.OpenBrace
    h ← components_at
    c ← behind w.Constraint
    expect w.CloseBrace
    expect w.Semicolon
    pure (definition.Type x y h c)

  -- "(" expression ")"
  unfoldable pub bracketed : Reader Expr
  bracketed = do
    expect w.OpenParenthesis
    a ← inner reads b
    expect w.CloseParenthesis
    pure a

  unfoldable pub opening_at : Reader Opening
  opening_at = do
    headed ← eat w.Relation
    if headed
        then (do h ← heading_at; started ← eat w.Init; if started then (do a ← bracketed; pure (opening.Init (Some h) a)) else pure (opening.Empty h))
        else (do expect w.Init; a ← bracketed; pure (opening.Init None a))

  unfoldable pub base_definition : Text → Reader Definition
  base_definition x = do
    o ← opening_at
    ks ← keys_at
    expect w.Semicolon
    pure (definition.Base x o ks)

  unfoldable pub virtual_definition : Text → Reader Definition
  virtual_definition x = do
    a ← bracketed
    expect w.Semicolon
    pure (definition.Virtual x a)

  unfoldable pub relvar_definition : Reader Definition
  relvar_definition = do
    x ← take_name
    (λ ts.
        if at w.Base ts then base_definition x (tail ts)
        else (if at w.Real ts then base_definition x (tail ts)
        else and_then (expect w.Virtual ts) (λ _. virtual_definition x)))

  unfoldable pub constraint_definition : Reader Definition
  constraint_definition = do
    x ← take_name
    a ← inner reads b
    expect w.Semicolon
    pure (definition.Constraint x a)

  unfoldable pub definition_at : Reader Definition
  definition_at = λ ts.
      if at w.Type ts then type_definition (tail ts)
      else (if at w.Var ts then relvar_definition (tail ts)
      else and_then (expect w.Constraint ts) (λ _. constraint_definition))

  -- definitions up to the end; the number bounds the turns
  unfoldable pub definitions_from : ℕ → List Definition → Tokens → Option (List Definition)
  definitions_from zero found ts = if is_over ts then Some found else None
  definitions_from (suc n) found ts = if is_over ts then Some found else option_and_then (λ (p : Definition × Tokens). definitions_from n (found ++ p.0 ∷ []) p.1) (definition_at ts)

abbrev pub statement_of_tokens : Tokens → Option Statement
statement_of_tokens ts = whole (statement_at (reads (length ts)) most_levels ts)

abbrev pub script_of_tokens : Tokens → Option (List Definition)
script_of_tokens ts = definitions_from (reads (length ts)) most_levels (length ts) [] ts

-- the tree of a statement
unfoldable pub read_statement : Text → Option Statement
read_statement bytes = if nat_le (length bytes) statement_bytes then option_and_then statement_of_tokens (lexemes bytes) else None

-- the tree of a statement of a form that the dialect has
unfoldable pub read_statement_in : ℕ → Text → Option Statement
read_statement_in dialect bytes = option_and_then (λ s. if nat_le (since s) dialect then Some s else None) (read_statement bytes)

-- the trees of a script
unfoldable pub read_script : Text → Option (List Definition)
read_script bytes = if nat_le (length bytes) script_bytes then option_and_then script_of_tokens (lexemes bytes) else None
