-- The grammar of statements and scripts, in the way of that of expressions.
use Rattle.std.specs.Prelude.{◌≤◌, ℕ, max, length, List, [], ◌∷◌, Option, Some, None}
use Rattle.td_tokens.specs.declared.token.Word.{Word}
use Rattle.td_tokens.specs.declared.token.Word.TheVariants as w
use Rattle.td_tokens.specs.Lex.{Text, word, name, Spanned, IsReading}
use Rattle.td_grammar.specs.declared.forms.Form.TheVariants as f
use Rattle.td_grammar.specs.declared.forms.Naming.TheVariants as naming
use Rattle.td_syntax.specs.declared.tree.TypeExpr.{TypeExpr}
use Rattle.td_syntax.specs.declared.tree.Named.{Named}
use Rattle.td_syntax.specs.declared.tree.Attributes.{Attributes}
use Rattle.td_syntax.specs.declared.tree.Expr.{Expr}
use Rattle.td_syntax.specs.declared.script.Action.{Action}
use Rattle.td_syntax.specs.declared.script.Action.TheVariants as action
use Rattle.td_syntax.specs.declared.script.Statement.{Statement}
use Rattle.td_syntax.specs.declared.script.Statement.TheVariants as statement
use Rattle.td_syntax.specs.declared.script.Opening.{Opening}
use Rattle.td_syntax.specs.declared.script.Opening.TheVariants as opening
use Rattle.td_syntax.specs.declared.script.Definition.{Definition}
use Rattle.td_syntax.specs.declared.script.Definition.TheVariants as definition
use Rattle.td_syntax.specs.Levels.{levels, named_levels}
use Rattle.td_grammar.specs.Grammar.{Tokens, Reads, ReadsNamedList, ReadsAttributes, ReadsHeading, ReadsFields, IsList, most_levels, without_places}

-- ---- statements

-- "(" Name ":=" expression, .. ")" and [":"] "{" Name ":=" expression, .. "}"
pub data ReadsSets : Tokens → List (Named Expr) → Tokens → Type 0 where
  sets : {ts r : Tokens} {xs : List (Named Expr)}
      → ReadsNamedList naming.Assigned ts xs (word w.CloseParenthesis ∷ r)
      → ReadsSets (word w.OpenParenthesis ∷ ts) xs r
  sets_braces : {ts r : Tokens} {xs : List (Named Expr)}
      → ReadsNamedList naming.Assigned ts xs (word w.CloseBrace ∷ r)
      → ReadsSets (word w.OpenBrace ∷ ts) xs r
  sets_colon : {ts r : Tokens} {xs : List (Named Expr)}
      → ReadsNamedList naming.Assigned ts xs (word w.CloseBrace ∷ r)
      → ReadsSets (word w.Colon ∷ word w.OpenBrace ∷ ts) xs r

pub data ReadsAction : Tokens → Action → Tokens → Type 0 where
  -- Name ":=" expression
  assign : {x : Text} {ts r : Tokens} {a : Expr}
      → Reads f.Expr ts a r
      → ReadsAction (name x ∷ word w.Assign ∷ ts) (action.Assign x a) r
  -- INSERT Name expression
  insert : {x : Text} {ts r : Tokens} {a : Expr}
      → Reads f.Expr ts a r
      → ReadsAction (word w.Insert ∷ name x ∷ ts) (action.Insert x a) r
  -- DELETE Name [WHERE expression]
  delete_all : {x : Text} {r : Tokens} → ReadsAction (word w.Delete ∷ name x ∷ r) (action.Delete x None) r
  delete_where : {x : Text} {ts r : Tokens} {a : Expr}
      → Reads f.Expr ts a r
      → ReadsAction (word w.Delete ∷ name x ∷ word w.Where ∷ ts) (action.Delete x (Some a)) r
  -- UPDATE Name [WHERE expression] sets
  update_all : {x : Text} {ts r : Tokens} {xs : List (Named Expr)}
      → ReadsSets ts xs r
      → ReadsAction (word w.Update ∷ name x ∷ ts) (action.Update x None xs) r
  update_where : {x : Text} {ts mid r : Tokens} {a : Expr} {xs : List (Named Expr)}
      → Reads f.Expr ts a mid
      → ReadsSets mid xs r
      → ReadsAction (word w.Update ∷ name x ∷ word w.Where ∷ ts) (action.Update x (Some a) xs) r

pub data ReadsStatement : Tokens → Statement → Type 0 where
  -- action, .. ";"
  assignment : {ts : Tokens} {xs : List Action}
      → IsList ReadsAction ts xs (word w.Semicolon ∷ [])
      → ReadsStatement ts (statement.Assignment xs)
  -- IF expression THEN action, .. ";" END IF ";"
  if_then : {ts mid : Tokens} {a : Expr} {xs : List Action}
      → Reads f.Expr ts a (word w.Then ∷ mid)
      → IsList ReadsAction mid xs (word w.Semicolon ∷ word w.End ∷ word w.If ∷ word w.Semicolon ∷ [])
      → ReadsStatement (word w.If ∷ ts) (statement.Conditional a xs [])
  -- IF expression THEN action, .. ";" ELSE action, .. ";" END IF ";"
  if_else : {ts mid next : Tokens} {a : Expr} {xs ys : List Action}
      → Reads f.Expr ts a (word w.Then ∷ mid)
      → IsList ReadsAction mid xs (word w.Semicolon ∷ word w.Else ∷ next)
      → IsList ReadsAction next ys (word w.Semicolon ∷ word w.End ∷ word w.If ∷ word w.Semicolon ∷ [])
      → ReadsStatement (word w.If ∷ ts) (statement.Conditional a xs ys)

-- The dialect in which a form of statements came. A text is read by its own dialect for ever, so that a statement
-- which had no reading when it was written keeps its outcome.
abbrev pub since : Statement → ℕ
since (statement.Assignment xs) = 1
since (statement.Conditional a xs ys) = 2

-- the dialect in which statements are written today
abbrev pub latest : ℕ
latest = 2

-- ---- scripts

-- [Name]
pub data ReadsMaybeName : Tokens → Option Text → Tokens → Type 0 where
  no_name : {r : Tokens} → ReadsMaybeName r None r
  this_name : {x : Text} {r : Tokens} → ReadsMaybeName (name x ∷ r) (Some x) r

-- [Name type, ..]
pub data ReadsComponents : Tokens → List (Named TypeExpr) → Tokens → Type 0 where
  no_components : {r : Tokens} → ReadsComponents r [] r
  components : {ts r : Tokens} {h : List (Named TypeExpr)} → ReadsFields ts h r → ReadsComponents ts h r

-- [CONSTRAINT expression]
pub data ReadsLimit : Tokens → Option Expr → Tokens → Type 0 where
  no_limit : {r : Tokens} → ReadsLimit r None r
  limit : {ts r : Tokens} {a : Expr} → Reads f.Expr ts a r → ReadsLimit (word w.Constraint ∷ ts) (Some a) r

-- RELATION heading [INIT "(" expression ")"], and INIT "(" expression ")"
pub data ReadsOpening : Tokens → Opening → Tokens → Type 0 where
  empty : {ts r : Tokens} {h : List (Named TypeExpr)}
      → ReadsHeading ts h r
      → ReadsOpening (word w.Relation ∷ ts) (opening.Empty h) r
  headed_init : {ts mid r : Tokens} {h : List (Named TypeExpr)} {a : Expr}
      → ReadsHeading ts h (word w.Init ∷ word w.OpenParenthesis ∷ mid)
      → Reads f.Expr mid a (word w.CloseParenthesis ∷ r)
      → ReadsOpening (word w.Relation ∷ ts) (opening.Init (Some h) a) r
  init : {ts r : Tokens} {a : Expr}
      → Reads f.Expr ts a (word w.CloseParenthesis ∷ r)
      → ReadsOpening (word w.Init ∷ word w.OpenParenthesis ∷ ts) (opening.Init None a) r

-- KEY attributes, once or more
pub data ReadsKeys : Tokens → List Attributes → Tokens → Type 0 where
  last_key : {ts r : Tokens} {k : Attributes} → ReadsAttributes ts k r → ReadsKeys (word w.Key ∷ ts) (k ∷ []) r
  next_key : {ts mid r : Tokens} {k : Attributes} {ks : List Attributes}
      → ReadsAttributes ts k mid
      → ReadsKeys mid ks r
      → ReadsKeys (word w.Key ∷ ts) (k ∷ ks) r

-- BASE or REAL
pub data IsBase : Word → Type 0 where
  base_word : IsBase w.Base
  real_word : IsBase w.Real

pub data ReadsDefinition : Tokens → Definition → Tokens → Type 0 where
  -- TYPE Name POSSREP [Name] "{" [Name type, ..] [CONSTRAINT expression] "}" ";"
  type_ : {x : Text} {y : Option Text} {ts mid next r : Tokens} {h : List (Named TypeExpr)} {c : Option Expr}
      → ReadsMaybeName ts y (word w.OpenBrace ∷ mid)
      → ReadsComponents mid h next
      → ReadsLimit next c (word w.CloseBrace ∷ word w.Semicolon ∷ r)
      → ReadsDefinition (word w.Type ∷ name x ∷ word w.Possrep ∷ ts) (definition.Type x y h c) r
  -- VAR Name (BASE or REAL) opening keys ";"
  base : {v : Word} {x : Text} {ts mid r : Tokens} {o : Opening} {ks : List Attributes}
      → IsBase v
      → ReadsOpening ts o mid
      → ReadsKeys mid ks (word w.Semicolon ∷ r)
      → ReadsDefinition (word w.Var ∷ name x ∷ word v ∷ ts) (definition.Base x o ks) r
  -- VAR Name VIRTUAL "(" expression ")" ";"
  virtual : {x : Text} {ts r : Tokens} {a : Expr}
      → Reads f.Expr ts a (word w.CloseParenthesis ∷ word w.Semicolon ∷ r)
      → ReadsDefinition (word w.Var ∷ name x ∷ word w.Virtual ∷ word w.OpenParenthesis ∷ ts) (definition.Virtual x a) r
  -- CONSTRAINT Name expression ";"
  constraint : {x : Text} {ts r : Tokens} {a : Expr}
      → Reads f.Expr ts a (word w.Semicolon ∷ r)
      → ReadsDefinition (word w.Constraint ∷ name x ∷ ts) (definition.Constraint x a) r

-- script: definitions, up to the end
pub data ReadsScript : Tokens → List Definition → Type 0 where
  nothing : ReadsScript [] []
  define : {ts mid : Tokens} {d : Definition} {ds : List Definition}
      → ReadsDefinition ts d mid
      → ReadsScript mid ds
      → ReadsScript ts (d ∷ ds)

-- ---- levels

abbrev pub maybe_levels : Option Expr → ℕ
maybe_levels None = 0
maybe_levels (Some a) = levels a

-- the levels of the deepest expression
abbrev pub action_levels : Action → ℕ
action_levels (action.Assign x a) = levels a
action_levels (action.Insert x a) = levels a
action_levels (action.Delete x c) = maybe_levels c
action_levels (action.Update x c xs) = max (maybe_levels c) (named_levels xs)

abbrev pub opening_levels : Opening → ℕ
opening_levels (opening.Empty h) = 0
opening_levels (opening.Init h a) = levels a

abbrev pub definition_levels : Definition → ℕ
definition_levels (definition.Type x y h c) = maybe_levels c
definition_levels (definition.Base x o ks) = opening_levels o
definition_levels (definition.Virtual x a) = levels a
definition_levels (definition.Constraint x a) = levels a

abbrev pub actions_levels : List Action → ℕ
actions_levels [] = 0
actions_levels (x ∷ xs) = max (action_levels x) (actions_levels xs)

abbrev pub statement_levels : Statement → ℕ
statement_levels (statement.Assignment xs) = actions_levels xs
statement_levels (statement.Conditional a xs ys) = max (levels a) (max (actions_levels xs) (actions_levels ys))

abbrev pub definitions_levels : List Definition → ℕ
definitions_levels [] = 0
definitions_levels (d ∷ ds) = max (definition_levels d) (definitions_levels ds)

-- ---- texts

abbrev pub statement_bytes : ℕ
statement_bytes = 8192

abbrev pub script_bytes : ℕ
script_bytes = 65536

-- the text is this statement: not too long, and none of its expressions too deep
pub record IsStatement (bytes : Text) (s : Statement) : Type 0 where
  pub spans : List Spanned
  pub lexed : IsReading bytes spans
  pub reads : ReadsStatement (without_places spans) s
  pub shallow : statement_levels s ≤ most_levels
  pub short : length bytes ≤ statement_bytes

-- the text is this statement in a dialect, which has the statement's form
pub record IsStatementIn (dialect : ℕ) (bytes : Text) (s : Statement) : Type 0 where
  pub reads : IsStatement bytes s
  pub form : since s ≤ dialect

-- the text is this script, likewise
pub record IsScript (bytes : Text) (ds : List Definition) : Type 0 where
  pub spans : List Spanned
  pub lexed : IsReading bytes spans
  pub reads : ReadsScript (without_places spans) ds
  pub shallow : definitions_levels ds ≤ most_levels
  pub short : length bytes ≤ script_bytes
