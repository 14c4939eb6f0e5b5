-- How the grammar is read: a function that computes the reading at a place. Private clauses cite it, and the laws say
-- that it decides the grammar.
use Rattle.std.specs.Prelude.{ℕ, zero, suc, ℤ, pos, ◌==◌, ◌&&◌, ◌||◌, nat_le, Bool, true, false, if◌then◌else◌, List, [], ◌∷◌, ◌++◌, Option, Some, None, length, option_and_then}
use denote.Enum.Bare.{sameb}
use Rattle.td_tokens.specs.contracts.token.Word.{the_type}
use Rattle.td_tokens.specs.declared.token.Word.{Word}
use Rattle.td_tokens.specs.declared.token.Word.TheVariants as w
use Rattle.td_tokens.specs.declared.token.TokenKind.{TokenKind}
use Rattle.td_tokens.specs.declared.token.TokenKind.TheVariants as k
use Rattle.td_tokens.specs.Lex.{Text, Lexeme, word, name, int, text}
use Rattle.td_tokens.specs.Lexer.{lexemes}
use Rattle.td_grammar.specs.declared.forms.Form.{Form}
use Rattle.td_grammar.specs.declared.forms.Form.TheVariants as f
use Rattle.td_grammar.specs.declared.forms.Naming.{Naming}
use Rattle.td_grammar.specs.declared.forms.Naming.TheVariants as naming
use Rattle.td_syntax.specs.declared.tree.TypeExpr.{TypeExpr}
use Rattle.td_syntax.specs.declared.tree.TypeExpr.TheVariants as t
use Rattle.td_syntax.specs.declared.tree.Named.{Named}
use Rattle.td_syntax.specs.declared.tree.Attributes.{Attributes}
use Rattle.td_syntax.specs.declared.tree.Attributes.TheVariants as attributes
use Rattle.td_syntax.specs.declared.tree.Renaming.{Renaming}
use Rattle.td_syntax.specs.declared.tree.UnaryOperator.{UnaryOperator}
use Rattle.td_syntax.specs.declared.tree.UnaryOperator.TheVariants as unary
use Rattle.td_syntax.specs.declared.tree.BinaryOperator.{BinaryOperator}
use Rattle.td_syntax.specs.declared.tree.Aggregate.{Aggregate}
use Rattle.td_syntax.specs.declared.tree.Aggregate.TheVariants as aggregate
use Rattle.td_syntax.specs.declared.tree.Nesting.{Nesting}
use Rattle.td_syntax.specs.declared.tree.Nesting.TheVariants as nesting
use Rattle.td_syntax.specs.declared.tree.Extension.TheVariants as extension
use Rattle.td_syntax.specs.declared.tree.SummaryTerm.{SummaryTerm}
use Rattle.td_syntax.specs.declared.tree.SummaryTerm.TheVariants as summary
use Rattle.td_syntax.specs.declared.tree.Groups.{Groups}
use Rattle.td_syntax.specs.declared.tree.Groups.TheVariants as groups
use Rattle.td_syntax.specs.declared.tree.Expr.{Expr}
use Rattle.td_syntax.specs.declared.tree.Expr.TheVariants as e
use Rattle.td_syntax.specs.Levels.{levels}
use Rattle.td_grammar.specs.Grammar.{Tokens, Infix, infix_at, infix_word, binds, target_at, most_levels, query_bytes}

-- what was read, and the place after it
abbrev pub Outcome : Type 0 → Type 0
Outcome A = Option (A × Tokens)

abbrev pub Reader : Type 0 → Type 0
Reader A = Tokens → Outcome A

abbrev pub and_then : {A B : Type 0} → Outcome A → (A → Reader B) → Outcome B
and_then None g = None
and_then (Some p) g = g p.0 p.1

infixl 10 ◌>>=◌
abbrev pub ◌>>=◌ : {A B : Type 0} → Reader A → (A → Reader B) → Reader B
p >>= g = λ ts. and_then (p ts) g

infixl 10 ◌>>◌
abbrev pub ◌>>◌ : {A B : Type 0} → Reader A → Reader B → Reader B
p >> q = p >>= (λ _. q)

abbrev pub pure : {A : Type 0} → A → Reader A
pure a = λ ts. Some (a, ts)

abbrev pub refuse : {A : Type 0} → Reader A
refuse = λ ts. None

-- ---- single tokens

-- `==` on words
unfoldable pub same_word : Word → Word → Bool
same_word = sameb the_type

abbrev pub kind_of : Lexeme → TokenKind
kind_of (word v) = k.Word v
kind_of (name x) = k.Name
kind_of (int n) = k.Int n
kind_of (text s) = k.Text

-- the kind of the token at a place
abbrev pub look : Tokens → Option TokenKind
look [] = None
look (x ∷ ts) = Some (kind_of x)

abbrev pub is_word : Word → Lexeme → Bool
is_word v (word u) = same_word u v
is_word v _ = false

-- the word comes next
unfoldable pub at : Word → Tokens → Bool
at v [] = false
at v (x ∷ ts) = is_word v x

abbrev pub tail : Tokens → Tokens
tail [] = []
tail (x ∷ ts) = ts

-- takes the word if it comes next
unfoldable pub eat : Word → Reader Bool
eat v = λ ts. Some (if at v ts then (true, tail ts) else (false, ts))

unfoldable pub expect : Word → Reader (Unit {0})
expect v = λ ts. if at v ts then Some (tt, tail ts) else None

abbrev pub name_of : Lexeme → Option Text
name_of (name x) = Some x
name_of _ = None

abbrev pub text_of : Lexeme → Option Text
text_of (text s) = Some s
text_of _ = None

abbrev pub integer_of : Lexeme → Option ℤ
integer_of (int n) = Some (pos n)
integer_of _ = None

abbrev pub with_rest : {A : Type 0} → Option A → Tokens → Outcome A
with_rest None ts = None
with_rest (Some a) ts = Some (a, ts)

unfoldable pub take_name : Reader Text
take_name [] = None
take_name (x ∷ ts) = with_rest (name_of x) ts

unfoldable pub take_text : Reader Text
take_text [] = None
take_text (x ∷ ts) = with_rest (text_of x) ts

unfoldable pub take_integer : Reader ℤ
take_integer [] = None
take_integer (x ∷ ts) = with_rest (integer_of x) ts

abbrev pub is_name : Lexeme → Bool
is_name (name x) = true
is_name _ = false

-- a name comes next
unfoldable pub at_name : Tokens → Bool
at_name [] = false
at_name (x ∷ ts) = is_name x

abbrev pub is_type_word : Word → Bool
is_type_word w.Boolean = true
is_type_word w.Integer = true
is_type_word w.Char = true
is_type_word w.Character = true
is_type_word w.Tuple = true
is_type_word w.Relation = true
is_type_word _ = false

abbrev pub begins_type : Lexeme → Bool
begins_type (word v) = is_type_word v
begins_type (name x) = true
begins_type _ = false

-- a type comes next
unfoldable pub at_type : Tokens → Bool
at_type [] = false
at_type (x ∷ ts) = begins_type x

abbrev pub infix_number : Option (ℕ × BinaryOperator) → ℕ
infix_number None = 0
infix_number (Some p) = p.0

-- the number of the form that goes on with this word, whatever follows it, or 0
abbrev pub word_number : Word → ℕ
word_number w.Not = 5
word_number w.Where = 5
word_number w.Rename = 5
word_number w.Group = 5
word_number w.Wrap = 5
word_number w.Ungroup = 5
word_number w.Unwrap = 5
word_number v = infix_number (infix_word v)

abbrev pub infix_found : Option Infix → Outcome BinaryOperator
infix_found None = None
infix_found (Some p) = Some (p.1, p.2)

-- the infix operator, of whatever form
unfoldable pub take_infix : Reader BinaryOperator
take_infix ts = infix_found (infix_at ts)

-- ---- lists

-- one or more with commas between; the number bounds the turns
unfoldable pub list_from : {A : Type 0} → Reader A → ℕ → List A → Reader (List A)
list_from item zero found = refuse
list_from item (suc n) found = do
  x ← item
  more ← eat w.Comma
  if more then list_from item n (found ++ x ∷ []) else pure (found ++ x ∷ [])

abbrev pub list_at : {A : Type 0} → Reader A → Reader (List A)
list_at item = λ ts. list_from item (length ts) [] ts

-- a list and the word that closes it
unfoldable pub listed : {A : Type 0} → Word → Reader A → Reader (List A)
listed v item = do
  xs ← list_at item
  expect v
  pure xs

-- none or a list, and the word that closes it
unfoldable pub up_to : {A : Type 0} → Word → Reader A → Reader (List A)
up_to v item = do
  empty ← eat v
  if empty then pure [] else listed v item

unfoldable pub renaming_at : Reader Renaming
renaming_at = do
  x ← take_name
  expect w.As
  y ← take_name
  pure (record { from = x; to = y })

unfoldable pub attributes_at : Reader Attributes
attributes_at = do
  expect w.OpenBrace
  all ← eat w.All
  if all then (do expect w.But; xs ← up_to w.CloseBrace take_name; pure (attributes.AllBut xs)) else (do xs ← up_to w.CloseBrace take_name; pure (attributes.Only xs))

-- ---- types. The number bounds how deep they nest.

unfoldable pub field_of : Reader TypeExpr → Reader (Named TypeExpr)
field_of type = do
  x ← take_name
  a ← type
  pure (record { name = x; value = a })

unfoldable pub heading_of : Reader TypeExpr → Reader (List (Named TypeExpr))
heading_of type = do
  expect w.OpenBrace
  up_to w.CloseBrace (field_of type)

abbrev pub type_word : Reader TypeExpr → Word → Reader TypeExpr
type_word type w.Boolean = pure t.Boolean
type_word type w.Integer = pure t.Integer
type_word type w.Char = pure t.Char
type_word type w.Character = pure t.Char
type_word type w.Tuple = (do h ← heading_of type; pure (t.Tuple h))
type_word type w.Relation = (do h ← heading_of type; pure (t.Relation h))
type_word type _ = refuse

abbrev pub type_by : Reader TypeExpr → Option TokenKind → Reader TypeExpr
type_by type (Some (k.Word v)) = λ ts. type_word type v (tail ts)
type_by type (Some k.Name) = (do x ← take_name; pure (t.User x))
type_by type _ = refuse

unfoldable pub type_of : Reader TypeExpr → Reader TypeExpr
type_of type = λ ts. type_by type (look ts) ts

unfoldable pub type_at : ℕ → Reader TypeExpr
type_at zero = refuse
type_at (suc n) = type_of (type_at n)

abbrev pub heading_at : Reader (List (Named TypeExpr))
heading_at = λ ts. heading_of (type_at (length ts)) ts

-- ---- what goes on from a tree

-- turn by turn as long as the form of this number goes on, and at most as often as the second number says
unfoldable pub climb : ℕ → (Expr → Reader Expr) → ℕ → Expr → Reader Expr
climb j turn zero a = pure a
climb j turn (suc n) a = λ ts. if binds ts == j then and_then (turn a ts) (climb j turn n) else Some (a, ts)

-- an infix operator, and its right operand
unfoldable pub binary_turn : Reader Expr → Expr → Reader Expr
binary_turn operand a = do
  o ← take_infix
  b ← operand
  pure (e.Binary o a b)

-- an operand, and further ones behind infix operators of the form of this number
abbrev pub operators : ℕ → Reader Expr → ℕ → Reader Expr
operators j operand n = operand >>= climb j (binary_turn operand) n

unfoldable pub project_turn : Expr → Reader Expr
project_turn a = do
  xs ← attributes_at
  pure (e.Project a xs)

unfoldable pub rename_turn : Expr → Reader Expr
rename_turn a = do
  open_ ← eat w.OpenParenthesis
  if open_ then (do xs ← listed w.CloseParenthesis renaming_at; pure (e.Rename a xs)) else (do expect w.OpenBrace; xs ← listed w.CloseBrace renaming_at; pure (e.Rename a xs))

-- the closing bracket, where one was opened
unfoldable pub shut : Bool → Reader (Unit {0})
shut opened = if opened then expect w.CloseParenthesis else pure tt

unfoldable pub nest_turn : Nesting → Expr → Reader Expr
nest_turn g a = do
  opened ← eat w.OpenParenthesis
  xs ← attributes_at
  expect w.As
  x ← take_name
  shut opened
  pure (e.Nest g a xs x)

unfoldable pub unnest_turn : Nesting → Expr → Reader Expr
unnest_turn g a = do
  opened ← eat w.OpenParenthesis
  x ← take_name
  shut opened
  pure (e.Unnest g a x)

abbrev pub aggregate_of : Word → Option Aggregate
aggregate_of w.Sum = Some aggregate.Sum
aggregate_of w.Max = Some aggregate.Max
aggregate_of w.Min = Some aggregate.Min
aggregate_of w.And = Some aggregate.And
aggregate_of w.Or = Some aggregate.Or
aggregate_of _ = None

-- `RELATION` has a heading before its tuples: the braces are empty, or begin with a name and a type
unfoldable pub has_heading : Tokens → Bool
has_heading ts = at w.CloseBrace (tail ts) || (at_name (tail ts) && at_type (tail (tail ts)))

-- Nested expressions are read by `reads`: with the number suc b inside round brackets, and with b where they are one
-- level down.
module _ (reads : ℕ → Form → Reader Expr) (b : ℕ) where
  abbrev pub inner : Reader Expr
  inner = reads b f.Expr

  unfoldable pub named_at : Naming → Reader (Named Expr)
  named_at naming.After = (do a ← inner; expect w.As; x ← take_name; pure (record { name = x; value = a }))
  named_at naming.Assigned = (do x ← take_name; expect w.Assign; a ← inner; pure (record { name = x; value = a }))
  named_at naming.Beside = (do x ← take_name; a ← inner; pure (record { name = x; value = a }))

  unfoldable pub brackets : Reader Expr
  brackets = do
    a ← reads (suc b) f.Expr
    expect w.CloseParenthesis
    pure a

  unfoldable pub call : Reader Expr
  call = do
    x ← take_name
    (λ ts. if at w.OpenParenthesis ts && (if target_at (tail ts) then false else true) then and_then (up_to w.CloseParenthesis inner (tail ts)) (λ all. pure (e.Call x all)) else Some (e.Name x, ts))

  unfoldable pub tuple : Reader Expr
  tuple = do
    expect w.OpenBrace
    xs ← up_to w.CloseBrace (named_at naming.Beside)
    pure (e.Tuple xs)

  unfoldable pub headed : Reader Expr
  headed = do
    h ← heading_at
    expect w.OpenBrace
    all ← up_to w.CloseBrace inner
    pure (e.Relation (Some h) all)

  unfoldable pub unheaded : Reader Expr
  unheaded = do
    expect w.OpenBrace
    all ← listed w.CloseBrace inner
    pure (e.Relation None all)

  unfoldable pub relation : Reader Expr
  relation = λ ts. if has_heading ts then headed ts else unheaded ts

  -- an operator of one expression in round brackets
  unfoldable pub applied : UnaryOperator → Reader Expr
  applied o = do
    expect w.OpenParenthesis
    a ← inner
    expect w.CloseParenthesis
    pure (e.Unary o a)

  unfoldable pub aggregated : Aggregate → Reader Expr
  aggregated g = do
    expect w.OpenParenthesis
    a ← inner
    more ← eat w.Comma
    if more then (do c ← inner; expect w.CloseParenthesis; pure (e.Aggregate g a (Some c))) else (do expect w.CloseParenthesis; pure (e.Aggregate g a None))

  unfoldable pub choice : Reader Expr
  choice = do
    a ← inner
    expect w.Then
    c ← inner
    expect w.Else
    d ← inner
    expect w.End
    expect w.If
    pure (e.If a c d)

  unfoldable pub extend : Reader Expr
  extend = do
    a ← inner
    adds ← eat w.Add
    if adds
        then (do expect w.OpenParenthesis; xs ← listed w.CloseParenthesis (named_at naming.After); pure (e.Extend extension.Add a xs))
        else (do expect w.Colon; expect w.OpenBrace; xs ← listed w.CloseBrace (named_at naming.Assigned); pure (e.Extend extension.Assign a xs))

  unfoldable pub counted : Reader (SummaryTerm Expr)
  counted = do
    opened ← eat w.OpenParenthesis
    shut opened
    pure summary.Count

  unfoldable pub summed : Aggregate → Reader (SummaryTerm Expr)
  summed g = do
    expect w.OpenParenthesis
    a ← inner
    expect w.CloseParenthesis
    pure (summary.Of g a)

  abbrev pub summed_by : Option Aggregate → Reader (SummaryTerm Expr)
  summed_by None = refuse
  summed_by (Some g) = summed g

  abbrev pub summary_word : Word → Reader (SummaryTerm Expr)
  summary_word v = if same_word v w.Count then counted else summed_by (aggregate_of v)

  abbrev pub summary_by : Option TokenKind → Reader (SummaryTerm Expr)
  summary_by (Some (k.Word v)) = λ ts. summary_word v (tail ts)
  summary_by _ = refuse

  unfoldable pub summary_at : Reader (SummaryTerm Expr)
  summary_at = λ ts. summary_by (look ts) ts

  unfoldable pub named_summary : Naming → Reader (Named (SummaryTerm Expr))
  named_summary naming.After = (do s ← summary_at; expect w.As; x ← take_name; pure (record { name = x; value = s }))
  named_summary naming.Assigned = (do x ← take_name; expect w.Assign; s ← summary_at; pure (record { name = x; value = s }))
  named_summary naming.Beside = refuse

  unfoldable pub summaries : Reader (List (Named (SummaryTerm Expr)))
  summaries = do
    adds ← eat w.Add
    if adds
        then (do expect w.OpenParenthesis; listed w.CloseParenthesis (named_summary naming.After))
        else (do expect w.Colon; expect w.OpenBrace; listed w.CloseBrace (named_summary naming.Assigned))

  unfoldable pub groups_at : Reader (Groups Expr)
  groups_at = do
    per ← eat w.Per
    if per then (do c ← inner; pure (groups.Per c)) else (do by ← eat w.By; if by then (do xs ← attributes_at; pure (groups.By xs)) else pure groups.Whole)

  unfoldable pub summarize : Reader Expr
  summarize = do
    a ← inner
    g ← groups_at
    xs ← summaries
    pure (e.Summarize a g xs)

  abbrev pub primary_aggregate : Option Aggregate → Reader Expr
  primary_aggregate None = refuse
  primary_aggregate (Some g) = aggregated g

  abbrev pub primary_word : Word → Reader Expr
  primary_word w.True = pure (e.Truth true)
  primary_word w.False = pure (e.Truth false)
  primary_word w.TableDee = pure e.TableDee
  primary_word w.TableDum = pure e.TableDum
  primary_word w.OpenParenthesis = brackets
  primary_word w.Tuple = tuple
  primary_word w.Relation = relation
  primary_word w.IsEmpty = applied unary.IsEmpty
  primary_word w.Count = applied unary.Count
  primary_word w.If = choice
  primary_word w.Extend = extend
  primary_word w.Summarize = summarize
  primary_word v = primary_aggregate (aggregate_of v)

  abbrev pub primary_by : Option TokenKind → Reader Expr
  primary_by None = refuse
  primary_by (Some (k.Int n)) = (do z ← take_integer; pure (e.Integer z))
  primary_by (Some k.Text) = (do s ← take_text; pure (e.Text s))
  primary_by (Some k.Name) = call
  primary_by (Some (k.Word v)) = λ ts. primary_word v (tail ts)

  unfoldable pub primary_at : Reader Expr
  primary_at = λ ts. primary_by (look ts) ts

  abbrev pub projection_at : Reader Expr
  projection_at = primary_at >>= climb 9 project_turn b

  unfoldable pub prefix : UnaryOperator → Reader Expr
  prefix o = do
    a ← reads b f.Prefixed
    pure (e.Unary o a)

  unfoldable pub attribute_from : Reader Expr
  attribute_from = do
    x ← take_name
    expect w.From
    a ← reads b f.Prefixed
    pure (e.From x a)

  unfoldable pub prefixed_at : Reader Expr
  prefixed_at = λ ts.
      if at w.Dash ts then prefix unary.Negate (tail ts)
      else (if at w.Tclose ts then prefix unary.Closure (tail ts)
      else (if at w.Tuple ts && at w.From (tail ts) then prefix unary.TupleFrom (tail (tail ts))
      else (if at_name ts && at w.From (tail ts) then attribute_from ts
      else projection_at ts)))

  abbrev pub multiplicative_at : Reader Expr
  multiplicative_at = operators 7 prefixed_at b

  abbrev pub additive_at : Reader Expr
  additive_at = operators 6 multiplicative_at b

  unfoldable pub where_turn : Expr → Reader Expr
  where_turn a = do
    c ← inner
    pure (e.Where a c)

  abbrev pub relational_word : Word → Expr → Reader Expr
  relational_word w.Where a = λ ts. where_turn a (tail ts)
  relational_word w.Rename a = λ ts. rename_turn a (tail ts)
  relational_word w.Group a = λ ts. nest_turn nesting.Group a (tail ts)
  relational_word w.Wrap a = λ ts. nest_turn nesting.Wrap a (tail ts)
  relational_word w.Ungroup a = λ ts. unnest_turn nesting.Group a (tail ts)
  relational_word w.Unwrap a = λ ts. unnest_turn nesting.Wrap a (tail ts)
  relational_word v a = binary_turn additive_at a

  abbrev pub relational_by : Option TokenKind → Expr → Reader Expr
  relational_by (Some (k.Word v)) a = relational_word v a
  relational_by _ a = refuse

  -- a postfix, or an infix operator and its right operand
  unfoldable pub relational_turn : Expr → Reader Expr
  relational_turn a = λ ts. relational_by (look ts) a ts

  abbrev pub relational_at : Reader Expr
  relational_at = additive_at >>= climb 5 relational_turn b

  -- one comparison at most
  abbrev pub comparison_at : Reader Expr
  comparison_at = operators 4 relational_at 1

  unfoldable pub not_at : Reader Expr
  not_at = λ ts. if at w.Not ts then and_then (reads b f.Not (tail ts)) (λ a. pure (e.Unary unary.Not a)) else comparison_at ts

  abbrev pub and_at : Reader Expr
  and_at = operators 2 not_at b

  abbrev pub or_at : Reader Expr
  or_at = operators 1 and_at b

  unfoldable pub with_after : Reader Expr
  with_after = do
    xs ← list_at (named_at naming.After)
    expect w.Colon
    a ← inner
    pure (e.With xs a)

  unfoldable pub with_assigned : Reader Expr
  with_assigned = do
    expect w.OpenParenthesis
    xs ← listed w.CloseParenthesis (named_at naming.Assigned)
    expect w.Colon
    a ← inner
    pure (e.With xs a)

  -- after WITH
  unfoldable pub with_at : Reader Expr
  with_at = λ ts. if at w.OpenParenthesis ts && target_at (tail ts) then with_assigned ts else with_after ts

  -- nothing goes on behind it
  unfoldable pub greedy : Expr → Reader Expr
  greedy a = λ ts. if binds ts == 0 then Some (a, ts) else None

  unfoldable pub expr_at : Reader Expr
  expr_at = λ ts. if at w.With ts then with_at (tail ts) else and_then (or_at ts) greedy

  abbrev pub form_at : Form → Reader Expr
  form_at f.Expr = expr_at
  form_at f.Or = or_at
  form_at f.And = and_at
  form_at f.Not = not_at
  form_at f.Comparison = comparison_at
  form_at f.Relational = relational_at
  form_at f.Additive = additive_at
  form_at f.Multiplicative = multiplicative_at
  form_at f.Prefixed = prefixed_at
  form_at f.Projection = projection_at
  form_at f.Primary = primary_at

-- a tree of at most so many levels
unfoldable pub within : ℕ → Expr → Reader Expr
within m a = λ ts. if nat_le (levels a) m then Some (a, ts) else None

-- nested no deeper than the first number, with a tree of at most as many levels as the second
unfoldable pub reads : ℕ → ℕ → Form → Reader Expr
reads zero b g = refuse
reads (suc n) zero g = refuse
reads (suc n) (suc b) g = form_at (reads n) b g >>= within (suc b)

-- no token is left
abbrev pub is_over : Tokens → Bool
is_over [] = true
is_over (x ∷ ts) = false

-- what was read, where no token is left
abbrev pub whole : {A : Type 0} → Outcome A → Option A
whole None = None
whole (Some p) = if is_over p.1 then Some p.0 else None

-- an expression that is not nested in another one
abbrev pub outer : Reader Expr
outer = λ ts. reads (length ts) most_levels f.Expr ts

abbrev pub expr_of_tokens : Tokens → Option Expr
expr_of_tokens ts = whole (outer ts)

-- the tree of a query
unfoldable pub read_expr : Text → Option Expr
read_expr bytes = if nat_le (length bytes) query_bytes then option_and_then expr_of_tokens (lexemes bytes) else None
