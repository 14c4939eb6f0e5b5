-- The grammar of expressions: which tokens are read as which tree. Each relation goes from a place in a list of
-- tokens, the tokens from there on, to a later place. A clause is one form: its tokens, and its parts one behind the
-- other. Where two spellings have one tree, each has a clause. Beside a form stands how it is written: words as they
-- are, other tokens in quotes, `x, ..` for one or more x with commas between, [x] for x or nothing.
use Rattle.std.specs.Prelude.{◌≡◌, ◌≤◌, ℕ, pos, length, map, Bool, true, false, List, [], ◌∷◌, Option, Some, None, if◌then◌else◌}
use Rattle.td_tokens.specs.declared.token.Word.{Word}
use Rattle.td_tokens.specs.declared.token.Word.TheVariants as w
use Rattle.td_tokens.specs.Lex.{Text, Lexeme, word, name, int, text, Spanned, IsReading}
use Rattle.td_grammar.specs.declared.forms.Form.{Form}
use Rattle.td_grammar.specs.declared.forms.Form.TheVariants as f
use Rattle.td_grammar.specs.declared.forms.Naming.{Naming}
use Rattle.td_grammar.specs.declared.forms.Naming.TheVariants as naming
use Rattle.td_syntax.specs.declared.tree.TypeExpr.{TypeExpr}
use Rattle.td_syntax.specs.declared.tree.TypeExpr.TheVariants as t
use Rattle.td_syntax.specs.declared.tree.Named.{Named}
use Rattle.td_syntax.specs.declared.tree.Attributes.{Attributes}
use Rattle.td_syntax.specs.declared.tree.Attributes.TheVariants as attributes
use Rattle.td_syntax.specs.declared.tree.Renaming.{Renaming}
use Rattle.td_syntax.specs.declared.tree.UnaryOperator.TheVariants as unary
use Rattle.td_syntax.specs.declared.tree.BinaryOperator.{BinaryOperator}
use Rattle.td_syntax.specs.declared.tree.BinaryOperator.TheVariants as binary
use Rattle.td_syntax.specs.declared.tree.Aggregate.{Aggregate}
use Rattle.td_syntax.specs.declared.tree.Aggregate.TheVariants as aggregate
use Rattle.td_syntax.specs.declared.tree.Nesting.{Nesting}
use Rattle.td_syntax.specs.declared.tree.Nesting.TheVariants as nesting
use Rattle.td_syntax.specs.declared.tree.Extension.TheVariants as extension
use Rattle.td_syntax.specs.declared.tree.SummaryTerm.{SummaryTerm}
use Rattle.td_syntax.specs.declared.tree.SummaryTerm.TheVariants as summary
use Rattle.td_syntax.specs.declared.tree.Groups.TheVariants as groups
use Rattle.td_syntax.specs.declared.tree.Expr.{Expr}
use Rattle.td_syntax.specs.declared.tree.Expr.TheVariants as e
use Rattle.td_syntax.specs.Levels.{levels}

abbrev pub Tokens : Type 0
Tokens = List Lexeme

-- ---- operators, and how tightly they bind

-- an infix operator of one word, with the number of its form
abbrev pub infix_word : Word → Option (ℕ × BinaryOperator)
infix_word w.Or = Some (1, binary.Or)
infix_word w.Xor = Some (1, binary.Xor)
infix_word w.And = Some (2, binary.And)
infix_word w.Equals = Some (4, binary.Equals)
infix_word w.Differs = Some (4, binary.Differs)
infix_word w.Less = Some (4, binary.Less)
infix_word w.Greater = Some (4, binary.Greater)
infix_word w.AtMost = Some (4, binary.AtMost)
infix_word w.AtLeast = Some (4, binary.AtLeast)
infix_word w.In = Some (4, binary.In)
infix_word w.Join = Some (5, binary.Join)
infix_word w.Union = Some (5, binary.Union)
infix_word w.Intersect = Some (5, binary.Intersect)
infix_word w.Minus = Some (5, binary.Minus)
infix_word w.Compose = Some (5, binary.Compose)
infix_word w.Matching = Some (5, binary.Matching)
infix_word w.Semijoin = Some (5, binary.Matching)
infix_word w.Semiminus = Some (5, binary.NotMatching)
infix_word w.Plus = Some (6, binary.Add)
infix_word w.Dash = Some (6, binary.Subtract)
infix_word w.Bars = Some (6, binary.Concatenate)
infix_word w.Star = Some (7, binary.Multiply)
infix_word w.Slash = Some (7, binary.Divide)
infix_word _ = None

abbrev pub Infix : Type 0
Infix = ℕ × BinaryOperator × Tokens

abbrev pub with_rest : Tokens → Option (ℕ × BinaryOperator) → Option Infix
with_rest ts None = None
with_rest ts (Some p) = Some (p.0, p.1, ts)

-- after NOT
abbrev pub not_matching : Tokens → Option Infix
not_matching (word w.Matching ∷ ts) = Some (5, binary.NotMatching, ts)
not_matching _ = None

abbrev pub infix_after : Word → Tokens → Option Infix
infix_after w.Not ts = not_matching ts
infix_after v ts = with_rest ts (infix_word v)

-- the infix operator at a place: the number of its form, the operator, and the place after it
abbrev pub infix_at : Tokens → Option Infix
infix_at (word v ∷ ts) = infix_after v ts
infix_at _ = None

abbrev pub assign_at : Tokens → Bool
assign_at (word w.Assign ∷ ts) = true
assign_at _ = false

-- a name and `:=`
abbrev pub target_at : Tokens → Bool
target_at (name x ∷ ts) = assign_at ts
target_at _ = false

-- other tokens with which an expression goes on: the number of the form that does
abbrev pub postfix : Tokens → ℕ
postfix (word w.Not ∷ ts) = 5
postfix (word w.Where ∷ ts) = 5
postfix (word w.Rename ∷ ts) = 5
postfix (word w.Group ∷ ts) = 5
postfix (word w.Wrap ∷ ts) = 5
postfix (word w.Ungroup ∷ ts) = 5
postfix (word w.Unwrap ∷ ts) = 5
postfix (word w.OpenBrace ∷ ts) = if target_at ts then 0 else 9
postfix _ = 0

abbrev pub form_number : Option Infix → ℕ → ℕ
form_number None n = n
form_number (Some p) n = p.0

-- the number of the form that goes on at a place, or 0
unfoldable pub binds : Tokens → ℕ
binds ts = form_number (infix_at ts) (postfix ts)

abbrev pub aggregate_word : Aggregate → Word
aggregate_word aggregate.Sum = w.Sum
aggregate_word aggregate.Max = w.Max
aggregate_word aggregate.Min = w.Min
aggregate_word aggregate.And = w.And
aggregate_word aggregate.Or = w.Or

abbrev pub nest_word : Nesting → Word
nest_word nesting.Group = w.Group
nest_word nesting.Wrap = w.Wrap

abbrev pub unnest_word : Nesting → Word
unnest_word nesting.Group = w.Ungroup
unnest_word nesting.Wrap = w.Unwrap

-- ---- lists, names and types

-- one or more, with commas between
pub data IsList {A : Type 0} (Item : Tokens → A → Tokens → Type 0) : Tokens → List A → Tokens → Type 0 where
  last_item : {ts r : Tokens} {x : A} → Item ts x r → IsList Item ts (x ∷ []) r
  next_item : {ts mid r : Tokens} {x : A} {xs : List A}
      → Item ts x (word w.Comma ∷ mid)
      → IsList Item mid xs r
      → IsList Item ts (x ∷ xs) r

pub data IsName : Tokens → Text → Tokens → Type 0 where
  a_name : {x : Text} {r : Tokens} → IsName (name x ∷ r) x r

-- Name AS Name
pub data IsRenaming : Tokens → Renaming → Tokens → Type 0 where
  a_renaming : {x y : Text} {r : Tokens} → IsRenaming (name x ∷ word w.As ∷ name y ∷ r) (record { from = x; to = y }) r

-- "{" [Name, ..] "}" and "{" ALL BUT [Name, ..] "}"
pub data ReadsAttributes : Tokens → Attributes → Tokens → Type 0 where
  no_names : {r : Tokens} → ReadsAttributes (word w.OpenBrace ∷ word w.CloseBrace ∷ r) (attributes.Only []) r
  names : {ts r : Tokens} {xs : List Text}
      → IsList IsName ts xs (word w.CloseBrace ∷ r)
      → ReadsAttributes (word w.OpenBrace ∷ ts) (attributes.Only xs) r
  but_none : {r : Tokens}
      → ReadsAttributes (word w.OpenBrace ∷ word w.All ∷ word w.But ∷ word w.CloseBrace ∷ r) (attributes.AllBut []) r
  but : {ts r : Tokens} {xs : List Text}
      → IsList IsName ts xs (word w.CloseBrace ∷ r)
      → ReadsAttributes (word w.OpenBrace ∷ word w.All ∷ word w.But ∷ ts) (attributes.AllBut xs) r

mutual
  pub data ReadsType : Tokens → TypeExpr → Tokens → Type 0 where
    boolean : {r : Tokens} → ReadsType (word w.Boolean ∷ r) t.Boolean r
    integer_type : {r : Tokens} → ReadsType (word w.Integer ∷ r) t.Integer r
    char : {r : Tokens} → ReadsType (word w.Char ∷ r) t.Char r
    character : {r : Tokens} → ReadsType (word w.Character ∷ r) t.Char r
    user : {x : Text} {r : Tokens} → ReadsType (name x ∷ r) (t.User x) r
    tuple_type : {ts r : Tokens} {h : List (Named TypeExpr)}
        → ReadsHeading ts h r
        → ReadsType (word w.Tuple ∷ ts) (t.Tuple h) r
    relation_type : {ts r : Tokens} {h : List (Named TypeExpr)}
        → ReadsHeading ts h r
        → ReadsType (word w.Relation ∷ ts) (t.Relation h) r

  -- "{" [Name type, ..] "}"
  pub data ReadsHeading : Tokens → List (Named TypeExpr) → Tokens → Type 0 where
    no_fields : {r : Tokens} → ReadsHeading (word w.OpenBrace ∷ word w.CloseBrace ∷ r) [] r
    fields : {ts r : Tokens} {h : List (Named TypeExpr)}
        → ReadsFields ts h (word w.CloseBrace ∷ r)
        → ReadsHeading (word w.OpenBrace ∷ ts) h r

  pub data ReadsFields : Tokens → List (Named TypeExpr) → Tokens → Type 0 where
    last_field : {x : Text} {ts r : Tokens} {a : TypeExpr}
        → ReadsType ts a r
        → ReadsFields (name x ∷ ts) (record { name = x; value = a } ∷ []) r
    next_field : {x : Text} {ts mid r : Tokens} {a : TypeExpr} {h : List (Named TypeExpr)}
        → ReadsType ts a (word w.Comma ∷ mid)
        → ReadsFields mid h r
        → ReadsFields (name x ∷ ts) (record { name = x; value = a } ∷ h) r

-- ---- expressions

mutual
  pub data Reads : Form → Tokens → Expr → Tokens → Type 0 where
    -- expression: WITH expression AS Name, .. ":" expression; WITH "(" Name ":=" expression, .. ")" ":" expression; or
    -- a disjunction, behind which no form goes on
    with_ : {ts mid r : Tokens} {xs : List (Named Expr)} {a : Expr}
        → ReadsNamedList naming.After ts xs (word w.Colon ∷ mid)
        → Reads f.Expr mid a r
        → Reads f.Expr (word w.With ∷ ts) (e.With xs a) r
    with_assigned : {ts mid r : Tokens} {xs : List (Named Expr)} {a : Expr}
        → ReadsNamedList naming.Assigned ts xs (word w.CloseParenthesis ∷ word w.Colon ∷ mid)
        → Reads f.Expr mid a r
        → Reads f.Expr (word w.With ∷ word w.OpenParenthesis ∷ ts) (e.With xs a) r
    greedy : {ts r : Tokens} {a : Expr} → Reads f.Or ts a r → binds r ≡ 0 → Reads f.Expr ts a r
    -- disjunction: a conjunction, or a disjunction, OR or XOR, and a conjunction
    one_and : {ts r : Tokens} {a : Expr} → Reads f.And ts a r → Reads f.Or ts a r
    more_or : {ts mid next r : Tokens} {o : BinaryOperator} {a b : Expr}
        → Reads f.Or ts a mid
        → infix_at mid ≡ Some (1, o, next)
        → Reads f.And next b r
        → Reads f.Or ts (e.Binary o a b) r
    -- conjunction: a negation, or a conjunction, AND and a negation
    one_not : {ts r : Tokens} {a : Expr} → Reads f.Not ts a r → Reads f.And ts a r
    more_and : {ts mid next r : Tokens} {o : BinaryOperator} {a b : Expr}
        → Reads f.And ts a mid
        → infix_at mid ≡ Some (2, o, next)
        → Reads f.Not next b r
        → Reads f.And ts (e.Binary o a b) r
    -- negation: NOT and a negation, or a comparison
    not_ : {ts r : Tokens} {a : Expr} → Reads f.Not ts a r → Reads f.Not (word w.Not ∷ ts) (e.Unary unary.Not a) r
    one_comparison : {ts r : Tokens} {a : Expr} → Reads f.Comparison ts a r → Reads f.Not ts a r
    -- comparison: a relational form, or two with "=", "<>", "<", ">", "<=", ">=" or IN between
    one_relational : {ts r : Tokens} {a : Expr} → Reads f.Relational ts a r → Reads f.Comparison ts a r
    compared : {ts mid next r : Tokens} {o : BinaryOperator} {a b : Expr}
        → Reads f.Relational ts a mid
        → infix_at mid ≡ Some (4, o, next)
        → Reads f.Relational next b r
        → Reads f.Comparison ts (e.Binary o a b) r
    -- relational form: a sum; a relational form, an operator as JOIN, and a sum; or a relational form and a postfix
    one_additive : {ts r : Tokens} {a : Expr} → Reads f.Additive ts a r → Reads f.Relational ts a r
    more_relational : {ts mid next r : Tokens} {o : BinaryOperator} {a b : Expr}
        → Reads f.Relational ts a mid
        → infix_at mid ≡ Some (5, o, next)
        → Reads f.Additive next b r
        → Reads f.Relational ts (e.Binary o a b) r
    postfixed : {ts mid r : Tokens} {a b : Expr}
        → Reads f.Relational ts a mid
        → ReadsPostfix a mid b r
        → Reads f.Relational ts b r
    -- sum: a product, or a sum, "+", "-" or "||", and a product
    one_multiplicative : {ts r : Tokens} {a : Expr} → Reads f.Multiplicative ts a r → Reads f.Additive ts a r
    more_additive : {ts mid next r : Tokens} {o : BinaryOperator} {a b : Expr}
        → Reads f.Additive ts a mid
        → infix_at mid ≡ Some (6, o, next)
        → Reads f.Multiplicative next b r
        → Reads f.Additive ts (e.Binary o a b) r
    -- product: a prefixed form, or a product, "*" or "/", and a prefixed form
    one_prefixed : {ts r : Tokens} {a : Expr} → Reads f.Prefixed ts a r → Reads f.Multiplicative ts a r
    more_multiplicative : {ts mid next r : Tokens} {o : BinaryOperator} {a b : Expr}
        → Reads f.Multiplicative ts a mid
        → infix_at mid ≡ Some (7, o, next)
        → Reads f.Prefixed next b r
        → Reads f.Multiplicative ts (e.Binary o a b) r
    -- prefixed form: "-", TCLOSE, TUPLE FROM or Name FROM, and a prefixed form; or a projection
    negated : {ts r : Tokens} {a : Expr}
        → Reads f.Prefixed ts a r
        → Reads f.Prefixed (word w.Dash ∷ ts) (e.Unary unary.Negate a) r
    closure : {ts r : Tokens} {a : Expr}
        → Reads f.Prefixed ts a r
        → Reads f.Prefixed (word w.Tclose ∷ ts) (e.Unary unary.Closure a) r
    tuple_from : {ts r : Tokens} {a : Expr}
        → Reads f.Prefixed ts a r
        → Reads f.Prefixed (word w.Tuple ∷ word w.From ∷ ts) (e.Unary unary.TupleFrom a) r
    name_from : {x : Text} {ts r : Tokens} {a : Expr}
        → Reads f.Prefixed ts a r
        → Reads f.Prefixed (name x ∷ word w.From ∷ ts) (e.From x a) r
    one_projection : {ts r : Tokens} {a : Expr} → Reads f.Projection ts a r → Reads f.Prefixed ts a r
    -- projection: a primary, or a projection and attributes
    one_primary : {ts r : Tokens} {a : Expr} → Reads f.Primary ts a r → Reads f.Projection ts a r
    project : {ts mid r : Tokens} {a : Expr} {xs : Attributes}
        → Reads f.Projection ts a mid
        → ReadsAttributes mid xs r
        → Reads f.Projection ts (e.Project a xs) r
    -- primary: a literal, a constant, a name
    integer : {n : ℕ} {r : Tokens} → Reads f.Primary (int n ∷ r) (e.Integer (pos n)) r
    characters : {s : Text} {r : Tokens} → Reads f.Primary (text s ∷ r) (e.Text s) r
    is_true : {r : Tokens} → Reads f.Primary (word w.True ∷ r) (e.Truth true) r
    is_false : {r : Tokens} → Reads f.Primary (word w.False ∷ r) (e.Truth false) r
    dee : {r : Tokens} → Reads f.Primary (word w.TableDee ∷ r) e.TableDee r
    dum : {r : Tokens} → Reads f.Primary (word w.TableDum ∷ r) e.TableDum r
    a_variable : {x : Text} {r : Tokens} → Reads f.Primary (name x ∷ r) (e.Name x) r
    -- Name "(" [expression, ..] ")"
    call_none : {x : Text} {r : Tokens}
        → Reads f.Primary (name x ∷ word w.OpenParenthesis ∷ word w.CloseParenthesis ∷ r) (e.Call x []) r
    call : {x : Text} {ts r : Tokens} {all : List Expr}
        → ReadsList ts all (word w.CloseParenthesis ∷ r)
        → Reads f.Primary (name x ∷ word w.OpenParenthesis ∷ ts) (e.Call x all) r
    -- "(" expression ")"
    brackets : {ts r : Tokens} {a : Expr}
        → Reads f.Expr ts a (word w.CloseParenthesis ∷ r)
        → Reads f.Primary (word w.OpenParenthesis ∷ ts) a r
    -- TUPLE "{" [Name expression, ..] "}"
    tuple_none : {r : Tokens} → Reads f.Primary (word w.Tuple ∷ word w.OpenBrace ∷ word w.CloseBrace ∷ r) (e.Tuple []) r
    tuple : {ts r : Tokens} {xs : List (Named Expr)}
        → ReadsNamedList naming.Beside ts xs (word w.CloseBrace ∷ r)
        → Reads f.Primary (word w.Tuple ∷ word w.OpenBrace ∷ ts) (e.Tuple xs) r
    -- RELATION "{" expression, .. "}" and RELATION heading "{" [expression, ..] "}"
    relation : {ts r : Tokens} {all : List Expr}
        → ReadsList ts all (word w.CloseBrace ∷ r)
        → Reads f.Primary (word w.Relation ∷ word w.OpenBrace ∷ ts) (e.Relation None all) r
    headed_none : {ts r : Tokens} {h : List (Named TypeExpr)}
        → ReadsHeading ts h (word w.OpenBrace ∷ word w.CloseBrace ∷ r)
        → Reads f.Primary (word w.Relation ∷ ts) (e.Relation (Some h) []) r
    headed : {ts mid r : Tokens} {h : List (Named TypeExpr)} {all : List Expr}
        → ReadsHeading ts h (word w.OpenBrace ∷ mid)
        → ReadsList mid all (word w.CloseBrace ∷ r)
        → Reads f.Primary (word w.Relation ∷ ts) (e.Relation (Some h) all) r
    -- IS_EMPTY "(" expression ")" and COUNT "(" expression ")"
    is_empty : {ts r : Tokens} {a : Expr}
        → Reads f.Expr ts a (word w.CloseParenthesis ∷ r)
        → Reads f.Primary (word w.IsEmpty ∷ word w.OpenParenthesis ∷ ts) (e.Unary unary.IsEmpty a) r
    count : {ts r : Tokens} {a : Expr}
        → Reads f.Expr ts a (word w.CloseParenthesis ∷ r)
        → Reads f.Primary (word w.Count ∷ word w.OpenParenthesis ∷ ts) (e.Unary unary.Count a) r
    -- SUM, MAX, MIN, AND or OR, and "(" expression ["," expression] ")"
    aggregate_all : {g : Aggregate} {ts r : Tokens} {a : Expr}
        → Reads f.Expr ts a (word w.CloseParenthesis ∷ r)
        → Reads f.Primary (word (aggregate_word g) ∷ word w.OpenParenthesis ∷ ts) (e.Aggregate g a None) r
    aggregate_of : {g : Aggregate} {ts mid r : Tokens} {a b : Expr}
        → Reads f.Expr ts a (word w.Comma ∷ mid)
        → Reads f.Expr mid b (word w.CloseParenthesis ∷ r)
        → Reads f.Primary (word (aggregate_word g) ∷ word w.OpenParenthesis ∷ ts) (e.Aggregate g a (Some b)) r
    -- IF expression THEN expression ELSE expression END IF
    choice : {ts second third r : Tokens} {a b c : Expr}
        → Reads f.Expr ts a (word w.Then ∷ second)
        → Reads f.Expr second b (word w.Else ∷ third)
        → Reads f.Expr third c (word w.End ∷ word w.If ∷ r)
        → Reads f.Primary (word w.If ∷ ts) (e.If a b c) r
    -- EXTEND expression ADD "(" expression AS Name, .. ")" and EXTEND expression ":" "{" Name ":=" expression, .. "}"
    extend : {ts mid r : Tokens} {a : Expr} {xs : List (Named Expr)}
        → Reads f.Expr ts a (word w.Add ∷ word w.OpenParenthesis ∷ mid)
        → ReadsNamedList naming.After mid xs (word w.CloseParenthesis ∷ r)
        → Reads f.Primary (word w.Extend ∷ ts) (e.Extend extension.Add a xs) r
    extend_assigned : {ts mid r : Tokens} {a : Expr} {xs : List (Named Expr)}
        → Reads f.Expr ts a (word w.Colon ∷ word w.OpenBrace ∷ mid)
        → ReadsNamedList naming.Assigned mid xs (word w.CloseBrace ∷ r)
        → Reads f.Primary (word w.Extend ∷ ts) (e.Extend extension.Assign a xs) r
    -- SUMMARIZE expression summaries, with PER expression or BY attributes between
    summarize : {ts mid r : Tokens} {a : Expr} {xs : List (Named (SummaryTerm Expr))}
        → Reads f.Expr ts a mid
        → ReadsSummaries mid xs r
        → Reads f.Primary (word w.Summarize ∷ ts) (e.Summarize a groups.Whole xs) r
    summarize_per : {ts mid next r : Tokens} {a b : Expr} {xs : List (Named (SummaryTerm Expr))}
        → Reads f.Expr ts a (word w.Per ∷ mid)
        → Reads f.Expr mid b next
        → ReadsSummaries next xs r
        → Reads f.Primary (word w.Summarize ∷ ts) (e.Summarize a (groups.Per b) xs) r
    summarize_by : {ts mid next r : Tokens} {a : Expr} {ys : Attributes} {xs : List (Named (SummaryTerm Expr))}
        → Reads f.Expr ts a (word w.By ∷ mid)
        → ReadsAttributes mid ys next
        → ReadsSummaries next xs r
        → Reads f.Primary (word w.Summarize ∷ ts) (e.Summarize a (groups.By ys) xs) r

  -- what a postfix makes of a tree
  pub data ReadsPostfix : Expr → Tokens → Expr → Tokens → Type 0 where
    -- WHERE expression
    where_ : {a : Expr} {ts r : Tokens} {b : Expr}
        → Reads f.Expr ts b r
        → ReadsPostfix a (word w.Where ∷ ts) (e.Where a b) r
    -- RENAME "(" Name AS Name, .. ")" and RENAME "{" Name AS Name, .. "}"
    rename : {a : Expr} {ts r : Tokens} {xs : List Renaming}
        → IsList IsRenaming ts xs (word w.CloseParenthesis ∷ r)
        → ReadsPostfix a (word w.Rename ∷ word w.OpenParenthesis ∷ ts) (e.Rename a xs) r
    rename_braces : {a : Expr} {ts r : Tokens} {xs : List Renaming}
        → IsList IsRenaming ts xs (word w.CloseBrace ∷ r)
        → ReadsPostfix a (word w.Rename ∷ word w.OpenBrace ∷ ts) (e.Rename a xs) r
    -- GROUP or WRAP, and attributes AS Name or "(" attributes AS Name ")"
    nest : {a : Expr} {g : Nesting} {x : Text} {ts r : Tokens} {xs : Attributes}
        → ReadsAttributes ts xs (word w.As ∷ name x ∷ r)
        → ReadsPostfix a (word (nest_word g) ∷ ts) (e.Nest g a xs x) r
    nest_brackets : {a : Expr} {g : Nesting} {x : Text} {ts r : Tokens} {xs : Attributes}
        → ReadsAttributes ts xs (word w.As ∷ name x ∷ word w.CloseParenthesis ∷ r)
        → ReadsPostfix a (word (nest_word g) ∷ word w.OpenParenthesis ∷ ts) (e.Nest g a xs x) r
    -- UNGROUP or UNWRAP, and Name or "(" Name ")"
    unnest : {a : Expr} {g : Nesting} {x : Text} {r : Tokens}
        → ReadsPostfix a (word (unnest_word g) ∷ name x ∷ r) (e.Unnest g a x) r
    unnest_brackets : {a : Expr} {g : Nesting} {x : Text} {r : Tokens}
        → ReadsPostfix a
        (word (unnest_word g) ∷ word w.OpenParenthesis ∷ name x ∷ word w.CloseParenthesis ∷ r) (e.Unnest g a x) r

  -- expression, ..
  pub data ReadsList : Tokens → List Expr → Tokens → Type 0 where
    last_expr : {ts r : Tokens} {a : Expr} → Reads f.Expr ts a r → ReadsList ts (a ∷ []) r
    next_expr : {ts mid r : Tokens} {a : Expr} {all : List Expr}
        → Reads f.Expr ts a (word w.Comma ∷ mid)
        → ReadsList mid all r
        → ReadsList ts (a ∷ all) r

  -- an expression with a name: expression AS Name, Name ":=" expression, or Name expression
  pub data ReadsNamed : Naming → Tokens → Named Expr → Tokens → Type 0 where
    name_after : {x : Text} {ts r : Tokens} {a : Expr}
        → Reads f.Expr ts a (word w.As ∷ name x ∷ r)
        → ReadsNamed naming.After ts (record { name = x; value = a }) r
    name_assigned : {x : Text} {ts r : Tokens} {a : Expr}
        → Reads f.Expr ts a r
        → ReadsNamed naming.Assigned (name x ∷ word w.Assign ∷ ts) (record { name = x; value = a }) r
    name_beside : {x : Text} {ts r : Tokens} {a : Expr}
        → Reads f.Expr ts a r
        → ReadsNamed naming.Beside (name x ∷ ts) (record { name = x; value = a }) r

  pub data ReadsNamedList : Naming → Tokens → List (Named Expr) → Tokens → Type 0 where
    last_named : {k : Naming} {ts r : Tokens} {x : Named Expr} → ReadsNamed k ts x r → ReadsNamedList k ts (x ∷ []) r
    next_named : {k : Naming} {ts mid r : Tokens} {x : Named Expr} {xs : List (Named Expr)}
        → ReadsNamed k ts x (word w.Comma ∷ mid)
        → ReadsNamedList k mid xs r
        → ReadsNamedList k ts (x ∷ xs) r

  -- COUNT, COUNT "(" ")", and SUM, MAX, MIN, AND or OR with "(" expression ")"
  pub data ReadsSummary : Tokens → SummaryTerm Expr → Tokens → Type 0 where
    count_group : {r : Tokens} → ReadsSummary (word w.Count ∷ r) summary.Count r
    count_brackets : {r : Tokens}
        → ReadsSummary (word w.Count ∷ word w.OpenParenthesis ∷ word w.CloseParenthesis ∷ r) summary.Count r
    summary_of : {g : Aggregate} {ts r : Tokens} {a : Expr}
        → Reads f.Expr ts a (word w.CloseParenthesis ∷ r)
        → ReadsSummary (word (aggregate_word g) ∷ word w.OpenParenthesis ∷ ts) (summary.Of g a) r

  -- summary AS Name, or Name ":=" summary
  pub data ReadsNamedSummary : Naming → Tokens → Named (SummaryTerm Expr) → Tokens → Type 0 where
    summary_after : {x : Text} {ts r : Tokens} {s : SummaryTerm Expr}
        → ReadsSummary ts s (word w.As ∷ name x ∷ r)
        → ReadsNamedSummary naming.After ts (record { name = x; value = s }) r
    summary_assigned : {x : Text} {ts r : Tokens} {s : SummaryTerm Expr}
        → ReadsSummary ts s r
        → ReadsNamedSummary naming.Assigned (name x ∷ word w.Assign ∷ ts) (record { name = x; value = s }) r

  pub data ReadsSummaryList : Naming → Tokens → List (Named (SummaryTerm Expr)) → Tokens → Type 0 where
    last_summary : {k : Naming} {ts r : Tokens} {x : Named (SummaryTerm Expr)}
        → ReadsNamedSummary k ts x r
        → ReadsSummaryList k ts (x ∷ []) r
    next_summary : {k : Naming} {ts mid r : Tokens} {x : Named (SummaryTerm Expr)} {xs : List (Named (SummaryTerm Expr))}
        → ReadsNamedSummary k ts x (word w.Comma ∷ mid)
        → ReadsSummaryList k mid xs r
        → ReadsSummaryList k ts (x ∷ xs) r

  -- summaries: ADD "(" summary AS Name, .. ")", or ":" "{" Name ":=" summary, .. "}"
  pub data ReadsSummaries : Tokens → List (Named (SummaryTerm Expr)) → Tokens → Type 0 where
    summaries : {ts r : Tokens} {xs : List (Named (SummaryTerm Expr))}
        → ReadsSummaryList naming.After ts xs (word w.CloseParenthesis ∷ r)
        → ReadsSummaries (word w.Add ∷ word w.OpenParenthesis ∷ ts) xs r
    summaries_assigned : {ts r : Tokens} {xs : List (Named (SummaryTerm Expr))}
        → ReadsSummaryList naming.Assigned ts xs (word w.CloseBrace ∷ r)
        → ReadsSummaries (word w.Colon ∷ word w.OpenBrace ∷ ts) xs r

-- ---- texts

abbrev pub most_levels : ℕ
most_levels = 256

abbrev pub query_bytes : ℕ
query_bytes = 8192

-- the tokens are this expression, which is not too deep
pub record IsExpr (ts : Tokens) (a : Expr) : Type 0 where
  pub reads : Reads f.Expr ts a []
  pub shallow : levels a ≤ most_levels

-- tokens without their places in the text
abbrev pub without_places : List Spanned → Tokens
without_places spans = map (λ (t : Spanned). t.lexeme) spans

-- the text is this expression, and not too long
pub record IsQuery (bytes : Text) (a : Expr) : Type 0 where
  pub spans : List Spanned
  pub lexed : IsReading bytes spans
  pub tree : IsExpr (without_places spans) a
  pub short : length bytes ≤ query_bytes
