-- What a function that reads ensures.
use Rattle.std.specs.Prelude.{◌≡◌, ℕ, Bool, true, Option, Some, None, Result, Ok, Err, map, nat_le}
use Rattle.std.specs.Global.{Vec}
use Rattle.std.specs.declared.alloc.Global.{Global}
use denote.Ref.{MutBor}
use Rattle.td_values.specs.Names.{is_name}
use Rattle.td_tokens.specs.Lex.{Lexeme, name, int, largest_int}
use Rattle.td_tokens.specs.declared.token.Token.{Token}
use Rattle.td_tokens.specs.View.{lexeme_of}
use Rattle.td_grammar.specs.declared.error.ReadError.{ReadError}
use Rattle.td_grammar.specs.declared.error.ReadError.TheVariants.{Syntax, OutOfMemory}
use Rattle.td_grammar.specs.declared.forms.Form.{Form}
use Rattle.td_syntax.specs.declared.tree.Expr.{Expr}
use Rattle.td_syntax.specs.declared.tree.TypeExpr.{TypeExpr}
use Rattle.td_grammar.specs.Grammar.{Tokens}
use Rattle.td_grammar.specs.ForProofs.Reader.{Outcome, Reader, reads, type_at}

-- a name has a name's shape, and an integer is in range
abbrev pub fits : Lexeme → Bool
fits (name n) = is_name n
fits (int n) = nat_le n largest_int
fits _ = true

-- nothing is read, unless memory ran out
abbrev pub Fails : {A : Type 0} → ReadError → Option A → Type 0
Fails OutOfMemory o = Unit {0}
Fails Syntax o = o ≡ None

-- the outcome, and the place after it
abbrev pub Gives : {A : Type 0} → Outcome A → Result A ReadError → Tokens → Type 0
Gives o (Ok a) new = o ≡ Some (a, new)
Gives o (Err e) new = Fails e o

-- the outcome
abbrev pub Tells : {A : Type 0} → Option A → Result A ReadError → Type 0
Tells o (Ok a) = o ≡ Some a
Tells o (Err e) = Fails e o

-- the lexemes of tokens
abbrev pub lexemes_of : Vec Token → Tokens
lexemes_of ts = map lexeme_of ts.items

-- the tokens of a text
abbrev pub Lexes : Option Tokens → Result (Vec Token) ReadError → Type 0
Lexes o (Ok ts) = o ≡ Some (lexemes_of ts)
Lexes o (Err e) = Fails e o

-- a function value that reads types nested so deep
pub record NestsTypes (n : ℕ) (pre : Global → MutBor Tokens → ℕ → Type 0)
    (post : Global → MutBor Tokens → ℕ → Result TypeExpr ReadError → MutBor Tokens → Type 0) : Type 0 where
  pub callable : (alloc : Global) (old : MutBor Tokens) → pre alloc old n
  pub gives : (alloc : Global) (old new : MutBor Tokens) (r : Result TypeExpr ReadError) → post alloc old n r new → Gives (type_at n old.now) r new.now

-- a function value that reads expressions nested so deep, with any number of levels
pub record Nests (n : ℕ) (pre : Global → MutBor Tokens → ℕ → ℕ → Form → Type 0)
    (post : Global → MutBor Tokens → ℕ → ℕ → Form → Result Expr ReadError → MutBor Tokens → Type 0) : Type 0 where
  pub callable : (alloc : Global) (old : MutBor Tokens) (b : ℕ) (g : Form) → pre alloc old n b g
  pub gives : (alloc : Global) (old new : MutBor Tokens) (b : ℕ) (g : Form) (r : Result Expr ReadError) → post alloc old n b g r new → Gives (reads n b g old.now) r new.now

-- what a function value gives is what the reader reads
abbrev pub Follows : {A : Type 0} → Reader A → (MutBor Tokens → Result A ReadError → MutBor Tokens → Type 0) → Type 0
Follows {A = A} at post = (old new : MutBor Tokens) (r : Result A ReadError) → post old r new → Gives (at old.now) r new.now

-- what a function value makes of a tree is what the reader makes of it
abbrev pub GoesOn : (Expr → Reader Expr) → (MutBor Tokens → Expr → Result Expr ReadError → MutBor Tokens → Type 0) → Type 0
GoesOn turn post = (old new : MutBor Tokens) (left : Expr) (r : Result Expr ReadError) → post old left r new → Gives (turn left old.now) r new.now
