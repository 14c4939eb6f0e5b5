-- The laws of expressions.
use Rattle.std.proofs.Common.{◌≡◌, ◌≤◌, ◌+◌, ◌↔◌, ℕ, Bool, true, false, cond, [], ◌∷◌, Option, Some, None, length, refl, ap, sym, ◌∙◌, subst, arith, nat_le, option_and_then}
use Rattle.std.proofs.lemmas.Bool.{leb-true, le-leb}
use Rattle.td_tokens.specs.Lex.{Text}
use Rattle.td_tokens.specs.Lexer.{lexemes}
use Rattle.td_grammar.specs.declared.forms.Form.TheVariants as f
use Rattle.td_syntax.specs.declared.tree.Expr.{Expr}
use Rattle.td_syntax.specs.Levels.{levels}
use Rattle.td_grammar.specs.Grammar.{Tokens, Reads, IsExpr, IsQuery, most_levels, query_bytes, without_places}
use Rattle.td_grammar.specs.ForProofs.Reader.{Outcome, reads, whole, outer, expr_of_tokens, read_expr}
use Rattle.td_grammar.proofs.Places.{none_some}
use Rattle.td_grammar.proofs.Complete.{read_nested}
use Rattle.td_grammar.proofs.Lexing.{reading_lexed, lexed_reading}
use Rattle.td_grammar.proofs.Sound.{parts, sound}

pub read_whole : (ts : Tokens) (a : Expr) (b : ℕ) → Reads f.Expr ts a [] → levels a ≤ b → reads (length ts) b f.Expr ts ≡ Some (a, [])
read_whole ts a b d lv = read_nested d (length ts) b (omega arith) lv refl

-- no token list has two trees
pub one_expr : (ts : Tokens) (a b : Expr) → Reads f.Expr ts a [] → Reads f.Expr ts b [] → a ≡ b
one_expr ts a b d e =
    let m = levels a + levels b in
    (parts a b [] [] (sym (read_whole ts a m d (omega arith)) ∙ read_whole ts b m e (omega arith))).0

-- ---- texts

pub chosen : {A B : Type 0} (o : Option A) (g : A → Option B) (x : B) → option_and_then g o ≡ Some x → (a : A) × (o ≡ Some a) × (g a ≡ Some x)
chosen None g x h = absurd (none_some h)
chosen (Some a) g x h = (a, refl, h)

-- a text of no more bytes than the limit, and what is read of its tokens
pub text_read : {A : Type 0} (n limit : ℕ) (o : Option Tokens) (g : Tokens → Option A) (x : A) (b : Bool) → nat_le n limit ≡ b → cond b (option_and_then g o) None ≡ Some x → (n ≤ limit) × ((ts : Tokens) × (o ≡ Some ts) × (g ts ≡ Some x))
text_read n limit o g x false test h = absurd (none_some h)
text_read n limit o g x true test h = (leb-true n limit test, chosen o g x h)

ended_by : {A : Type 0} (a : A) (ts : Tokens) (x : A) → whole (Some (a, ts)) ≡ Some x → ◌≡◌ {A = Outcome A} (Some (a, ts)) (Some (x, []))
ended_by a [] x h = ap (λ (o : Option _). option_and_then (λ y. Some (y, [])) o) h
ended_by a (t ∷ ts) x h = absurd (none_some h)

pub ended : {A : Type 0} (o : Outcome A) (x : A) → whole o ≡ Some x → ◌≡◌ {A = Outcome A} o (Some (x, []))
ended None x h = absurd (none_some h)
ended (Some p) x h = ended_by p.0 p.1 x h

pub expr_is_read : (ts : Tokens) (a : Expr) → IsExpr ts a → expr_of_tokens ts ≡ Some a
expr_is_read ts a is = ap (λ (o : Outcome Expr). whole o) (read_whole ts a most_levels is.reads is.shallow)

pub read_is_expr : (ts : Tokens) (a : Expr) → expr_of_tokens ts ≡ Some a → IsExpr ts a
read_is_expr ts a h =
    let s = sound (length ts) most_levels f.Expr ts (a, []) (ended (outer ts) a h) in
    record { reads = s.0; shallow = s.1 }

query_is_read : (bytes : Text) (a : Expr) → IsQuery bytes a → read_expr bytes ≡ Some a
unfolding read_expr
query_is_read bytes a is = rw (le-leb (length bytes) query_bytes is.short) (ap (option_and_then expr_of_tokens) (reading_lexed bytes is.spans is.lexed) ∙ expr_is_read (without_places is.spans) a is.tree)

read_is_query : (bytes : Text) (a : Expr) → read_expr bytes ≡ Some a → IsQuery bytes a
unfolding read_expr
read_is_query bytes a h =
    let c = text_read (length bytes) query_bytes (lexemes bytes) expr_of_tokens a (nat_le (length bytes) query_bytes) refl h in
    let r = lexed_reading bytes c.1.0 c.1.1 in
    record { spans = r.0; lexed = r.1; tree = subst (λ ts. IsExpr ts a) (sym r.2) (read_is_expr c.1.0 a c.1.2); short = c.0 }

pub reader_decides_queries : (bytes : Text) (a : Expr) → (read_expr bytes ≡ Some a) ↔ IsQuery bytes a
reader_decides_queries bytes a = (read_is_query bytes a, query_is_read bytes a)
