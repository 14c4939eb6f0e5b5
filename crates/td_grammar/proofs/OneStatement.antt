-- The laws of statements and scripts.
use Rattle.std.proofs.Common.{◌≡◌, ◌≤◌, ◌+◌, ◌↔◌, ℕ, Bool, true, false, cond, List, [], Some, None, length, nat_le, option_and_then, refl, ap, sym, ◌∙◌, subst, arith}
use Rattle.std.proofs.lemmas.Bool.{leb-true, le-leb}
use Rattle.td_tokens.specs.Lex.{Text}
use Rattle.td_tokens.specs.Lexer.{lexemes}
use Rattle.td_grammar.specs.declared.forms.Form.TheVariants as f
use Rattle.td_syntax.specs.declared.tree.Expr.{Expr}
use Rattle.td_syntax.specs.declared.script.Statement.{Statement}
use Rattle.td_syntax.specs.declared.script.Definition.{Definition}
use Rattle.td_syntax.specs.Levels.{levels}
use Rattle.td_grammar.specs.Grammar.{Tokens, most_levels, without_places}
use Rattle.td_grammar.specs.Statements.{ReadsStatement, ReadsScript, IsStatement, IsStatementIn, since, IsScript, statement_levels, definitions_levels, statement_bytes, script_bytes}
use Rattle.td_grammar.specs.ForProofs.Reader.{Outcome, reads, whole}
use Rattle.td_grammar.specs.ForProofs.StatementReader as read
use Rattle.td_grammar.specs.ForProofs.StatementReader.{statement_of_tokens, script_of_tokens, read_statement, read_statement_in, read_script}
use Rattle.td_grammar.proofs.Lexing.{reading_lexed, lexed_reading}
use Rattle.td_grammar.proofs.OneTree.{chosen, text_read, ended}
use Rattle.td_grammar.proofs.Places.{none_some}
use Rattle.td_grammar.proofs.Sound.{parts, sound}
use Rattle.td_grammar.proofs.StatementsComplete.{statement_read, script_read}
use Rattle.td_grammar.proofs.StatementsSound.{statement_sound, script_sound}
use Rattle.td_grammar.proofs.Shallow.{statement_shallow, script_shallow}

-- no token list is two statements
pub one_statement : (ts : Tokens) (s t : Statement) → ReadsStatement ts s → ReadsStatement ts t → s ≡ t
one_statement ts s t d k =
    let m = statement_levels s + statement_levels t in
    (parts s t [] [] (sym (statement_read d m (omega arith)) ∙ statement_read k m (omega arith))).0

same_scripts : (ds es : List Definition) → Some ds ≡ Some es → ds ≡ es
same_scripts ds es h = cc

-- and none is two scripts
pub one_script : (ts : Tokens) (ds es : List Definition) → ReadsScript ts ds → ReadsScript ts es → ds ≡ es
one_script ts ds es d k =
    let m = definitions_levels ds + definitions_levels es in
    same_scripts ds es (sym (script_read ts ds d m (omega arith)) ∙ script_read ts es k m (omega arith))

-- ---- texts

statement_is_read : (bytes : Text) (s : Statement) → IsStatement bytes s → read_statement bytes ≡ Some s
unfolding read_statement
statement_is_read bytes s is =
    rw (le-leb (length bytes) statement_bytes is.short) (ap (option_and_then statement_of_tokens) (reading_lexed bytes is.spans is.lexed) ∙ ap (λ (o : Outcome Statement). whole o) (statement_read is.reads most_levels is.shallow))

shallow_reads : (n b : ℕ) (ts : Tokens) (p : Expr × Tokens) → reads n b f.Expr ts ≡ Some p → levels p.0 ≤ b
shallow_reads n b ts p h = (sound n b f.Expr ts p h).1

read_is_statement : (bytes : Text) (s : Statement) → read_statement bytes ≡ Some s → IsStatement bytes s
unfolding read_statement
read_is_statement bytes s h =
    let c = text_read (length bytes) statement_bytes (lexemes bytes) statement_of_tokens s (nat_le (length bytes) statement_bytes) refl h in
    let n = length c.1.0 in
    let whole_read = ended (read.statement_at (reads n) most_levels c.1.0) s c.1.2 in
    let r = lexed_reading bytes c.1.0 c.1.1 in
    record {
      spans = r.0;
      lexed = r.1;
      reads = subst (λ ts. ReadsStatement ts s) (sym r.2) (statement_sound (reads n) most_levels (λ m g us q k. (sound n m g us q k).0) c.1.0 s whole_read);
      shallow = statement_shallow (reads n) most_levels (shallow_reads n most_levels) c.1.0 (s, []) whole_read;
      short = c.0;
    }

pub reader_decides_statements : (bytes : Text) (s : Statement) → (read_statement bytes ≡ Some s) ↔ IsStatement bytes s
reader_decides_statements bytes s = (read_is_statement bytes s, statement_is_read bytes s)

same_statements : (s t : Statement) → Some s ≡ Some t → s ≡ t
same_statements s t h = cc

kept_is : (dialect : ℕ) (bytes : Text) (t s : Statement) (b : Bool) → IsStatement bytes t → nat_le (since t) dialect ≡ b → cond b (Some t) None ≡ Some s → IsStatementIn dialect bytes s
kept_is dialect bytes t s true is e h = subst (IsStatementIn dialect bytes) (same_statements t s h) (record { reads = is; form = leb-true (since t) dialect e })
kept_is dialect bytes t s false is e h = absurd (none_some h)

read_is_in : (dialect : ℕ) (bytes : Text) (s : Statement) → read_statement_in dialect bytes ≡ Some s → IsStatementIn dialect bytes s
unfolding read_statement_in
read_is_in dialect bytes s h =
    let c = chosen (read_statement bytes) (λ (t : Statement). cond (nat_le (since t) dialect) (Some t) None) s h in
    kept_is dialect bytes c.0 s (nat_le (since c.0) dialect) (read_is_statement bytes c.0 c.1) refl c.2

in_is_read : (dialect : ℕ) (bytes : Text) (s : Statement) → IsStatementIn dialect bytes s → read_statement_in dialect bytes ≡ Some s
unfolding read_statement_in
in_is_read dialect bytes s is =
    ap (option_and_then (λ (t : Statement). cond (nat_le (since t) dialect) (Some t) None)) (statement_is_read bytes s is.reads) ∙ rw (le-leb (since s) dialect is.form) refl

pub reader_decides_in : (dialect : ℕ) (bytes : Text) (s : Statement) → (read_statement_in dialect bytes ≡ Some s) ↔ IsStatementIn dialect bytes s
reader_decides_in dialect bytes s = (read_is_in dialect bytes s, in_is_read dialect bytes s)

script_is_read : (bytes : Text) (ds : List Definition) → IsScript bytes ds → read_script bytes ≡ Some ds
unfolding read_script
script_is_read bytes ds is =
    rw (le-leb (length bytes) script_bytes is.short) (ap (option_and_then script_of_tokens) (reading_lexed bytes is.spans is.lexed) ∙ script_read (without_places is.spans) ds is.reads most_levels is.shallow)

read_is_script : (bytes : Text) (ds : List Definition) → read_script bytes ≡ Some ds → IsScript bytes ds
unfolding read_script
read_is_script bytes ds h =
    let c = text_read (length bytes) script_bytes (lexemes bytes) script_of_tokens ds (nat_le (length bytes) script_bytes) refl h in
    let n = length c.1.0 in
    let r = lexed_reading bytes c.1.0 c.1.1 in
    record {
      spans = r.0;
      lexed = r.1;
      reads = subst (λ ts. ReadsScript ts ds) (sym r.2) (script_sound (reads n) most_levels (λ m g us q k. (sound n m g us q k).0) n c.1.0 ds c.1.2);
      shallow = script_shallow (reads n) most_levels (shallow_reads n most_levels) n c.1.0 ds c.1.2;
      short = c.0;
    }

pub reader_decides_scripts : (bytes : Text) (ds : List Definition) → (read_script bytes ≡ Some ds) ↔ IsScript bytes ds
reader_decides_scripts bytes ds = (read_is_script bytes ds, script_is_read bytes ds)
