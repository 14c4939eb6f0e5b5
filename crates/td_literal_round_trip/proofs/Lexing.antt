-- The text of a literal is read as its tokens.
use Rattle.std.proofs.Common.{◌≡◌, ◌≤◌, ℕ, ℤ, pos, negsuc, suc, Bool, true, false, if◌then◌else◌, List, [], ◌∷◌, ◌++◌, codes, decimal, nat_abs, Some, refl, sym, ◌∙◌, subst, arith, append_assoc}
use Rattle.std.specs.Fmt.{signed_decimal}
use Rattle.std.specs.Ordering.{int_eq}
use Rattle.std.proofs.lemmas.Bool.Decides.{nat_tests}
use Rattle.td_values.specs.Data.{Ty, boolean_type, integer_type, char_type, user_type, tuple_type, relation_type, Fields, no_fields, field, Datum, boolean, integer, char, user, tuple, relation, Items, no_items, item, Attrs, no_attrs, attr, Tuples, no_tuples, next_tuple}
use Rattle.td_values.specs.Shown.{enclosed, shown_type, shown_fields, shown, shown_items, shown_attrs, shown_tuples}
use Rattle.td_values.specs.Shown as texts
use Rattle.td_values.proofs.Shows.{followed_by, first_of}
use Rattle.td_tokens.specs.declared.token.Word.{Word}
use Rattle.td_tokens.specs.declared.token.Word.TheVariants as w
use Rattle.td_tokens.specs.Lex.{Text, word, name, int, keyword_of, largest_int}
use Rattle.td_algebra.specs.Summaries.{in_64_bits}
use Rattle.td_grammar.specs.Grammar.{Tokens}
use Rattle.td_schema.specs.Schemas.{SchemaData}
use Rattle.td_meaning.specs.Mean.{Selection}
use Rattle.td_literal_round_trip.specs.Literals.{IsPlainName, IsDefined, AreDefined, IsWritten, AreWritten, AreWrittenAttributes, AreWrittenTuples}
use Rattle.td_literal_round_trip.proofs.Pieces.{Lexes, IsApart, past_blank, past_comma, past_dash, past_open_parenthesis, past_close_parenthesis, past_open_brace, past_close_brace, past_keyword, past_name, past_digits, past_decimal, past_quoted}
use Rattle.td_literal_round_trip.proofs.Tokens.{Part, listed, further, braced, bracketed, type_tokens, field_parts, truth_tokens, least_tokens, signed_tokens, tokens, item_parts, attr_parts, tuple_parts}

-- the text is this part, wherever neither a run nor a text literal goes on
abbrev pub Stands : Text → Part → Type 0
Stands t p = (rest : Text) (r : Tokens) → IsApart rest → Lexes rest r → Lexes (t ++ rest) (p r)

abbrev AllStand : List Text → List Part → Type 0
AllStand [] [] = Unit {0}
AllStand [] (p ∷ ps) = ⊥
AllStand (t ∷ ts) [] = ⊥
AllStand (t ∷ ts) (p ∷ ps) = Stands t p × AllStand ts ps

apart_blank : (rest : Text) → IsApart (32 ∷ rest)
apart_blank rest = record { no_run = refl; no_quote = refl }

apart_further : (right : Text) (ts : List Text) (rest : Text) → IsApart (followed_by right ts ++ rest)
apart_further right [] rest = record { no_run = refl; no_quote = refl }
apart_further right (t ∷ ts) rest = record { no_run = refl; no_quote = refl }

-- ---- parts between brackets
module _ (left right : ℕ) (before after : Word) (opens : (rest : Text) (r : Tokens) → Lexes rest r → Lexes (left ∷ rest) (word before ∷ r)) (closes : (rest : Text) (r : Tokens) → Lexes rest r → Lexes (right ∷ rest) (word after ∷ r)) where
  first_lexed : (t : Text) (p : Part) (ts : List Text) (ps : List Part) → Stands t p → (rest : Text) (r : Tokens) → Lexes (followed_by (right ∷ []) ts ++ rest) (further ps r) → Lexes ((t ++ followed_by (right ∷ []) ts) ++ rest) (p (further ps r))
  first_lexed t p ts ps stands rest r more =
      let behind = followed_by (right ∷ []) ts in
      subst (λ bs. Lexes bs (p (further ps r))) (sym (append_assoc t behind rest)) (stands (behind ++ rest) (further ps r) (apart_further (right ∷ []) ts rest) more)

  further_lexed : (ts : List Text) (ps : List Part) → AllStand ts ps → (rest : Text) (r : Tokens) → Lexes rest r → Lexes (followed_by (right ∷ []) ts ++ rest) (further ps (word after ∷ r))
  further_lexed [] [] all rest r more = past_blank (right ∷ rest) (word after ∷ r) (closes rest r more)
  further_lexed [] (p ∷ ps) all rest r more = absurd all
  further_lexed (t ∷ ts) [] all rest r more = absurd all
  further_lexed (t ∷ ts) (p ∷ ps) all rest r more =
      let one : Text = (t ++ followed_by (right ∷ []) ts) ++ rest in
      let is : Tokens = p (further ps (word after ∷ r)) in
      past_comma (32 ∷ one) is (past_blank one is (first_lexed t p ts ps all.0 rest (word after ∷ r) (further_lexed ts ps all.1 rest r more)))

  enclosed_lexed : (ts : List Text) (ps : List Part) → AllStand ts ps → (rest : Text) (r : Tokens) → Lexes rest r → Lexes (enclosed (left ∷ []) (right ∷ []) ts ++ rest) (word before ∷ listed ps (word after ∷ r))
  enclosed_lexed [] [] all rest r more = opens (32 ∷ right ∷ rest) (word after ∷ r) (past_blank (right ∷ rest) (word after ∷ r) (closes rest r more))
  enclosed_lexed [] (p ∷ ps) all rest r more = absurd all
  enclosed_lexed (t ∷ ts) [] all rest r more = absurd all
  enclosed_lexed (t ∷ ts) (p ∷ ps) all rest r more =
      let one : Text = (t ++ followed_by (right ∷ []) ts) ++ rest in
      let is : Tokens = p (further ps (word after ∷ r)) in
      subst (λ bs. Lexes (bs ++ rest) (word before ∷ is)) (first_of [] (left ∷ []) (right ∷ []) t ts (t ∷ ts) refl)
      (opens (32 ∷ one) is (past_blank one is (first_lexed t p ts ps all.0 rest (word after ∷ r) (further_lexed ts ps all.1 rest r more))))

braces : (ts : List Text) (ps : List Part) → AllStand ts ps → (rest : Text) (r : Tokens) → Lexes rest r → Lexes (texts.braced ts ++ rest) (braced ps r)
braces = enclosed_lexed 123 125 w.OpenBrace w.CloseBrace (λ rest r more. past_open_brace rest r more) (λ rest r more. past_close_brace rest r more)

parentheses : (ts : List Text) (ps : List Part) → AllStand ts ps → (rest : Text) (r : Tokens) → Lexes rest r → Lexes (enclosed (codes "(") (codes ")") ts ++ rest) (bracketed ps r)
parentheses = enclosed_lexed 40 41 w.OpenParenthesis w.CloseParenthesis (λ rest r more. past_open_parenthesis rest r more) (λ rest r more. past_close_parenthesis rest r more)

-- a name and what stands beside it
named : (n t : Text) (p : Part) → IsPlainName n → Stands t p → Stands (n ++ codes " " ++ t) (λ r. name n ∷ p r)
named n t p is stands rest r apart more =
    subst (λ bs. Lexes bs (name n ∷ p r)) (sym (append_assoc (n ++ codes " ") t rest ∙ append_assoc n (codes " ") (t ++ rest)))
    (past_name n (32 ∷ (t ++ rest)) (p r) is (apart_blank (t ++ rest)) (past_blank (t ++ rest) (p r) (stands rest r apart more)))

-- ---- keywords
true_word : keyword_of (codes "TRUE") ≡ Some w.True
unfolding keyword_of
true_word = refl

false_word : keyword_of (codes "FALSE") ≡ Some w.False
unfolding keyword_of
false_word = refl

boolean_word : keyword_of (codes "BOOLEAN") ≡ Some w.Boolean
unfolding keyword_of
boolean_word = refl

integer_word : keyword_of (codes "INTEGER") ≡ Some w.Integer
unfolding keyword_of
integer_word = refl

char_word : keyword_of (codes "CHAR") ≡ Some w.Char
unfolding keyword_of
char_word = refl

tuple_word : keyword_of (codes "TUPLE") ≡ Some w.Tuple
unfolding keyword_of
tuple_word = refl

relation_word : keyword_of (codes "RELATION") ≡ Some w.Relation
unfolding keyword_of
relation_word = refl

-- TUPLE and RELATION in front of braces
tuple_stands : (ts : List Text) (ps : List Part) → AllStand ts ps → (rest : Text) (r : Tokens) → Lexes rest r → Lexes (codes "TUPLE " ++ texts.braced ts ++ rest) (word w.Tuple ∷ braced ps r)
tuple_stands ts ps all rest r more =
    let inner : Text = texts.braced ts ++ rest in
    past_keyword 84 (codes "UPLE") (32 ∷ inner) w.Tuple (braced ps r) refl refl tuple_word (apart_blank inner) (past_blank inner (braced ps r) (braces ts ps all rest r more))

relation_stands : (ts : List Text) (ps : List Part) → AllStand ts ps → (rest : Text) (r : Tokens) → Lexes rest r → Lexes (codes "RELATION " ++ texts.braced ts ++ rest) (word w.Relation ∷ braced ps r)
relation_stands ts ps all rest r more =
    let inner : Text = texts.braced ts ++ rest in
    past_keyword 82 (codes "ELATION") (32 ∷ inner) w.Relation (braced ps r) refl refl relation_word (apart_blank inner) (past_blank inner (braced ps r) (braces ts ps all rest r more))

-- ---- types
module _ (s : SchemaData) where
  mutual
    type_stands : (ty : Ty) → IsDefined s ty → Stands (shown_type ty) (type_tokens ty)
    type_stands boolean_type is rest r apart more = past_keyword 66 (codes "OOLEAN") rest w.Boolean r refl refl boolean_word apart more
    type_stands integer_type is rest r apart more = past_keyword 73 (codes "NTEGER") rest w.Integer r refl refl integer_word apart more
    type_stands char_type is rest r apart more = past_keyword 67 (codes "HAR") rest w.Char r refl refl char_word apart more
    type_stands (user_type n) is rest r apart more = past_name n rest r is.0 apart more
    type_stands (tuple_type fs) is rest r apart more = tuple_stands (shown_fields fs) (field_parts fs) (fields_stand fs is.1) rest r more
    type_stands (relation_type fs) is rest r apart more = relation_stands (shown_fields fs) (field_parts fs) (fields_stand fs is.1) rest r more

    fields_stand : (fs : Fields) → AreDefined s fs → AllStand (shown_fields fs) (field_parts fs)
    fields_stand no_fields are = tt
    fields_stand (field n ty fs) are = (named n (shown_type ty) (type_tokens ty) are.0 (type_stands ty are.1), fields_stand fs are.2)

-- ---- integers
least_stands : Stands (codes "(-9223372036854775807 - 1)") least_tokens
least_stands rest r apart more =
    let last : Lexes (codes "1)" ++ rest) (int 1 ∷ word w.CloseParenthesis ∷ r) =
    past_digits (codes "1") (41 ∷ rest) 1 (word w.CloseParenthesis ∷ r) (omega arith, refl, refl) (omega arith) (record { no_run = refl; no_quote = refl }) (past_close_parenthesis rest r more) in
    let second = past_blank _ _ (past_dash _ _ (past_blank _ _ last)) in
    let first = past_digits (codes "9223372036854775807") (codes " - 1)" ++ rest) 9223372036854775807 (word w.Dash ∷ int 1 ∷ word w.CloseParenthesis ∷ r) (omega arith, refl, refl) (omega arith) (apart_blank (codes "- 1)" ++ rest)) second in
    past_open_parenthesis _ _ (past_dash _ _ first)

-- ---- values
truth_stands : (b : Bool) → Stands (shown (boolean b)) (truth_tokens b)
truth_stands true rest r apart more = past_keyword 84 (codes "RUE") rest w.True r refl refl true_word apart more
truth_stands false rest r apart more = past_keyword 70 (codes "ALSE") rest w.False r refl refl false_word apart more

bounds : (n : ℤ) → in_64_bits n ≡ true → int_eq n (negsuc 9223372036854775807) ≡ false → nat_abs n ≤ largest_int
bounds (pos n) small other = grind (arith, nat_tests)
bounds (negsuc n) small other = grind (arith, nat_tests)

signed_stands : (n : ℤ) → nat_abs n ≤ largest_int → Stands (signed_decimal n) (signed_tokens n)
signed_stands (pos n) small rest r apart more = past_decimal n rest r small apart more
signed_stands (negsuc n) small rest r apart more = past_dash (decimal (suc n) ++ rest) (int (suc n) ∷ r) (past_decimal (suc n) rest r small apart more)

integer_by : (b : Bool) (n : ℤ) → int_eq n (negsuc 9223372036854775807) ≡ b → in_64_bits n ≡ true → Stands (if b then codes "(-9223372036854775807 - 1)" else signed_decimal n) (if b then least_tokens else signed_tokens n)
integer_by true n is small = least_stands
integer_by false n is small = signed_stands n (bounds n small is)

module _ (s : SchemaData) (selection : Selection) where
  mutual
    pub stands : (d : Datum) → IsWritten s selection d → Stands (shown d) (tokens d)
    stands (boolean b) o rest r apart more = truth_stands b rest r apart more
    stands (integer n) o rest r apart more = integer_by (int_eq n (negsuc 9223372036854775807)) n refl o rest r apart more
    stands (char x) o rest r apart more = past_quoted x rest r o apart more
    stands (user p is) o rest r apart more =
        let ts = shown_items is in
        let inner : Text = enclosed (codes "(") (codes ")") ts ++ rest in
        let own : Tokens = bracketed (item_parts is) r in
        subst (λ bs. Lexes bs (name p.name ∷ own)) (sym (append_assoc (p.name ++ codes " ") (enclosed (codes "(") (codes ")") ts) rest ∙ append_assoc p.name (codes " ") inner))
        (past_name p.name (32 ∷ inner) own o.0 (apart_blank inner) (past_blank inner own (parentheses ts (item_parts is) (items_stand is o.2) rest r more)))
    stands (tuple x) o rest r apart more = tuple_stands (shown_attrs x) (attr_parts x) (attrs_stand x o) rest r more
    stands (relation fs ts) o rest r apart more =
        let front : Text = codes "RELATION " ++ texts.braced (shown_fields fs) in
        let rows : Text = texts.braced (shown_tuples ts) in
        let own : Tokens = braced (tuple_parts ts) r in
        subst (λ bs. Lexes bs (word w.Relation ∷ braced (field_parts fs) own)) (sym (append_assoc (front ++ codes " ") rows rest ∙ append_assoc front (codes " ") (rows ++ rest)))
        (relation_stands (shown_fields fs) (field_parts fs) (fields_stand s fs o.0) (32 ∷ (rows ++ rest)) own (past_blank (rows ++ rest) own (braces (shown_tuples ts) (tuple_parts ts) (tuples_stand ts o.1) rest r more)))

    items_stand : (is : Items) → AreWritten s selection is → AllStand (shown_items is) (item_parts is)
    items_stand no_items o = tt
    items_stand (item d is) o = (stands d o.0, items_stand is o.1)

    attrs_stand : (x : Attrs) → AreWrittenAttributes s selection x → AllStand (shown_attrs x) (attr_parts x)
    attrs_stand no_attrs o = tt
    attrs_stand (attr n d x) o = (named n (shown d) (tokens d) o.0 (stands d o.1), attrs_stand x o.2)

    tuples_stand : (ts : Tuples) → AreWrittenTuples s selection ts → AllStand (shown_tuples ts) (tuple_parts ts)
    tuples_stand no_tuples o = tt
    tuples_stand (next_tuple x ts) o = (λ rest r apart more. tuple_stands (shown_attrs x) (attr_parts x) (attrs_stand x o.0) rest r more, tuples_stand ts o.1)
