-- The tokens of literals, in front of any others.
use Rattle.std.proofs.Common.{ℤ, pos, negsuc, suc, Bool, true, false, if◌then◌else◌, List, [], ◌∷◌}
use Rattle.std.specs.Ordering.{int_eq}
use Rattle.td_values.specs.Data.{Ty, boolean_type, integer_type, char_type, user_type, tuple_type, relation_type, Fields, no_fields, field, Datum, boolean, integer, char, user, tuple, relation, Items, no_items, item, Attrs, no_attrs, attr, Tuples, no_tuples, next_tuple}
use Rattle.td_tokens.specs.declared.token.Word.TheVariants as w
use Rattle.td_tokens.specs.Lex.{word, name, int, text}
use Rattle.td_grammar.specs.Grammar.{Tokens}

-- tokens in front of others
abbrev pub Part : Type 0
Part = Tokens → Tokens

-- further parts, each behind a comma, and parts with commas between
abbrev pub further : List Part → Part
further [] r = r
further (p ∷ ps) r = word w.Comma ∷ p (further ps r)

abbrev pub listed : List Part → Part
listed [] r = r
listed (p ∷ ps) r = p (further ps r)

-- parts between brackets
abbrev pub bracketed : List Part → Part
bracketed ps r = word w.OpenParenthesis ∷ listed ps (word w.CloseParenthesis ∷ r)

abbrev pub braced : List Part → Part
braced ps r = word w.OpenBrace ∷ listed ps (word w.CloseBrace ∷ r)

abbrev mutual
  pub type_tokens : Ty → Part
  type_tokens boolean_type r = word w.Boolean ∷ r
  type_tokens integer_type r = word w.Integer ∷ r
  type_tokens char_type r = word w.Char ∷ r
  type_tokens (user_type n) r = name n ∷ r
  type_tokens (tuple_type fs) r = word w.Tuple ∷ braced (field_parts fs) r
  type_tokens (relation_type fs) r = word w.Relation ∷ braced (field_parts fs) r

  pub field_parts : Fields → List Part
  field_parts no_fields = []
  field_parts (field n ty fs) = (λ r. name n ∷ type_tokens ty r) ∷ field_parts fs

abbrev pub truth_tokens : Bool → Part
truth_tokens true r = word w.True ∷ r
truth_tokens false r = word w.False ∷ r

-- "(" "-" 9223372036854775807 "-" 1 ")"
abbrev pub least_tokens : Part
least_tokens r = word w.OpenParenthesis ∷ word w.Dash ∷ int 9223372036854775807 ∷ word w.Dash ∷ int 1 ∷ word w.CloseParenthesis ∷ r

abbrev pub signed_tokens : ℤ → Part
signed_tokens (pos n) r = int n ∷ r
signed_tokens (negsuc n) r = word w.Dash ∷ int (suc n) ∷ r

abbrev pub integer_tokens : ℤ → Part
integer_tokens n = if int_eq n (negsuc 9223372036854775807) then least_tokens else signed_tokens n

abbrev mutual
  pub tokens : Datum → Part
  tokens (boolean b) r = truth_tokens b r
  tokens (integer n) r = integer_tokens n r
  tokens (char x) r = text x ∷ r
  tokens (user p is) r = name p.name ∷ bracketed (item_parts is) r
  tokens (tuple x) r = word w.Tuple ∷ braced (attr_parts x) r
  tokens (relation fs ts) r = word w.Relation ∷ braced (field_parts fs) (braced (tuple_parts ts) r)

  pub item_parts : Items → List Part
  item_parts no_items = []
  item_parts (item d is) = (λ r. tokens d r) ∷ item_parts is

  pub attr_parts : Attrs → List Part
  attr_parts no_attrs = []
  attr_parts (attr n d x) = (λ r. name n ∷ tokens d r) ∷ attr_parts x

  pub tuple_parts : Tuples → List Part
  tuple_parts no_tuples = []
  tuple_parts (next_tuple x ts) = (λ r. word w.Tuple ∷ braced (attr_parts x) r) ∷ tuple_parts ts
