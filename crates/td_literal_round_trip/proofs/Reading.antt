-- The tokens of a literal are read as its tree.
use Rattle.std.proofs.Common.{◌≡◌, ℤ, pos, negsuc, Bool, true, false, if◌then◌else◌, [], ◌∷◌, refl}
use Rattle.std.specs.Ordering.{int_eq}
use Rattle.td_values.specs.Data.{Ty, boolean_type, integer_type, char_type, user_type, tuple_type, relation_type, Fields, no_fields, field, Datum, boolean, integer, char, user, tuple, relation, Items, no_items, item, Attrs, no_attrs, attr, Tuples, no_tuples, next_tuple}
use Rattle.td_tokens.specs.declared.token.Word.TheVariants as w
use Rattle.td_tokens.specs.Lex.{word, name}
use Rattle.td_grammar.specs.declared.forms.Form.TheVariants as f
use Rattle.td_grammar.specs.declared.forms.Naming.TheVariants as naming
use Rattle.td_grammar.specs.Grammar as g
use Rattle.td_grammar.specs.Grammar.{Tokens, binds, ReadsType, ReadsHeading, ReadsFields, Reads, ReadsList, ReadsNamed, ReadsNamedList}
use Rattle.td_syntax.specs.declared.tree.Expr.{Expr}
use Rattle.td_syntax.specs.declared.tree.Expr.TheVariants as e
use Rattle.td_schema.specs.Kinds.{Name}
use Rattle.td_literal_round_trip.proofs.Tokens.{type_tokens, field_parts, further, braced, truth_tokens, least_tokens, signed_tokens, tokens, item_parts, attr_parts, tuple_parts}
use Rattle.td_literal_round_trip.proofs.Trees.{type_tree, field_trees, least_tree, signed_tree, tree, item_trees, attr_trees, tuple_trees}

-- ---- types
mutual
  reads_type : (ty : Ty) (r : Tokens) → ReadsType (type_tokens ty r) (type_tree ty) r
  reads_type boolean_type r = g.boolean
  reads_type integer_type r = g.integer_type
  reads_type char_type r = g.char
  reads_type (user_type n) r = g.user
  reads_type (tuple_type fs) r = g.tuple_type (reads_heading fs r)
  reads_type (relation_type fs) r = g.relation_type (reads_heading fs r)

  reads_heading : (fs : Fields) (r : Tokens) → ReadsHeading (braced (field_parts fs) r) (field_trees fs) r
  reads_heading no_fields r = g.no_fields
  reads_heading (field n ty fs) r = g.fields (reads_fields n ty fs (λ s. reads_type ty s) (word w.CloseBrace ∷ r))

  reads_fields : (n : Name) (ty : Ty) (fs : Fields) → ((s : Tokens) → ReadsType (type_tokens ty s) (type_tree ty) s) → (r : Tokens) → ReadsFields (name n ∷ type_tokens ty (further (field_parts fs) r)) (field_trees (field n ty fs)) r
  reads_fields n ty no_fields first r = g.last_field (first r)
  reads_fields n ty (field m u fs) first r = g.next_field (first (further (field_parts (field m u fs)) r)) (reads_fields m u fs (λ s. reads_type u s) r)

-- ---- expressions
-- no form goes on there
abbrev Ends : Tokens → Type 0
Ends r = binds r ≡ 0

at_end : Ends []
unfolding binds
at_end = refl

at_comma : (r : Tokens) → Ends (word w.Comma ∷ r)
unfolding binds
at_comma r = refl

at_bracket : (r : Tokens) → Ends (word w.CloseParenthesis ∷ r)
unfolding binds
at_bracket r = refl

at_brace : (r : Tokens) → Ends (word w.CloseBrace ∷ r)
unfolding binds
at_brace r = refl

whole : {ts r : Tokens} {a : Expr} → Reads f.Prefixed ts a r → Ends r → Reads f.Expr ts a r
whole d ends = g.greedy (g.one_and (g.one_not (g.one_comparison (g.one_relational (g.one_additive (g.one_multiplicative (g.one_prefixed d))))))) ends

prefixed : {ts r : Tokens} {a : Expr} → Reads f.Primary ts a r → Reads f.Prefixed ts a r
prefixed d = g.one_projection (g.one_primary d)

reads_truth : (b : Bool) (r : Tokens) → Reads f.Prefixed (truth_tokens b r) (e.Truth b) r
reads_truth true r = prefixed g.is_true
reads_truth false r = prefixed g.is_false

reads_least : (r : Tokens) → Reads f.Prefixed (least_tokens r) least_tree r
reads_least r =
    let first = g.one_multiplicative (g.one_prefixed (g.negated (prefixed g.integer))) in
    let sum = g.more_additive first refl (g.one_prefixed (prefixed g.integer)) in
    prefixed (g.brackets (g.greedy (g.one_and (g.one_not (g.one_comparison (g.one_relational (g.one_additive sum))))) (at_bracket r)))

reads_signed : (n : ℤ) (r : Tokens) → Reads f.Prefixed (signed_tokens n r) (signed_tree n) r
reads_signed (pos n) r = prefixed g.integer
reads_signed (negsuc n) r = g.negated (prefixed g.integer)

reads_by : (b : Bool) (n : ℤ) (r : Tokens) → Reads f.Prefixed ((if b then least_tokens else signed_tokens n) r) (if b then least_tree else signed_tree n) r
reads_by true n r = reads_least r
reads_by false n r = reads_signed n r

-- the value's tokens are read as its tree
abbrev IsRead : Datum → Type 0
IsRead d = (r : Tokens) → Reads f.Prefixed (tokens d r) (tree d) r

abbrev IsReadTuple : Attrs → Type 0
IsReadTuple x = (r : Tokens) → Reads f.Primary (word w.Tuple ∷ braced (attr_parts x) r) (e.Tuple (attr_trees x)) r

mutual
  pub reads : (d : Datum) → IsRead d
  reads (boolean b) r = reads_truth b r
  reads (integer n) r = reads_by (int_eq n (negsuc 9223372036854775807)) n r
  reads (char x) r = prefixed g.characters
  reads (user p no_items) r = prefixed g.call_none
  reads (user p (item d is)) r = prefixed (g.call (reads_items d is (λ s. reads d s) r))
  reads (tuple x) r = prefixed (reads_tuple x r)
  reads (relation fs no_tuples) r = prefixed (g.headed_none (reads_heading fs (word w.OpenBrace ∷ word w.CloseBrace ∷ r)))
  reads (relation fs (next_tuple x ts)) r = prefixed (g.headed (reads_heading fs (braced (tuple_parts (next_tuple x ts)) r)) (reads_tuples x ts (λ s. reads_tuple x s) r))

  reads_items : (d : Datum) (is : Items) → IsRead d → (r : Tokens) → ReadsList (tokens d (further (item_parts is) (word w.CloseParenthesis ∷ r))) (tree d ∷ item_trees is) (word w.CloseParenthesis ∷ r)
  reads_items d no_items first r = g.last_expr (whole (first (word w.CloseParenthesis ∷ r)) (at_bracket r))
  reads_items d (item c is) first r =
      let rest = tokens c (further (item_parts is) (word w.CloseParenthesis ∷ r)) in
      g.next_expr (whole (first (word w.Comma ∷ rest)) (at_comma rest)) (reads_items c is (λ s. reads c s) r)

  reads_tuple : (x : Attrs) → IsReadTuple x
  reads_tuple no_attrs r = g.tuple_none
  reads_tuple (attr n d x) r = g.tuple (reads_attrs n d x (λ s. reads d s) r)

  reads_attrs : (n : Name) (d : Datum) (x : Attrs) → IsRead d → (r : Tokens) → ReadsNamedList naming.Beside (name n ∷ tokens d (further (attr_parts x) (word w.CloseBrace ∷ r))) (attr_trees (attr n d x)) (word w.CloseBrace ∷ r)
  reads_attrs n d no_attrs first r = g.last_named (g.name_beside (whole (first (word w.CloseBrace ∷ r)) (at_brace r)))
  reads_attrs n d (attr m c x) first r =
      let rest = name m ∷ tokens c (further (attr_parts x) (word w.CloseBrace ∷ r)) in
      g.next_named (g.name_beside (whole (first (word w.Comma ∷ rest)) (at_comma rest))) (reads_attrs m c x (λ s. reads c s) r)

  reads_tuples : (x : Attrs) (ts : Tuples) → IsReadTuple x → (r : Tokens) → ReadsList (word w.Tuple ∷ braced (attr_parts x) (further (tuple_parts ts) (word w.CloseBrace ∷ r))) (e.Tuple (attr_trees x) ∷ tuple_trees ts) (word w.CloseBrace ∷ r)
  reads_tuples x no_tuples first r = g.last_expr (whole (prefixed (first (word w.CloseBrace ∷ r))) (at_brace r))
  reads_tuples x (next_tuple y ts) first r =
      let rest = word w.Tuple ∷ braced (attr_parts y) (further (tuple_parts ts) (word w.CloseBrace ∷ r)) in
      g.next_expr (whole (prefixed (first (word w.Comma ∷ rest))) (at_comma rest)) (reads_tuples y ts (λ s. reads_tuple y s) r)

pub reads_whole : (d : Datum) → Reads f.Expr (tokens d []) (tree d) []
reads_whole d = whole (reads d []) at_end
