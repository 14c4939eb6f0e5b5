-- The tokens of a literal open as many brackets as its value has, and its tree is hardly deeper.
use Rattle.std.proofs.Common.{◌≡◌, ◌≤◌, ◌+◌, ◌-◌, ℕ, ℤ, pos, negsuc, zero, suc, max, Bool, true, false, if◌then◌else◌, List, [], ◌∷◌, map, Some, ap, ◌∙◌, rules, arith}
use Rattle.std.specs.Ordering.{int_eq}
use Rattle.td_values.specs.Data.{Ty, boolean_type, integer_type, char_type, user_type, tuple_type, relation_type, Fields, no_fields, field, Datum, boolean, integer, char, user, tuple, relation, Items, no_items, item, Attrs, no_attrs, attr, Tuples, no_tuples, next_tuple}
use Rattle.td_tokens.specs.declared.token.Word.TheVariants as w
use Rattle.td_tokens.specs.Lex.{word, name, Spanned, open_after, most_open, IsShallow}
use Rattle.td_grammar.specs.Grammar.{Tokens}
use Rattle.td_syntax.specs.declared.tree.UnaryOperator.TheVariants as unary
use Rattle.td_syntax.specs.declared.tree.BinaryOperator.TheVariants as binary
use Rattle.td_syntax.specs.declared.tree.Expr.{the_lemmas}
use Rattle.td_syntax.specs.declared.tree.Expr.TheVariants as e
use Rattle.td_syntax.specs.Levels.{levels, named_levels}
use Rattle.td_syntax.specs.ForProofs.Parts.{list_levels}
use Rattle.td_syntax.proofs.Depths as depths
use Rattle.td_literal_round_trip.specs.Literals.{type_brackets, fields_brackets, brackets, items_brackets, attrs_brackets, tuples_brackets}
use Rattle.td_literal_round_trip.proofs.Tokens.{Part, type_tokens, field_parts, listed, further, braced, bracketed, truth_tokens, least_tokens, signed_tokens, tokens, item_parts, attr_parts, tuple_parts}
use Rattle.td_literal_round_trip.proofs.Trees.{least_tree, signed_tree, tree, item_trees, attr_trees, tuple_trees, field_trees}

-- at no place of the tokens are too many brackets open
abbrev pub AreShallow : ℕ → Tokens → Type 0
AreShallow depth [] = depth ≤ most_open
AreShallow depth (l ∷ ls) = (depth ≤ most_open) × AreShallow (open_after depth l) ls

pub shallow_spanned : (depth : ℕ) (ts : List Spanned) → AreShallow depth (map (λ (t : Spanned). t.lexeme) ts) → IsShallow depth ts
shallow_spanned depth [] are zero = are
shallow_spanned depth [] are (suc n) = are
shallow_spanned depth (t ∷ ts) are zero = are.0
shallow_spanned depth (t ∷ ts) are (suc n) = shallow_spanned (open_after depth t.lexeme) ts are.1 n

-- a part that opens so many
abbrev Opens : ℕ → Part → Type 0
Opens n p = (depth : ℕ) (r : Tokens) → depth + n ≤ most_open → AreShallow depth r → AreShallow depth (p r)

-- parts of which none opens more
abbrev AllOpen : ℕ → List Part → Type 0
AllOpen n [] = Unit {0}
AllOpen n (p ∷ ps) = Opens n p × AllOpen n ps

fewer : (m n : ℕ) (p : Part) → m ≤ n → Opens m p → Opens n p
fewer m n p le opens depth r small rest = opens depth r (omega arith) rest

all_fewer : (m n : ℕ) (ps : List Part) → m ≤ n → AllOpen m ps → AllOpen n ps
all_fewer m n [] le all = tt
all_fewer m n (p ∷ ps) le all = (fewer m n p le all.0, all_fewer m n ps le all.1)

further_open : (n : ℕ) (ps : List Part) → AllOpen n ps → Opens n (further ps)
further_open n [] all depth r small rest = rest
further_open n (p ∷ ps) all depth r small rest = (omega arith, all.0 depth (further ps r) small (further_open n ps all.1 depth r small rest))

listed_open : (n : ℕ) (ps : List Part) → AllOpen n ps → Opens n (listed ps)
listed_open n [] all depth r small rest = rest
listed_open n (p ∷ ps) all depth r small rest = all.0 depth (further ps r) small (further_open n ps all.1 depth r small rest)

closed : (depth : ℕ) (r : Tokens) → AreShallow depth r → AreShallow (suc depth - 1) r
closed depth r rest = let same : suc depth - 1 ≡ depth = omega arith in rw same rest

braced_open : (n : ℕ) (ps : List Part) → AllOpen n ps → Opens (suc n) (braced ps)
braced_open n ps all depth r small rest = (omega arith, listed_open n ps all (suc depth) (word w.CloseBrace ∷ r) (omega arith) (omega arith, closed depth r rest))

bracketed_open : (n : ℕ) (ps : List Part) → AllOpen n ps → Opens (suc n) (bracketed ps)
bracketed_open n ps all depth r small rest = (omega arith, listed_open n ps all (suc depth) (word w.CloseParenthesis ∷ r) (omega arith) (omega arith, closed depth r rest))

named_open : (n : ℕ) (x : List ℕ) (p : Part) → Opens n p → Opens n (λ r. name x ∷ p r)
named_open n x p opens depth r small rest = (omega arith, opens depth r small rest)

-- ---- types
mutual
  type_open : (ty : Ty) → Opens (type_brackets ty) (type_tokens ty)
  type_open boolean_type depth r small rest = (omega arith, rest)
  type_open integer_type depth r small rest = (omega arith, rest)
  type_open char_type depth r small rest = (omega arith, rest)
  type_open (user_type n) depth r small rest = (omega arith, rest)
  type_open (tuple_type fs) depth r small rest = (omega arith, braced_open (fields_brackets fs) (field_parts fs) (fields_open fs) depth r small rest)
  type_open (relation_type fs) depth r small rest = (omega arith, braced_open (fields_brackets fs) (field_parts fs) (fields_open fs) depth r small rest)

  fields_open : (fs : Fields) → AllOpen (fields_brackets fs) (field_parts fs)
  fields_open no_fields = tt
  fields_open (field n ty fs) = (
    fewer (type_brackets ty) (fields_brackets (field n ty fs)) (λ r. name n ∷ type_tokens ty r) (omega arith) (named_open (type_brackets ty) n (type_tokens ty) (type_open ty)),
    all_fewer (fields_brackets fs) (fields_brackets (field n ty fs)) (field_parts fs) (omega arith) (fields_open fs),
  )

-- ---- values
truth_open : (b : Bool) → Opens 0 (truth_tokens b)
truth_open true depth r small rest = (omega arith, rest)
truth_open false depth r small rest = (omega arith, rest)

least_open : Opens 1 least_tokens
least_open depth r small rest = (omega arith, (omega arith, (omega arith, (omega arith, (omega arith, (omega arith, closed depth r rest))))))

signed_open : (n : ℤ) → Opens 0 (signed_tokens n)
signed_open (pos n) depth r small rest = (omega arith, rest)
signed_open (negsuc n) depth r small rest = (omega arith, (omega arith, rest))

integer_by : (b : Bool) (n : ℤ) → Opens (if b then 1 else 0) (if b then least_tokens else signed_tokens n)
integer_by true n = least_open
integer_by false n = signed_open n

mutual
  pub opens : (d : Datum) → Opens (brackets d) (tokens d)
  opens (boolean b) depth r small rest = truth_open b depth r small rest
  opens (integer n) depth r small rest = integer_by (int_eq n (negsuc 9223372036854775807)) n depth r small rest
  opens (char x) depth r small rest = (omega arith, rest)
  opens (user p is) depth r small rest = (omega arith, bracketed_open (items_brackets is) (item_parts is) (items_open is) depth r small rest)
  opens (tuple x) depth r small rest = (omega arith, braced_open (attrs_brackets x) (attr_parts x) (attrs_open x) depth r small rest)
  opens (relation fs ts) depth r small rest = (
    omega arith,
    braced_open (fields_brackets fs) (field_parts fs) (fields_open fs) depth (braced (tuple_parts ts) r) (omega arith)
        (braced_open (tuples_brackets ts) (tuple_parts ts) (tuples_open ts) depth r (omega arith) rest),
  )

  items_open : (is : Items) → AllOpen (items_brackets is) (item_parts is)
  items_open no_items = tt
  items_open (item d is) = (
    fewer (brackets d) (items_brackets (item d is)) (tokens d) (omega arith) (opens d),
    all_fewer (items_brackets is) (items_brackets (item d is)) (item_parts is) (omega arith) (items_open is),
  )

  attrs_open : (x : Attrs) → AllOpen (attrs_brackets x) (attr_parts x)
  attrs_open no_attrs = tt
  attrs_open (attr n d x) = (
    fewer (brackets d) (attrs_brackets (attr n d x)) (λ r. name n ∷ tokens d r) (omega arith) (named_open (brackets d) n (tokens d) (opens d)),
    all_fewer (attrs_brackets x) (attrs_brackets (attr n d x)) (attr_parts x) (omega arith) (attrs_open x),
  )

  tuples_open : (ts : Tuples) → AllOpen (tuples_brackets ts) (tuple_parts ts)
  tuples_open no_tuples = tt
  tuples_open (next_tuple x ts) = (
    λ depth r small rest. (omega arith, braced_open (attrs_brackets x) (attr_parts x) (attrs_open x) depth r (omega arith) rest),
    all_fewer (tuples_brackets ts) (tuples_brackets (next_tuple x ts)) (tuple_parts ts) (omega arith) (tuples_open ts),
  )

-- ---- levels
of_truth : (b : Bool) → levels (e.Truth b) ≡ 1
of_truth b = search (rules, the_lemmas)

of_text : (x : List ℕ) → levels (e.Text x) ≡ 1
of_text x = search (rules, the_lemmas)

of_integer : (n : ℤ) → levels (e.Integer n) ≡ 1
of_integer n = search (rules, the_lemmas)

of_negated : (n : ℤ) → levels (e.Unary unary.Negate (e.Integer n)) ≡ 2
of_negated n = depths.of_unary unary.Negate (e.Integer n) ∙ ap suc (of_integer n)

least_levels : levels least_tree ≡ 3
least_levels = depths.of_binary binary.Subtract (e.Unary unary.Negate (e.Integer (pos 9223372036854775807))) (e.Integer (pos 1)) ∙ (λ i. suc (max (of_negated (pos 9223372036854775807) i) (of_integer (pos 1) i)))

signed_levels : (n : ℤ) → levels (signed_tree n) ≤ 2
signed_levels (pos n) = omega (arith, of_integer (pos n))
signed_levels (negsuc n) = omega (arith, of_negated (pos (suc n)))

levels_by : (b : Bool) (n : ℤ) → levels (if b then least_tree else signed_tree n) ≤ (if b then 1 else 0) + 2
levels_by true n = omega (arith, least_levels)
levels_by false n = omega (arith, signed_levels n)

mutual
  pub deep : (d : Datum) → levels (tree d) ≤ brackets d + 2
  deep (boolean b) = omega (arith, of_truth b)
  deep (integer n) = levels_by (int_eq n (negsuc 9223372036854775807)) n
  deep (char x) = omega (arith, of_text x)
  deep (user p is) = omega (arith, depths.of_call p.name (item_trees is), items_deep is)
  deep (tuple x) = omega (arith, depths.of_tuple (attr_trees x), attrs_deep x)
  deep (relation fs ts) = omega (arith, depths.of_relation (Some (field_trees fs)) (tuple_trees ts), tuples_deep ts)

  items_deep : (is : Items) → list_levels (item_trees is) ≤ items_brackets is + 2
  items_deep no_items = omega arith
  items_deep (item d is) = omega (arith, deep d, items_deep is)

  attrs_deep : (x : Attrs) → named_levels (attr_trees x) ≤ attrs_brackets x + 2
  attrs_deep no_attrs = omega arith
  attrs_deep (attr n d x) = omega (arith, deep d, attrs_deep x)

  tuples_deep : (ts : Tuples) → list_levels (tuple_trees ts) ≤ tuples_brackets ts + 2
  tuples_deep no_tuples = omega arith
  tuples_deep (next_tuple x ts) = omega (arith, depths.of_tuple (attr_trees x), attrs_deep x, tuples_deep ts)
