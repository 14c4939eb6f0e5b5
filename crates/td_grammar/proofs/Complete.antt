-- What the grammar derives is what the reader reads.
use Rattle.std.proofs.Common.{◌≡◌, ◌≤◌, ◌<◌, ◌-◌, ◌+◌, ℕ, pos, zero, suc, true, false, List, [], ◌∷◌, Some, None, length, refl, ◌∙◌, arith, lit<}
use Rattle.td_tokens.specs.declared.token.Word.TheVariants as w
use Rattle.td_tokens.specs.Lex.{Text, word, name, int, text}
use Rattle.td_grammar.specs.declared.forms.Form.{Form}
use Rattle.td_grammar.specs.declared.forms.Form.TheVariants as f
use Rattle.td_grammar.specs.declared.forms.Naming.{Naming}
use Rattle.td_grammar.specs.declared.forms.Naming.TheVariants as naming
use Rattle.td_syntax.specs.declared.tree.TypeExpr.{TypeExpr}
use Rattle.td_syntax.specs.declared.tree.Named.{Named}
use Rattle.td_syntax.specs.declared.tree.Attributes.{Attributes}
use Rattle.td_syntax.specs.declared.tree.Renaming.{Renaming}
use Rattle.td_syntax.specs.declared.tree.UnaryOperator.{UnaryOperator}
use Rattle.td_syntax.specs.declared.tree.UnaryOperator.TheVariants as unary
use Rattle.td_syntax.specs.declared.tree.BinaryOperator.{BinaryOperator}
use Rattle.td_syntax.specs.declared.tree.Aggregate.{Aggregate}
use Rattle.td_syntax.specs.declared.tree.Aggregate.TheVariants as aggregate
use Rattle.td_syntax.specs.declared.tree.Nesting.{Nesting}
use Rattle.td_syntax.specs.declared.tree.Nesting.TheVariants as nesting
use Rattle.td_syntax.specs.declared.tree.Extension.TheVariants as extension
use Rattle.td_syntax.specs.declared.tree.SummaryTerm.{SummaryTerm}
use Rattle.td_syntax.specs.declared.tree.SummaryTerm.TheVariants as summary
use Rattle.td_syntax.specs.declared.tree.Groups.TheVariants as groups
use Rattle.td_syntax.specs.declared.tree.Expr.{Expr}
use Rattle.td_syntax.specs.declared.tree.Expr.TheVariants as e
use Rattle.td_syntax.specs.Levels.{levels}
use Rattle.td_grammar.specs.Grammar.{Tokens, infix_at, target_at, binds, aggregate_word, nest_word, unnest_word}
use Rattle.td_grammar.specs.Grammar.{IsList, IsRenaming, ReadsAttributes, no_names, names, but_none, but, ReadsHeading}
use Rattle.td_grammar.specs.Grammar.{Reads, with_, with_assigned, greedy, one_and, more_or, one_not, more_and, not_, one_comparison, one_relational, compared, one_additive, more_relational, postfixed, one_multiplicative, more_additive, one_prefixed, more_multiplicative, negated, closure, tuple_from, name_from, one_projection, one_primary, project}
use Rattle.td_grammar.specs.Grammar.{integer, characters, is_true, is_false, dee, dum, a_variable, call_none, call, brackets, tuple_none, tuple, relation, headed_none, headed, is_empty, count, aggregate_all, aggregate_of, choice, extend, extend_assigned, summarize, summarize_per, summarize_by}
use Rattle.td_grammar.specs.Grammar.{ReadsPostfix, where_, rename, rename_braces, nest, nest_brackets, unnest, unnest_brackets, ReadsList, last_expr, next_expr, ReadsNamed, name_after, name_assigned, name_beside, ReadsNamedList, last_named, next_named, ReadsSummary, count_group, count_brackets, summary_of, ReadsNamedSummary, summary_after, summary_assigned, ReadsSummaryList, last_summary, next_summary, ReadsSummaries, summaries, summaries_assigned}
use Rattle.td_grammar.specs.ForProofs.Reader as read
use Rattle.td_grammar.specs.ForProofs.Reader.{Outcome, Reader, and_then, pure, refuse, same_word, look, at, tail, eat, expect, take_name, take_text, take_integer, at_name, at_type, take_infix, list_from, list_at, listed, up_to, renaming_at, attributes_at, field_of, heading_of, type_of, type_at, heading_at, climb, binary_turn, project_turn, shut, form_at, within, reads}
use Rattle.td_syntax.specs.Levels.{named_levels}
use Rattle.td_syntax.specs.ForProofs.Parts.{list_levels, summary_levels, summaries_levels}
use Rattle.td_syntax.proofs.Depths.{some_level, of_call, of_tuple, of_relation, of_unary, of_binary, of_from, of_project, of_where, of_rename, of_nest, of_unnest, of_aggregate_all, of_aggregate, of_choice, of_extend, of_with, of_summarize}
use Rattle.td_grammar.proofs.Places.{goes_on, lead, infix_shorter, infix_goes, infix_binds, shorter, named_shorter, named_list_shorter, named_summary_shorter, attributes_shorter, heading_shorter, attributes_goes, postfix_goes, postfix_binds, leads, exprs_lead, summaries_goes, expr_ends, no_target}
use Rattle.td_grammar.proofs.Steps.{then_some, one_turn, no_turn, binary_reads, within_reads, ListOf, one, then_more, list_reads, bracket_closes, brace_closes, listed_reads, none_read, some_read, renamings_list, attributes_read, attributes_bind, project_reads, heading_reads, has_heading, no_heading, no_close, no_targets, no_call, expr_plain, not_plain, prefixed_plain, relational_infix}

-- what is left of a form once a tree is read
abbrev goes_from : (ℕ → Form → Reader Expr) → ℕ → Form → ℕ → Expr → Reader Expr
goes_from rds b f.Or = climb 1 (binary_turn (read.and_at rds b))
goes_from rds b f.And = climb 2 (binary_turn (read.not_at rds b))
goes_from rds b f.Relational = climb 5 (read.relational_turn rds b)
goes_from rds b f.Additive = climb 6 (binary_turn (read.multiplicative_at rds b))
goes_from rds b f.Multiplicative = climb 7 (binary_turn (read.prefixed_at rds b))
goes_from rds b f.Projection = climb 9 project_turn
goes_from rds b _ = λ m. pure

-- A form may be left before operators below these numbers; the second is for the form as a left operand.
abbrev below : Form → ℕ
below f.Expr = 10
below f.Or = 1
below f.And = 2
below f.Not = 3
below f.Comparison = 4
below f.Relational = 5
below f.Additive = 6
below f.Multiplicative = 7
below f.Prefixed = 8
below f.Projection = 9
below f.Primary = 10

abbrev below_left : Form → ℕ
below_left f.Expr = 10
below_left f.Or = 2
below_left f.And = 3
below_left f.Not = 3
below_left f.Comparison = 4
below_left f.Relational = 6
below_left f.Additive = 7
below_left f.Multiplicative = 8
below_left f.Prefixed = 8
below_left f.Projection = 10
below_left f.Primary = 10

-- so many turns are left: no more than the tree may still grow
abbrev Left : ℕ → Expr → (ℕ → Outcome Expr) → Outcome Expr → Type 0
Left b a rest o = (m : ℕ) × (b < m + levels a) × (o ≡ rest m)

abbrev Goes : Form → Tokens → Expr → Tokens → Type 0
Goes g ts a r = (n b : ℕ) → length ts ≤ suc n → levels a ≤ suc b → goes_on r ≡ false → binds r < below_left g → Left b a (λ m. goes_from (reads n) b g m a r) (form_at (reads n) b g ts)

abbrev pub Done : Form → Tokens → Expr → Tokens → Type 0
Done g ts a r = (n b : ℕ) → length ts ≤ suc n → levels a ≤ suc b → goes_on r ≡ false → binds r < below g → form_at (reads n) b g ts ≡ Some (a, r)

settle : (g : Form) (ts : Tokens) (a : Expr) (r : Tokens) → Goes g ts a r → Done g ts a r
settle f.Expr ts a r c n b le lv g l = (c n b le lv g l).2
settle f.Or ts a r c n b le lv g l = let d = c n b le lv g (omega arith) in d.2 ∙ no_turn 1 _ d.0 a r l
settle f.And ts a r c n b le lv g l = let d = c n b le lv g (omega arith) in d.2 ∙ no_turn 2 _ d.0 a r l
settle f.Not ts a r c n b le lv g l = (c n b le lv g l).2
settle f.Comparison ts a r c n b le lv g l = (c n b le lv g l).2
settle f.Relational ts a r c n b le lv g l = let d = c n b le lv g (omega arith) in d.2 ∙ no_turn 5 _ d.0 a r l
settle f.Additive ts a r c n b le lv g l = let d = c n b le lv g (omega arith) in d.2 ∙ no_turn 6 _ d.0 a r l
settle f.Multiplicative ts a r c n b le lv g l = let d = c n b le lv g (omega arith) in d.2 ∙ no_turn 7 _ d.0 a r l
settle f.Prefixed ts a r c n b le lv g l = (c n b le lv g l).2
settle f.Projection ts a r c n b le lv g l = let d = c n b le lv g (omega arith) in d.2 ∙ no_turn 9 _ d.0 a r l
settle f.Primary ts a r c n b le lv g l = (c n b le lv g l).2

-- a nested form
nested : (g : Form) (ts : Tokens) (a : Expr) (r : Tokens) → Done g ts a r → 0 < length ts → (n b : ℕ) → length ts ≤ n → levels a ≤ b → goes_on r ≡ false → binds r < below g → reads n b g ts ≡ Some (a, r)
unfolding reads
nested g ts a r d some zero b le lv h l = absurd (omega arith)
nested g ts a r d some (suc n) zero le lv h l = absurd (omega (arith, some_level a))
nested g ts a r d some (suc n) (suc b) le lv h l = then_some (form_at (reads n) b g ts) a r (within (suc b)) (d n b le lv h l) ∙ within_reads (suc b) a r lv

-- a nested expression
abbrev Inner : Tokens → Expr → Tokens → Type 0
Inner ts a r = (n b : ℕ) → length ts ≤ n → levels a ≤ b → reads n b f.Expr ts ≡ Some (a, r)

inner : (ts : Tokens) (a : Expr) (r : Tokens) → Done f.Expr ts a r → 0 < length ts → goes_on r ≡ false → binds r ≡ 0 → Inner ts a r
inner ts a r d some h z n b le lv = nested f.Expr ts a r d some n b le lv h (omega arith)

-- a form without turns
at_once : (b : ℕ) (a : Expr) (r : Tokens) (o : Outcome Expr) → o ≡ Some (a, r) → Left b a (λ m. Some (a, r)) o
at_once b a r o h = (b, omega (arith, some_level a), h)

-- the first of a chain
starts : (j : ℕ) (turn : Expr → Reader Expr) (first : Reader Expr) (b : ℕ) (ts : Tokens) (a : Expr) (r : Tokens) → first ts ≡ Some (a, r) → Left b a (λ m. climb j turn m a r) (and_then (first ts) (climb j turn b))
starts j turn first b ts a r h = (b, omega (arith, some_level a), then_some (first ts) a r (climb j turn b) h)

-- one turn more
continues : (j : ℕ) (turn : Expr → Reader Expr) (b : ℕ) (a c : Expr) (mid r : Tokens) (o : Outcome Expr) → Left b a (λ m. climb j turn m a mid) o → levels a < levels c → levels c ≤ suc b → binds mid ≡ j → turn a mid ≡ Some (c, r) → Left b c (λ m. climb j turn m c r) o
continues j turn b a c mid r o d lt lv z h = (d.0 - 1, omega (arith, d.1), d.2 ∙ one_turn j turn d.0 a c mid r (omega (arith, d.1)) z h)

operated : (j : ℕ) (turn : Expr → Reader Expr) (operand : Reader Expr) (b : ℕ) (x : BinaryOperator) (a c : Expr) (mid next r : Tokens) (o : Outcome Expr) → infix_at mid ≡ Some (j, x, next) → Left b a (λ m. climb j turn m a mid) o → operand next ≡ Some (c, r)
    → turn a mid ≡ binary_turn operand a mid → levels (e.Binary x a c) ≤ suc b → Left b (e.Binary x a c) (λ m. climb j turn m (e.Binary x a c) r) o
operated j turn operand b x a c mid next r o i d h t lv =
    continues j turn b a (e.Binary x a c) mid r o d (omega (arith, of_binary x a c)) lv (infix_binds mid _ i) (t ∙ binary_reads operand a c j x mid next r i h)

compared_done : (first : Reader Expr) (ts mid next r : Tokens) (x : BinaryOperator) (a c : Expr) → first ts ≡ Some (a, mid) → infix_at mid ≡ Some (4, x, next) → first next ≡ Some (c, r) → and_then (first ts) (climb 4 (binary_turn first) 1) ≡ Some (e.Binary x a c, r)
unfolding climb
compared_done first ts mid next r x a c h i k =
    then_some (first ts) a mid (climb 4 (binary_turn first) 1) h ∙ one_turn 4 (binary_turn first) 1 a (e.Binary x a c) mid r (lit< tt) (infix_binds mid _ i) (binary_reads first a c 4 x mid next r i k)

-- ---- the forms

greedy_goes : (ts r : Tokens) (a : Expr) → 2 ≤ lead ts → Done f.Or ts a r → binds r ≡ 0 → Goes f.Expr ts a r
unfolding read.greedy
greedy_goes ts r a h d z n b le lv g l =
    at_once b a r _ (expr_plain (reads n) b ts h ∙ then_some (read.or_at (reads n) b ts) a r (read.greedy (reads n) b) (d n b le lv g (omega arith)) ∙ rw z refl)

not_goes : (ts r : Tokens) (a : Expr) → 0 < length ts → Done f.Not ts a r → Goes f.Not (word w.Not ∷ ts) (e.Unary unary.Not a) r
unfolding read.not_at at same_word
not_goes ts r a s d n b le lv g l =
    at_once b (e.Unary unary.Not a) r _ (then_some (reads n b f.Not ts) a r (λ x. pure (e.Unary unary.Not x)) (nested f.Not ts a r d s n b (omega arith) (omega (arith, of_unary unary.Not a)) g l))

prefix_goes : (x : UnaryOperator) (ts r : Tokens) (a : Expr) (n b : ℕ) → 0 < length ts → Done f.Prefixed ts a r → length ts ≤ n → levels (e.Unary x a) ≤ suc b → goes_on r ≡ false → binds r < 8 → read.prefix (reads n) b x ts ≡ Some (e.Unary x a, r)
unfolding read.prefix
prefix_goes x ts r a n b s d le lv g l = then_some (reads n b f.Prefixed ts) a r (λ y. pure (e.Unary x y)) (nested f.Prefixed ts a r d s n b le (omega (arith, of_unary x a)) g l)

negated_goes : (ts r : Tokens) (a : Expr) → 0 < length ts → Done f.Prefixed ts a r → Goes f.Prefixed (word w.Dash ∷ ts) (e.Unary unary.Negate a) r
unfolding read.prefixed_at at same_word
negated_goes ts r a s d n b le lv g l = at_once b (e.Unary unary.Negate a) r _ (prefix_goes unary.Negate ts r a n b s d (omega arith) lv g l)

closure_goes : (ts r : Tokens) (a : Expr) → 0 < length ts → Done f.Prefixed ts a r → Goes f.Prefixed (word w.Tclose ∷ ts) (e.Unary unary.Closure a) r
unfolding read.prefixed_at at same_word
closure_goes ts r a s d n b le lv g l = at_once b (e.Unary unary.Closure a) r _ (prefix_goes unary.Closure ts r a n b s d (omega arith) lv g l)

tuple_from_goes : (ts r : Tokens) (a : Expr) → 0 < length ts → Done f.Prefixed ts a r → Goes f.Prefixed (word w.Tuple ∷ word w.From ∷ ts) (e.Unary unary.TupleFrom a) r
unfolding read.prefixed_at at same_word
tuple_from_goes ts r a s d n b le lv g l = at_once b (e.Unary unary.TupleFrom a) r _ (prefix_goes unary.TupleFrom ts r a n b s d (omega arith) lv g l)

name_from_goes : (x : Text) (ts r : Tokens) (a : Expr) → 0 < length ts → Done f.Prefixed ts a r → Goes f.Prefixed (name x ∷ word w.From ∷ ts) (e.From x a) r
unfolding read.prefixed_at read.attribute_from at same_word at_name take_name expect
name_from_goes x ts r a s d n b le lv g l =
    at_once b (e.From x a) r _ (then_some (reads n b f.Prefixed ts) a r (λ y. pure (e.From x y)) (nested f.Prefixed ts a r d s n b (omega arith) (omega (arith, of_from x a)) g l))

-- ---- primaries

variable_goes : (x : Text) (r : Tokens) → Goes f.Primary (name x ∷ r) (e.Name x) r
unfolding read.primary_at read.call take_name
variable_goes x r n b le lv g l = at_once b (e.Name x) r _ (rw (no_call r g) refl)

call_none_goes : (x : Text) (r : Tokens) → Goes f.Primary (name x ∷ word w.OpenParenthesis ∷ word w.CloseParenthesis ∷ r) (e.Call x []) r
unfolding read.primary_at read.call take_name at same_word
call_none_goes x r n b le lv g l = at_once b (e.Call x []) r _ (rw (none_read (reads n b f.Expr) w.CloseParenthesis r bracket_closes) refl)

abbrev Lists : Tokens → List Expr → Tokens → Type 0
Lists ts all r = (n b : ℕ) → length ts ≤ n → list_levels all ≤ b → ListOf (reads n b f.Expr) ts all r

call_goes : (x : Text) (ts r : Tokens) (all : List Expr) → 1 ≤ lead ts → Lists ts all (word w.CloseParenthesis ∷ r) → Goes f.Primary (name x ∷ word w.OpenParenthesis ∷ ts) (e.Call x all) r
unfolding read.primary_at read.call take_name at same_word
call_goes x ts r all h d n b le lv g l =
    at_once b (e.Call x all) r _ (rw (no_target ts h, some_read w.CloseParenthesis bracket_closes (no_close ts h).0 (d n b (omega arith) (omega (arith, of_call x all)))) refl)

brackets_goes : (ts r : Tokens) (a : Expr) → Inner ts a (word w.CloseParenthesis ∷ r) → Goes f.Primary (word w.OpenParenthesis ∷ ts) a r
unfolding read.primary_at read.brackets expect at same_word
brackets_goes ts r a d n b le lv g l = at_once b a r _ (rw (d n (suc b) (omega arith) lv) refl)

tuple_none_goes : (r : Tokens) → Goes f.Primary (word w.Tuple ∷ word w.OpenBrace ∷ word w.CloseBrace ∷ r) (e.Tuple []) r
unfolding read.primary_at read.tuple expect at same_word
tuple_none_goes r n b le lv g l = at_once b (e.Tuple []) r _ (rw (none_read (read.named_at (reads n) b naming.Beside) w.CloseBrace r brace_closes) refl)

abbrev pub NamedLists : Naming → Tokens → List (Named Expr) → Tokens → Type 0
NamedLists m ts xs r = (n b : ℕ) → length ts ≤ n → named_levels xs ≤ b → ListOf (read.named_at (reads n) b m) ts xs r

tuple_goes : (ts r : Tokens) (xs : List (Named Expr)) → at w.CloseBrace ts ≡ false → NamedLists naming.Beside ts xs (word w.CloseBrace ∷ r) → Goes f.Primary (word w.Tuple ∷ word w.OpenBrace ∷ ts) (e.Tuple xs) r
unfolding read.primary_at read.tuple expect at same_word
tuple_goes ts r xs h d n b le lv g l = at_once b (e.Tuple xs) r _ (rw (some_read w.CloseBrace brace_closes h (d n b (omega arith) (omega (arith, of_tuple xs)))) refl)

relation_goes : (ts r : Tokens) (all : List Expr) → 1 ≤ lead ts → Lists ts all (word w.CloseBrace ∷ r) → Goes f.Primary (word w.Relation ∷ word w.OpenBrace ∷ ts) (e.Relation None all) r
unfolding read.primary_at read.relation read.unheaded expect at same_word
relation_goes ts r all h d n b le lv g l =
    at_once b (e.Relation None all) r _ (rw (no_heading w.OpenBrace ts h, listed_reads w.CloseBrace brace_closes (d n b (omega arith) (omega (arith, of_relation None all)))) refl)

headed_none_goes : (ts r : Tokens) (h : List (Named TypeExpr)) → ReadsHeading ts h (word w.OpenBrace ∷ word w.CloseBrace ∷ r) → Goes f.Primary (word w.Relation ∷ ts) (e.Relation (Some h) []) r
unfolding read.primary_at read.relation read.headed expect at same_word
headed_none_goes ts r h d n b le lv g l =
    at_once b (e.Relation (Some h) []) r _ (rw (has_heading d, heading_reads d (length ts) (omega arith), none_read (reads n b f.Expr) w.CloseBrace r brace_closes) refl)

headed_goes : (ts mid r : Tokens) (h : List (Named TypeExpr)) (all : List Expr) → ReadsHeading ts h (word w.OpenBrace ∷ mid) → 1 ≤ lead mid → Lists mid all (word w.CloseBrace ∷ r) → Goes f.Primary (word w.Relation ∷ ts) (e.Relation (Some h) all) r
unfolding read.primary_at read.relation read.headed expect at same_word
headed_goes ts mid r h all d k c n b le lv g l =
    at_once b (e.Relation (Some h) all) r _ (rw (has_heading d, heading_reads d (length ts) (omega arith), some_read w.CloseBrace brace_closes (no_close mid k).1 (c n b (omega (arith, heading_shorter d)) (omega (arith, of_relation (Some h) all)))) refl)

applied_reads : (x : UnaryOperator) (ts r : Tokens) (a : Expr) (n b : ℕ) → Inner ts a (word w.CloseParenthesis ∷ r) → length ts ≤ n → levels (e.Unary x a) ≤ suc b → read.applied (reads n) b x (word w.OpenParenthesis ∷ ts) ≡ Some (e.Unary x a, r)
unfolding read.applied expect at same_word
applied_reads x ts r a n b d le lv = rw (d n b le (omega (arith, of_unary x a))) refl

is_empty_goes : (ts r : Tokens) (a : Expr) → Inner ts a (word w.CloseParenthesis ∷ r) → Goes f.Primary (word w.IsEmpty ∷ word w.OpenParenthesis ∷ ts) (e.Unary unary.IsEmpty a) r
unfolding read.primary_at
is_empty_goes ts r a d n b le lv g l = at_once b (e.Unary unary.IsEmpty a) r _ (applied_reads unary.IsEmpty ts r a n b d (omega arith) lv)

count_goes : (ts r : Tokens) (a : Expr) → Inner ts a (word w.CloseParenthesis ∷ r) → Goes f.Primary (word w.Count ∷ word w.OpenParenthesis ∷ ts) (e.Unary unary.Count a) r
unfolding read.primary_at
count_goes ts r a d n b le lv g l = at_once b (e.Unary unary.Count a) r _ (applied_reads unary.Count ts r a n b d (omega arith) lv)

aggregate_primary : (g : Aggregate) (rds : ℕ → Form → Reader Expr) (b : ℕ) (ts : Tokens) → read.primary_at rds b (word (aggregate_word g) ∷ ts) ≡ read.aggregated rds b g ts
unfolding read.primary_at
aggregate_primary aggregate.Sum rds b ts = refl
aggregate_primary aggregate.Max rds b ts = refl
aggregate_primary aggregate.Min rds b ts = refl
aggregate_primary aggregate.And rds b ts = refl
aggregate_primary aggregate.Or rds b ts = refl

aggregate_all_goes : (v : Aggregate) (ts r : Tokens) (a : Expr) → Inner ts a (word w.CloseParenthesis ∷ r) → Goes f.Primary (word (aggregate_word v) ∷ word w.OpenParenthesis ∷ ts) (e.Aggregate v a None) r
unfolding read.aggregated expect eat at same_word
aggregate_all_goes v ts r a d n b le lv g l =
    at_once b (e.Aggregate v a None) r _ (aggregate_primary v (reads n) b (word w.OpenParenthesis ∷ ts) ∙ rw (d n b (omega arith) (omega (arith, of_aggregate_all v a))) refl)

aggregate_of_goes : (v : Aggregate) (ts mid r : Tokens) (a c : Expr) → length mid < length ts → Inner ts a (word w.Comma ∷ mid) → Inner mid c (word w.CloseParenthesis ∷ r) → Goes f.Primary (word (aggregate_word v) ∷ word w.OpenParenthesis ∷ ts) (e.Aggregate v a (Some c)) r
unfolding read.aggregated expect eat at same_word
aggregate_of_goes v ts mid r a c s d k n b le lv g l =
    at_once b (e.Aggregate v a (Some c)) r _ (aggregate_primary v (reads n) b (word w.OpenParenthesis ∷ ts) ∙ rw (d n b (omega arith) (omega (arith, of_aggregate v a c)), k n b (omega arith) (omega (arith, of_aggregate v a c))) refl)

choice_goes : (ts second third r : Tokens) (a c k : Expr) → length second < length ts → length third < length second → Inner ts a (word w.Then ∷ second) → Inner second c (word w.Else ∷ third) → Inner third k (word w.End ∷ word w.If ∷ r) → Goes f.Primary (word w.If ∷ ts) (e.If a c k) r
unfolding read.primary_at read.choice expect at same_word
choice_goes ts second third r a c k s t d1 d2 d3 n b le lv g l =
    at_once b (e.If a c k) r _ (rw (d1 n b (omega arith) (omega (arith, of_choice a c k)), d2 n b (omega arith) (omega (arith, of_choice a c k)), d3 n b (omega arith) (omega (arith, of_choice a c k))) refl)

extend_goes : (ts mid r : Tokens) (a : Expr) (xs : List (Named Expr)) → length mid < length ts → Inner ts a (word w.Add ∷ word w.OpenParenthesis ∷ mid) → NamedLists naming.After mid xs (word w.CloseParenthesis ∷ r) → Goes f.Primary (word w.Extend ∷ ts) (e.Extend extension.Add a xs) r
unfolding read.primary_at read.extend expect eat at same_word
extend_goes ts mid r a xs s d k n b le lv g l =
    at_once b (e.Extend extension.Add a xs) r _ (rw (d n b (omega arith) (omega (arith, of_extend extension.Add a xs)), listed_reads w.CloseParenthesis bracket_closes (k n b (omega arith) (omega (arith, of_extend extension.Add a xs)))) refl)

extend_assigned_goes : (ts mid r : Tokens) (a : Expr) (xs : List (Named Expr)) → length mid < length ts → Inner ts a (word w.Colon ∷ word w.OpenBrace ∷ mid) → NamedLists naming.Assigned mid xs (word w.CloseBrace ∷ r) → Goes f.Primary (word w.Extend ∷ ts) (e.Extend extension.Assign a xs) r
unfolding read.primary_at read.extend expect eat at same_word
extend_assigned_goes ts mid r a xs s d k n b le lv g l =
    at_once b (e.Extend extension.Assign a xs) r _ (rw (d n b (omega arith) (omega (arith, of_extend extension.Assign a xs)), listed_reads w.CloseBrace brace_closes (k n b (omega arith) (omega (arith, of_extend extension.Assign a xs)))) refl)

abbrev Summaries : Tokens → List (Named (SummaryTerm Expr)) → Tokens → Type 0
Summaries ts xs r = (n b : ℕ) → length ts ≤ n → summaries_levels xs ≤ b → read.summaries (reads n) b ts ≡ Some (xs, r)

-- summaries begin with no PER or BY
summaries_begin : {ts : Tokens} {xs : List (Named (SummaryTerm Expr))} {r : Tokens} → ReadsSummaries ts xs r → (at w.Per ts ≡ false) × (at w.By ts ≡ false)
unfolding at same_word
summaries_begin (summaries d) = (refl, refl)
summaries_begin (summaries_assigned d) = (refl, refl)

summarize_goes : (ts mid r : Tokens) (a : Expr) (xs : List (Named (SummaryTerm Expr))) → length mid < length ts → Inner ts a mid → (at w.Per mid ≡ false) × (at w.By mid ≡ false) → Summaries mid xs r → Goes f.Primary (word w.Summarize ∷ ts) (e.Summarize a groups.Whole xs) r
unfolding read.primary_at read.summarize read.groups_at eat
summarize_goes ts mid r a xs s d h k n b le lv g l =
    at_once b (e.Summarize a groups.Whole xs) r _ (rw (d n b (omega arith) (omega (arith, of_summarize a groups.Whole xs)), h.0, h.1, k n b (omega arith) (omega (arith, of_summarize a groups.Whole xs))) refl)

summarize_per_goes : (ts mid next r : Tokens) (a c : Expr) (xs : List (Named (SummaryTerm Expr))) → length mid < length ts → length next < length mid → Inner ts a (word w.Per ∷ mid) → Inner mid c next → Summaries next xs r → Goes f.Primary (word w.Summarize ∷ ts) (e.Summarize a (groups.Per c) xs) r
unfolding read.primary_at read.summarize read.groups_at eat at same_word
summarize_per_goes ts mid next r a c xs s t d1 d2 k n b le lv g l =
    at_once b (e.Summarize a (groups.Per c) xs) r _ (rw (d1 n b (omega arith) (omega (arith, of_summarize a (groups.Per c) xs)), d2 n b (omega arith) (omega (arith, of_summarize a (groups.Per c) xs)), k n b (omega arith) (omega (arith, of_summarize a (groups.Per c) xs))) refl)

summarize_by_goes : (ts mid next r : Tokens) (a : Expr) (ys : Attributes) (xs : List (Named (SummaryTerm Expr))) → length mid < length ts → Inner ts a (word w.By ∷ mid) → ReadsAttributes mid ys next → Summaries next xs r → Goes f.Primary (word w.Summarize ∷ ts) (e.Summarize a (groups.By ys) xs) r
unfolding read.primary_at read.summarize read.groups_at eat at same_word
summarize_by_goes ts mid next r a ys xs s d1 d2 k n b le lv g l =
    at_once b (e.Summarize a (groups.By ys) xs) r _ (rw (d1 n b (omega arith) (omega (arith, of_summarize a (groups.By ys) xs)), attributes_read d2, k n b (omega (arith, attributes_shorter d2)) (omega (arith, of_summarize a (groups.By ys) xs))) refl)

with_goes : (ts mid r : Tokens) (xs : List (Named Expr)) (a : Expr) → length mid < length ts → 1 ≤ lead ts → NamedLists naming.After ts xs (word w.Colon ∷ mid) → Inner mid a r → Goes f.Expr (word w.With ∷ ts) (e.With xs a) r
unfolding read.expr_at read.with_at read.with_after expect at same_word
with_goes ts mid r xs a s h d k n b le lv g l =
    at_once b (e.With xs a) r _ (rw (no_targets ts h, list_reads (d n b (omega arith) (omega (arith, of_with xs a))) refl (length ts) [] (omega arith), k n b (omega arith) (omega (arith, of_with xs a))) refl)

with_assigned_goes : (ts mid r : Tokens) (xs : List (Named Expr)) (a : Expr) → length mid < length ts → target_at ts ≡ true → NamedLists naming.Assigned ts xs (word w.CloseParenthesis ∷ word w.Colon ∷ mid) → Inner mid a r → Goes f.Expr (word w.With ∷ word w.OpenParenthesis ∷ ts) (e.With xs a) r
unfolding read.expr_at read.with_at read.with_assigned expect at same_word
with_assigned_goes ts mid r xs a s h d k n b le lv g l =
    at_once b (e.With xs a) r _ (rw (h, listed_reads w.CloseParenthesis bracket_closes (d n b (omega arith) (omega (arith, of_with xs a))), k n b (omega arith) (omega (arith, of_with xs a))) refl)

-- ---- postfixes

abbrev Turns : Expr → Tokens → Expr → Tokens → Type 0
Turns a ts c r = (n b : ℕ) → length ts ≤ suc n → levels c ≤ suc b → goes_on r ≡ false → read.relational_turn (reads n) b a ts ≡ Some (c, r)

where_turns : (a c : Expr) (ts r : Tokens) → (goes_on r ≡ false → Inner ts c r) → Turns a (word w.Where ∷ ts) (e.Where a c) r
unfolding read.relational_turn read.where_turn
where_turns a c ts r d n b le lv g = rw (d g n b (omega arith) (omega (arith, of_where a c))) refl

rename_turns : (a : Expr) (ts r : Tokens) (xs : List Renaming) → IsList IsRenaming ts xs (word w.CloseParenthesis ∷ r) → Turns a (word w.Rename ∷ word w.OpenParenthesis ∷ ts) (e.Rename a xs) r
unfolding read.relational_turn read.rename_turn eat at same_word
rename_turns a ts r xs d n b le lv g = rw (listed_reads w.CloseParenthesis bracket_closes (renamings_list d)) refl

rename_braces_turns : (a : Expr) (ts r : Tokens) (xs : List Renaming) → IsList IsRenaming ts xs (word w.CloseBrace ∷ r) → Turns a (word w.Rename ∷ word w.OpenBrace ∷ ts) (e.Rename a xs) r
unfolding read.relational_turn read.rename_turn eat expect at same_word
rename_braces_turns a ts r xs d n b le lv g = rw (listed_reads w.CloseBrace brace_closes (renamings_list d)) refl

nest_word_turns : (v : Nesting) (rds : ℕ → Form → Reader Expr) (b : ℕ) (a : Expr) (ts : Tokens) → read.relational_turn rds b a (word (nest_word v) ∷ ts) ≡ read.nest_turn v a ts
unfolding read.relational_turn
nest_word_turns nesting.Group rds b a ts = refl
nest_word_turns nesting.Wrap rds b a ts = refl

unnest_word_turns : (v : Nesting) (rds : ℕ → Form → Reader Expr) (b : ℕ) (a : Expr) (ts : Tokens) → read.relational_turn rds b a (word (unnest_word v) ∷ ts) ≡ read.unnest_turn v a ts
unfolding read.relational_turn
unnest_word_turns nesting.Group rds b a ts = refl
unnest_word_turns nesting.Wrap rds b a ts = refl

attributes_begin : {ts : Tokens} {xs : Attributes} {r : Tokens} → ReadsAttributes ts xs r → at w.OpenParenthesis ts ≡ false
unfolding at same_word
attributes_begin no_names = refl
attributes_begin (names d) = refl
attributes_begin but_none = refl
attributes_begin (but d) = refl

nest_turns : (v : Nesting) (a : Expr) (x : Text) (ts r : Tokens) (xs : Attributes) → ReadsAttributes ts xs (word w.As ∷ name x ∷ r) → Turns a (word (nest_word v) ∷ ts) (e.Nest v a xs x) r
unfolding read.nest_turn shut eat expect take_name at same_word
nest_turns v a x ts r xs d n b le lv g = nest_word_turns v (reads n) b a ts ∙ rw (attributes_begin d, attributes_read d) refl

nest_brackets_turns : (v : Nesting) (a : Expr) (x : Text) (ts r : Tokens) (xs : Attributes) → ReadsAttributes ts xs (word w.As ∷ name x ∷ word w.CloseParenthesis ∷ r) → Turns a (word (nest_word v) ∷ word w.OpenParenthesis ∷ ts) (e.Nest v a xs x) r
unfolding read.nest_turn shut eat expect take_name at same_word
nest_brackets_turns v a x ts r xs d n b le lv g = nest_word_turns v (reads n) b a (word w.OpenParenthesis ∷ ts) ∙ rw (attributes_read d) refl

unnest_turns : (v : Nesting) (a : Expr) (x : Text) (r : Tokens) → Turns a (word (unnest_word v) ∷ name x ∷ r) (e.Unnest v a x) r
unfolding read.unnest_turn shut eat take_name at
unnest_turns v a x r n b le lv g = unnest_word_turns v (reads n) b a (name x ∷ r)

unnest_brackets_turns : (v : Nesting) (a : Expr) (x : Text) (r : Tokens) → Turns a (word (unnest_word v) ∷ word w.OpenParenthesis ∷ name x ∷ word w.CloseParenthesis ∷ r) (e.Unnest v a x) r
unfolding read.unnest_turn shut eat expect take_name at same_word
unnest_brackets_turns v a x r n b le lv g = unnest_word_turns v (reads n) b a (word w.OpenParenthesis ∷ name x ∷ word w.CloseParenthesis ∷ r)

postfix_deepens : {a : Expr} {ts : Tokens} {c : Expr} {r : Tokens} → ReadsPostfix a ts c r → levels a < levels c
postfix_deepens (where_ {a} {ts} {r} {b} d) = omega (arith, of_where a b)
postfix_deepens (rename {a} {ts} {r} {xs} d) = omega (arith, of_rename a xs)
postfix_deepens (rename_braces {a} {ts} {r} {xs} d) = omega (arith, of_rename a xs)
postfix_deepens (nest {a = a} {g = v} {x = x} {xs = xs} d) = omega (arith, of_nest v a xs x)
postfix_deepens (nest_brackets {a = a} {g = v} {x = x} {xs = xs} d) = omega (arith, of_nest v a xs x)
postfix_deepens (unnest {a = a} {g = v} {x = x}) = omega (arith, of_unnest v a x)
postfix_deepens (unnest_brackets {a = a} {g = v} {x = x}) = omega (arith, of_unnest v a x)

-- ---- items

after_item : (x : Text) (ts r : Tokens) (a : Expr) → Inner ts a (word w.As ∷ name x ∷ r) → (n b : ℕ) → length ts ≤ n → levels a ≤ b → read.named_at (reads n) b naming.After ts ≡ Some (record { name = x; value = a }, r)
unfolding read.named_at expect take_name at same_word
after_item x ts r a d n b le lv = rw (d n b le lv) refl

assigned_item : (x : Text) (ts r : Tokens) (a : Expr) → Inner ts a r → (n b : ℕ) → length ts < n → levels a ≤ b → read.named_at (reads n) b naming.Assigned (name x ∷ word w.Assign ∷ ts) ≡ Some (record { name = x; value = a }, r)
unfolding read.named_at expect take_name at same_word
assigned_item x ts r a d n b le lv = rw (d n b (omega arith) lv) refl

beside_item : (x : Text) (ts r : Tokens) (a : Expr) → Inner ts a r → (n b : ℕ) → length ts < n → levels a ≤ b → read.named_at (reads n) b naming.Beside (name x ∷ ts) ≡ Some (record { name = x; value = a }, r)
unfolding read.named_at take_name
beside_item x ts r a d n b le lv = rw (d n b (omega arith) lv) refl

abbrev SummaryReads : Tokens → SummaryTerm Expr → Tokens → Type 0
SummaryReads ts s r = (n b : ℕ) → length ts ≤ n → summary_levels s ≤ b → read.summary_at (reads n) b ts ≡ Some (s, r)

count_reads : (r : Tokens) → at w.OpenParenthesis r ≡ false → SummaryReads (word w.Count ∷ r) summary.Count r
unfolding read.summary_at read.counted shut eat same_word
count_reads r h n b le lv = rw h refl

count_brackets_reads : (r : Tokens) → SummaryReads (word w.Count ∷ word w.OpenParenthesis ∷ word w.CloseParenthesis ∷ r) summary.Count r
unfolding read.summary_at read.counted shut eat expect at same_word
count_brackets_reads r n b le lv = refl

summary_word_reads : (v : Aggregate) (rds : ℕ → Form → Reader Expr) (b : ℕ) (ts : Tokens) → read.summary_at rds b (word (aggregate_word v) ∷ ts) ≡ read.summed rds b v ts
unfolding read.summary_at same_word
summary_word_reads aggregate.Sum rds b ts = refl
summary_word_reads aggregate.Max rds b ts = refl
summary_word_reads aggregate.Min rds b ts = refl
summary_word_reads aggregate.And rds b ts = refl
summary_word_reads aggregate.Or rds b ts = refl

summary_of_reads : (v : Aggregate) (ts r : Tokens) (a : Expr) → Inner ts a (word w.CloseParenthesis ∷ r) → SummaryReads (word (aggregate_word v) ∷ word w.OpenParenthesis ∷ ts) (summary.Of v a) r
unfolding read.summed expect at same_word
summary_of_reads v ts r a d n b le lv = summary_word_reads v (reads n) b (word w.OpenParenthesis ∷ ts) ∙ rw (d n b (omega arith) lv) refl

summary_after_item : (x : Text) (ts r : Tokens) (s : SummaryTerm Expr) → SummaryReads ts s (word w.As ∷ name x ∷ r) → (n b : ℕ) → length ts ≤ n → summary_levels s ≤ b → read.named_summary (reads n) b naming.After ts ≡ Some (record { name = x; value = s }, r)
unfolding read.named_summary expect take_name at same_word
summary_after_item x ts r s d n b le lv = rw (d n b le lv) refl

summary_assigned_item : (x : Text) (ts r : Tokens) (s : SummaryTerm Expr) → SummaryReads ts s r → (n b : ℕ) → length ts < n → summary_levels s ≤ b → read.named_summary (reads n) b naming.Assigned (name x ∷ word w.Assign ∷ ts) ≡ Some (record { name = x; value = s }, r)
unfolding read.named_summary expect take_name at same_word
summary_assigned_item x ts r s d n b le lv = rw (d n b (omega arith) lv) refl

summaries_goes_on : (ts r : Tokens) (xs : List (Named (SummaryTerm Expr))) → ((n b : ℕ) → length ts ≤ n → summaries_levels xs ≤ b → ListOf (read.named_summary (reads n) b naming.After) ts xs (word w.CloseParenthesis ∷ r)) → Summaries (word w.Add ∷ word w.OpenParenthesis ∷ ts) xs r
unfolding read.summaries expect eat at same_word
summaries_goes_on ts r xs d n b le lv = listed_reads w.CloseParenthesis bracket_closes (d n b (omega arith) lv)

summaries_assigned_goes_on : (ts r : Tokens) (xs : List (Named (SummaryTerm Expr))) → ((n b : ℕ) → length ts ≤ n → summaries_levels xs ≤ b → ListOf (read.named_summary (reads n) b naming.Assigned) ts xs (word w.CloseBrace ∷ r)) → Summaries (word w.Colon ∷ word w.OpenBrace ∷ ts) xs r
unfolding read.summaries expect eat at same_word
summaries_assigned_goes_on ts r xs d n b le lv = listed_reads w.CloseBrace brace_closes (d n b (omega arith) lv)

-- ---- the first tokens of lists

after_leads : {ts : Tokens} {xs : List (Named Expr)} {r : Tokens} {m : Naming} → ReadsNamedList m ts xs r → m ≡ naming.After → 1 ≤ lead ts
after_leads (last_named (name_after d)) h = leads d refl
after_leads (next_named (name_after d) e) h = leads d refl
after_leads (last_named (name_assigned d)) h = absurd (let z : ⊥ = cc in z)
after_leads (next_named (name_assigned d) e) h = absurd (let z : ⊥ = cc in z)
after_leads (last_named (name_beside d)) h = absurd (let z : ⊥ = cc in z)
after_leads (next_named (name_beside d) e) h = absurd (let z : ⊥ = cc in z)

pub assigned_begins : {ts : Tokens} {xs : List (Named Expr)} {r : Tokens} {m : Naming} → ReadsNamedList m ts xs r → m ≡ naming.Assigned → target_at ts ≡ true
assigned_begins (last_named (name_after d)) h = absurd (let z : ⊥ = cc in z)
assigned_begins (next_named (name_after d) e) h = absurd (let z : ⊥ = cc in z)
assigned_begins (last_named (name_assigned d)) h = refl
assigned_begins (next_named (name_assigned d) e) h = refl
assigned_begins (last_named (name_beside d)) h = absurd (let z : ⊥ = cc in z)
assigned_begins (next_named (name_beside d) e) h = absurd (let z : ⊥ = cc in z)

beside_begins : {ts : Tokens} {xs : List (Named Expr)} {r : Tokens} {m : Naming} → ReadsNamedList m ts xs r → m ≡ naming.Beside → at w.CloseBrace ts ≡ false
unfolding at
beside_begins (last_named (name_after d)) h = absurd (let z : ⊥ = cc in z)
beside_begins (next_named (name_after d) e) h = absurd (let z : ⊥ = cc in z)
beside_begins (last_named (name_assigned d)) h = refl
beside_begins (next_named (name_assigned d) e) h = refl
beside_begins (last_named (name_beside d)) h = refl
beside_begins (next_named (name_beside d) e) h = refl

closing_bracket_ends : (r : Tokens) → goes_on (word w.CloseParenthesis ∷ r) ≡ false
closing_bracket_ends r = refl

-- what follows an item of a list: a summary alone is not gone on with
abbrev pub Ends : Tokens → Type 0
Ends r = (goes_on r ≡ false) × (at w.OpenParenthesis r ≡ false)

pub comma_ends : (r : Tokens) → Ends (word w.Comma ∷ r)
unfolding at same_word
comma_ends r = (refl, refl)

pub bracket_ends : (r : Tokens) → Ends (word w.CloseParenthesis ∷ r)
unfolding at same_word
bracket_ends r = (refl, refl)

pub brace_ends : (r : Tokens) → Ends (word w.CloseBrace ∷ r)
unfolding at same_word
brace_ends r = (refl, refl)

as_ends : (r : Tokens) → Ends (word w.As ∷ r)
unfolding at same_word
as_ends r = (refl, refl)

colon_ends : (r : Tokens) → Ends (word w.Colon ∷ r)
unfolding at same_word
colon_ends r = (refl, refl)

integer_read : (rds : ℕ → Form → Reader Expr) (b i : ℕ) (r : Tokens) → read.primary_at rds b (int i ∷ r) ≡ Some (e.Integer (pos i), r)
unfolding read.primary_at take_integer
integer_read rds b i r = refl

characters_read : (rds : ℕ → Form → Reader Expr) (b : ℕ) (s : Text) (r : Tokens) → read.primary_at rds b (text s ∷ r) ≡ Some (e.Text s, r)
unfolding read.primary_at take_text
characters_read rds b s r = refl

constants_read : (rds : ℕ → Form → Reader Expr) (b : ℕ) (r : Tokens) → (read.primary_at rds b (word w.True ∷ r) ≡ Some (e.Truth true, r)) × (read.primary_at rds b (word w.False ∷ r) ≡ Some (e.Truth false, r)) × (read.primary_at rds b (word w.TableDee ∷ r) ≡ Some (e.TableDee, r)) × (read.primary_at rds b (word w.TableDum ∷ r) ≡ Some (e.TableDum, r))
unfolding read.primary_at
constants_read rds b r = (refl, refl, refl, refl)

inner_by : {ts : Tokens} {a : Expr} {r : Tokens} → Reads f.Expr ts a r → Goes f.Expr ts a r → goes_on r ≡ false → Inner ts a r
inner_by {ts = us} {a = c} {r = s} d k h = inner us c s (settle f.Expr us c s k) (omega (arith, shorter d)) h (expr_ends d)

-- ---- all of them

mutual
  pub goes : {g : Form} {ts : Tokens} {a : Expr} {r : Tokens} → Reads g ts a r → Goes g ts a r
  goes (with_ {ts} {mid} {r} {xs} {a} d k) = λ n b le lv h l. with_goes ts mid r xs a (omega (arith, named_list_shorter d)) (after_leads d refl) (named_list_read d (colon_ends mid)) (inner_by k (goes k) h) n b le lv h l
  goes (with_assigned {ts} {mid} {r} {xs} {a} d k) = λ n b le lv h l. with_assigned_goes ts mid r xs a (omega (arith, named_list_shorter d)) (assigned_begins d refl) (named_list_read d (bracket_ends (word w.Colon ∷ mid))) (inner_by k (goes k) h) n b le lv h l
  goes (greedy {ts} {r} {a} d z) = λ n b le lv h l. greedy_goes ts r a (leads d h) (settle f.Or ts a r (goes d)) z n b le lv h l
  goes (one_and {ts} {r} {a} d) = λ n b le lv h l. starts 1 (binary_turn (read.and_at (reads n) b)) (read.and_at (reads n) b) b ts a r (settle f.And ts a r (goes d) n b le lv h l)
  goes (more_or {ts} {mid} {next} {r} {o} {a} {b = c} d i k) = λ n b le lv h l. operated 1 (binary_turn (read.and_at (reads n) b)) (read.and_at (reads n) b) b o a c mid next r _ i
      (goes d n b le (omega (arith, of_binary o a c)) (infix_goes mid _ i) (omega (arith, infix_binds mid _ i))) (settle f.And next c r (goes k) n b (omega (arith, shorter d, infix_shorter mid _ i)) (omega (arith, of_binary o a c)) h l) refl lv
  goes (one_not {ts} {r} {a} d) = λ n b le lv h l. starts 2 (binary_turn (read.not_at (reads n) b)) (read.not_at (reads n) b) b ts a r (settle f.Not ts a r (goes d) n b le lv h l)
  goes (more_and {ts} {mid} {next} {r} {o} {a} {b = c} d i k) = λ n b le lv h l. operated 2 (binary_turn (read.not_at (reads n) b)) (read.not_at (reads n) b) b o a c mid next r _ i
      (goes d n b le (omega (arith, of_binary o a c)) (infix_goes mid _ i) (omega (arith, infix_binds mid _ i))) (settle f.Not next c r (goes k) n b (omega (arith, shorter d, infix_shorter mid _ i)) (omega (arith, of_binary o a c)) h l) refl lv
  goes (not_ {ts} {r} {a} d) = λ n b le lv h l. not_goes ts r a (omega (arith, shorter d)) (settle f.Not ts a r (goes d)) n b le lv h l
  goes (one_comparison {ts} {r} {a} d) = λ n b le lv h l. at_once b a r _ (not_plain (reads n) b ts (leads d h) ∙ settle f.Comparison ts a r (goes d) n b le lv h (omega arith))
  goes (one_relational {ts} {r} {a} d) = λ n b le lv h l. at_once b a r _ (then_some _ a r (climb 4 (binary_turn (read.relational_at (reads n) b)) 1) (settle f.Relational ts a r (goes d) n b le lv h (omega arith)) ∙ no_turn 4 _ 1 a r l)
  goes (compared {ts} {mid} {next} {r} {o} {a} {b = c} d i k) = λ n b le lv h l. at_once b (e.Binary o a c) r _ (compared_done (read.relational_at (reads n) b) ts mid next r o a c
      (settle f.Relational ts a mid (goes d) n b le (omega (arith, of_binary o a c)) (infix_goes mid _ i) (omega (arith, infix_binds mid _ i))) i (settle f.Relational next c r (goes k) n b (omega (arith, shorter d, infix_shorter mid _ i)) (omega (arith, of_binary o a c)) h (omega arith)))
  goes (one_additive {ts} {r} {a} d) = λ n b le lv h l. starts 5 (read.relational_turn (reads n) b) (read.additive_at (reads n) b) b ts a r (settle f.Additive ts a r (goes d) n b le lv h l)
  goes (more_relational {ts} {mid} {next} {r} {o} {a} {b = c} d i k) = λ n b le lv h l. operated 5 (read.relational_turn (reads n) b) (read.additive_at (reads n) b) b o a c mid next r _ i
      (goes d n b le (omega (arith, of_binary o a c)) (infix_goes mid _ i) (omega (arith, infix_binds mid _ i))) (settle f.Additive next c r (goes k) n b (omega (arith, shorter d, infix_shorter mid _ i)) (omega (arith, of_binary o a c)) h l) (relational_infix (reads n) b a mid _ i) lv
  goes (postfixed {ts} {mid} {r} {a} {b = c} d k) = λ n b le lv h l. continues 5 (read.relational_turn (reads n) b) b a c mid r _
      (goes d n b le (omega (arith, postfix_deepens k)) (postfix_goes k) (omega (arith, postfix_binds k))) (postfix_deepens k) lv (postfix_binds k) (postfix_turns k n b (omega (arith, shorter d)) lv h)
  goes (one_multiplicative {ts} {r} {a} d) = λ n b le lv h l. starts 6 (binary_turn (read.multiplicative_at (reads n) b)) (read.multiplicative_at (reads n) b) b ts a r (settle f.Multiplicative ts a r (goes d) n b le lv h l)
  goes (more_additive {ts} {mid} {next} {r} {o} {a} {b = c} d i k) = λ n b le lv h l. operated 6 (binary_turn (read.multiplicative_at (reads n) b)) (read.multiplicative_at (reads n) b) b o a c mid next r _ i
      (goes d n b le (omega (arith, of_binary o a c)) (infix_goes mid _ i) (omega (arith, infix_binds mid _ i))) (settle f.Multiplicative next c r (goes k) n b (omega (arith, shorter d, infix_shorter mid _ i)) (omega (arith, of_binary o a c)) h l) refl lv
  goes (one_prefixed {ts} {r} {a} d) = λ n b le lv h l. starts 7 (binary_turn (read.prefixed_at (reads n) b)) (read.prefixed_at (reads n) b) b ts a r (settle f.Prefixed ts a r (goes d) n b le lv h l)
  goes (more_multiplicative {ts} {mid} {next} {r} {o} {a} {b = c} d i k) = λ n b le lv h l. operated 7 (binary_turn (read.prefixed_at (reads n) b)) (read.prefixed_at (reads n) b) b o a c mid next r _ i
      (goes d n b le (omega (arith, of_binary o a c)) (infix_goes mid _ i) (omega (arith, infix_binds mid _ i))) (settle f.Prefixed next c r (goes k) n b (omega (arith, shorter d, infix_shorter mid _ i)) (omega (arith, of_binary o a c)) h l) refl lv
  goes (negated {ts} {r} {a} d) = λ n b le lv h l. negated_goes ts r a (omega (arith, shorter d)) (settle f.Prefixed ts a r (goes d)) n b le lv h l
  goes (closure {ts} {r} {a} d) = λ n b le lv h l. closure_goes ts r a (omega (arith, shorter d)) (settle f.Prefixed ts a r (goes d)) n b le lv h l
  goes (tuple_from {ts} {r} {a} d) = λ n b le lv h l. tuple_from_goes ts r a (omega (arith, shorter d)) (settle f.Prefixed ts a r (goes d)) n b le lv h l
  goes (name_from {x} {ts} {r} {a} d) = λ n b le lv h l. name_from_goes x ts r a (omega (arith, shorter d)) (settle f.Prefixed ts a r (goes d)) n b le lv h l
  goes (one_projection {ts} {r} {a} d) = λ n b le lv h l. at_once b a r _ (prefixed_plain (reads n) b ts (leads d h) ∙ settle f.Projection ts a r (goes d) n b le lv h (omega arith))
  goes (one_primary {ts} {r} {a} d) = λ n b le lv h l. starts 9 project_turn (read.primary_at (reads n) b) b ts a r (settle f.Primary ts a r (goes d) n b le lv h l)
  goes (project {ts} {mid} {r} {a} {xs} d k) = λ n b le lv h l. continues 9 project_turn b a (e.Project a xs) mid r _
      (goes d n b le (omega (arith, of_project a xs)) (attributes_goes k) (omega (arith, attributes_bind k))) (omega (arith, of_project a xs)) lv (attributes_bind k) (project_reads k a)
  goes (integer {n = i} {r}) = λ n b le lv h l. at_once b (e.Integer (pos i)) r _ (integer_read (reads n) b i r)
  goes (characters {s} {r}) = λ n b le lv h l. at_once b (e.Text s) r _ (characters_read (reads n) b s r)
  goes (is_true {r}) = λ n b le lv h l. at_once b (e.Truth true) r _ (constants_read (reads n) b r).0
  goes (is_false {r}) = λ n b le lv h l. at_once b (e.Truth false) r _ (constants_read (reads n) b r).1
  goes (dee {r}) = λ n b le lv h l. at_once b e.TableDee r _ (constants_read (reads n) b r).2
  goes (dum {r}) = λ n b le lv h l. at_once b e.TableDum r _ (constants_read (reads n) b r).3
  goes (a_variable {x} {r}) = variable_goes x r
  goes (call_none {x} {r}) = call_none_goes x r
  goes (call {x} {ts} {r} {all} d) = call_goes x ts r all (exprs_lead d refl) (list_read d refl)
  goes (brackets {ts} {r} {a} d) = brackets_goes ts r a (inner_by d (goes d) refl)
  goes (tuple_none {r}) = tuple_none_goes r
  goes (tuple {ts} {r} {xs} d) = tuple_goes ts r xs (beside_begins d refl) (named_list_read d (brace_ends r))
  goes (relation {ts} {r} {all} d) = relation_goes ts r all (exprs_lead d refl) (list_read d refl)
  goes (headed_none {ts} {r} {h} d) = headed_none_goes ts r h d
  goes (headed {ts} {mid} {r} {h} {all} d k) = headed_goes ts mid r h all d (exprs_lead k refl) (list_read k refl)
  goes (is_empty {ts} {r} {a} d) = is_empty_goes ts r a (inner_by d (goes d) refl)
  goes (count {ts} {r} {a} d) = count_goes ts r a (inner_by d (goes d) refl)
  goes (aggregate_all {g = v} {ts} {r} {a} d) = aggregate_all_goes v ts r a (inner_by d (goes d) refl)
  goes (aggregate_of {g = v} {ts} {mid} {r} {a} {b = c} d k) = aggregate_of_goes v ts mid r a c (omega (arith, shorter d)) (inner_by d (goes d) refl) (inner_by k (goes k) refl)
  goes (choice {ts} {second} {third} {r} {a} {b = c} {c = c'} d k j) = choice_goes ts second third r a c c' (omega (arith, shorter d)) (omega (arith, shorter k)) (inner_by d (goes d) refl) (inner_by k (goes k) refl) (inner_by j (goes j) refl)
  goes (extend {ts} {mid} {r} {a} {xs} d k) = extend_goes ts mid r a xs (omega (arith, shorter d)) (inner_by d (goes d) refl) (named_list_read k (bracket_ends r))
  goes (extend_assigned {ts} {mid} {r} {a} {xs} d k) = extend_assigned_goes ts mid r a xs (omega (arith, shorter d)) (inner_by d (goes d) refl) (named_list_read k (brace_ends r))
  goes (summarize {ts} {mid} {r} {a} {xs} d k) = summarize_goes ts mid r a xs (shorter d) (inner_by d (goes d) (summaries_goes k)) (summaries_begin k) (summaries_read k)
  goes (summarize_per {ts} {mid} {next} {r} {a} {b = c} {xs} d j k) = summarize_per_goes ts mid next r a c xs (omega (arith, shorter d)) (shorter j) (inner_by d (goes d) refl) (inner_by j (goes j) (summaries_goes k)) (summaries_read k)
  goes (summarize_by {ts} {mid} {next} {r} {a} {ys} {xs} d j k) = summarize_by_goes ts mid next r a ys xs (omega (arith, shorter d)) (inner_by d (goes d) refl) j (summaries_read k)

  postfix_turns : {a : Expr} {ts : Tokens} {c : Expr} {r : Tokens} → ReadsPostfix a ts c r → Turns a ts c r
  postfix_turns (where_ {a} {ts} {r} {b} d) = where_turns a b ts r (inner_by d (goes d))
  postfix_turns (rename {a} {ts} {r} {xs} d) = rename_turns a ts r xs d
  postfix_turns (rename_braces {a} {ts} {r} {xs} d) = rename_braces_turns a ts r xs d
  postfix_turns (nest {a} {g = v} {x} {ts} {r} {xs} d) = nest_turns v a x ts r xs d
  postfix_turns (nest_brackets {a} {g = v} {x} {ts} {r} {xs} d) = nest_brackets_turns v a x ts r xs d
  postfix_turns (unnest {a} {g = v} {x} {r}) = unnest_turns v a x r
  postfix_turns (unnest_brackets {a} {g = v} {x} {r}) = unnest_brackets_turns v a x r

  list_read : {ts : Tokens} {all : List Expr} {r : Tokens} → ReadsList ts all r → goes_on r ≡ false → Lists ts all r
  list_read (last_expr d) h n b le lv = one (inner_by d (goes d) h n b le (omega arith)) (shorter d)
  list_read (next_expr d k) h n b le lv = then_more (inner_by d (goes d) refl n b le (omega arith)) (omega (arith, shorter d)) (list_read k h n b (omega (arith, shorter d)) (omega arith))

  named_read : {m : Naming} {ts : Tokens} {x : Named Expr} {r : Tokens} → ReadsNamed m ts x r → Ends r → (n b : ℕ) → length ts ≤ n → levels x.value ≤ b → read.named_at (reads n) b m ts ≡ Some (x, r)
  named_read (name_after {x} {ts} {r} {a} d) h n b le lv = after_item x ts r a (inner_by d (goes d) refl) n b le lv
  named_read (name_assigned {x} {ts} {r} {a} d) h n b le lv = assigned_item x ts r a (inner_by d (goes d) h.0) n b (omega arith) lv
  named_read (name_beside {x} {ts} {r} {a} d) h n b le lv = beside_item x ts r a (inner_by d (goes d) h.0) n b (omega arith) lv

  pub named_list_read : {m : Naming} {ts : Tokens} {xs : List (Named Expr)} {r : Tokens} → ReadsNamedList m ts xs r → Ends r → NamedLists m ts xs r
  named_list_read (last_named d) h n b le lv = one (named_read d h n b le (omega arith)) (named_shorter d)
  named_list_read (next_named {mid} d k) h n b le lv = then_more (named_read d (comma_ends mid) n b le (omega arith)) (omega (arith, named_shorter d)) (named_list_read k h n b (omega (arith, named_shorter d)) (omega arith))

  summary_read : {ts : Tokens} {s : SummaryTerm Expr} {r : Tokens} → ReadsSummary ts s r → Ends r → SummaryReads ts s r
  summary_read (count_group {r}) h = count_reads r h.1
  summary_read (count_brackets {r}) h = count_brackets_reads r
  summary_read (summary_of {g = v} {ts} {r} {a} d) h = summary_of_reads v ts r a (inner_by d (goes d) refl)

  named_summary_read : {m : Naming} {ts : Tokens} {x : Named (SummaryTerm Expr)} {r : Tokens} → ReadsNamedSummary m ts x r → Ends r → (n b : ℕ) → length ts ≤ n → summary_levels x.value ≤ b → read.named_summary (reads n) b m ts ≡ Some (x, r)
  named_summary_read (summary_after {x} {ts} {r} {s} d) h n b le lv = summary_after_item x ts r s (summary_read d (as_ends (name x ∷ r))) n b le lv
  named_summary_read (summary_assigned {x} {ts} {r} {s} d) h n b le lv = summary_assigned_item x ts r s (summary_read d h) n b (omega arith) lv

  summary_list_read : {m : Naming} {ts : Tokens} {xs : List (Named (SummaryTerm Expr))} {r : Tokens} → ReadsSummaryList m ts xs r → Ends r → (n b : ℕ) → length ts ≤ n → summaries_levels xs ≤ b → ListOf (read.named_summary (reads n) b m) ts xs r
  summary_list_read (last_summary d) h n b le lv = one (named_summary_read d h n b le (omega arith)) (named_summary_shorter d)
  summary_list_read (next_summary {mid} d k) h n b le lv = then_more (named_summary_read d (comma_ends mid) n b le (omega arith)) (omega (arith, named_summary_shorter d)) (summary_list_read k h n b (omega (arith, named_summary_shorter d)) (omega arith))

  summaries_read : {ts : Tokens} {xs : List (Named (SummaryTerm Expr))} {r : Tokens} → ReadsSummaries ts xs r → Summaries ts xs r
  summaries_read (summaries {ts} {r} {xs} d) = summaries_goes_on ts r xs (summary_list_read d (bracket_ends r))
  summaries_read (summaries_assigned {ts} {r} {xs} d) = summaries_assigned_goes_on ts r xs (summary_list_read d (brace_ends r))

-- What the grammar derives, up to a place where neither the form nor a name goes on, is what the reader reads.
pub complete : {g : Form} {ts : Tokens} {a : Expr} {r : Tokens} → Reads g ts a r → Done g ts a r
complete {g = h} {ts = us} {a = c} {r = s} d = settle h us c s (goes d)

-- the same of an expression that is read with so many levels
pub read_nested : {ts : Tokens} {a : Expr} {r : Tokens} → Reads f.Expr ts a r → (n b : ℕ) → length ts ≤ n → levels a ≤ b → goes_on r ≡ false → reads n b f.Expr ts ≡ Some (a, r)
read_nested d n b le lv h = inner_by d (goes d) h n b le lv
