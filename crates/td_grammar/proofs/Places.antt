-- What a derivation says of its two places.
use Rattle.std.proofs.Common.{◌≡◌, ◌≤◌, ◌<◌, ℕ, suc, Bool, true, false, not, List, ◌∷◌, Option, Some, None, length, refl, ap, sym, subst, arith, if◌then◌else◌}
use Rattle.td_tokens.specs.declared.token.Word.{Word}
use Rattle.td_tokens.specs.declared.token.Word.TheVariants as w
use Rattle.td_tokens.specs.Lex.{Text, word, name, int, text}
use Rattle.td_grammar.specs.declared.forms.Form.{Form}
use Rattle.td_grammar.specs.declared.forms.Form.TheVariants as f
use Rattle.td_grammar.specs.declared.forms.Naming.{Naming}
use Rattle.td_syntax.specs.declared.tree.TypeExpr.{TypeExpr}
use Rattle.td_syntax.specs.declared.tree.Named.{Named}
use Rattle.td_syntax.specs.declared.tree.Attributes.{Attributes}
use Rattle.td_syntax.specs.declared.tree.Renaming.{Renaming}
use Rattle.td_syntax.specs.declared.tree.BinaryOperator.{BinaryOperator}
use Rattle.td_syntax.specs.declared.tree.BinaryOperator.TheVariants as binary
use Rattle.td_syntax.specs.declared.tree.Aggregate.{Aggregate}
use Rattle.td_syntax.specs.declared.tree.Aggregate.TheVariants as aggregate
use Rattle.td_syntax.specs.declared.tree.Nesting.{Nesting}
use Rattle.td_syntax.specs.declared.tree.Nesting.TheVariants as nesting
use Rattle.td_syntax.specs.declared.tree.SummaryTerm.{SummaryTerm}
use Rattle.td_syntax.specs.declared.tree.Expr.{Expr}
use Rattle.td_grammar.specs.Grammar.{Tokens, Infix, infix_at, infix_word, infix_after, not_matching, with_rest, target_at, assign_at, postfix, form_number, binds, aggregate_word, nest_word, unnest_word}
use Rattle.td_grammar.specs.Grammar.{IsList, last_item, next_item, IsName, a_name, IsRenaming, a_renaming, ReadsAttributes, no_names, names, but_none, but, ReadsType, boolean, integer_type, char, character, user, tuple_type, relation_type, ReadsHeading, no_fields, fields, ReadsFields, last_field, next_field}
use Rattle.td_grammar.specs.Grammar.{Reads, with_, with_assigned, greedy, one_and, more_or, one_not, more_and, not_, one_comparison, one_relational, compared, one_additive, more_relational, postfixed, one_multiplicative, more_additive, one_prefixed, more_multiplicative, negated, closure, tuple_from, name_from, one_projection, one_primary, project}
use Rattle.td_grammar.specs.Grammar.{integer, characters, is_true, is_false, dee, dum, a_variable, call_none, call, brackets, tuple_none, tuple, relation, headed_none, headed, is_empty, count, aggregate_all, aggregate_of, choice, extend, extend_assigned, summarize, summarize_per, summarize_by}
use Rattle.td_grammar.specs.Grammar.{ReadsPostfix, where_, rename, rename_braces, nest, nest_brackets, unnest, unnest_brackets, ReadsList, last_expr, next_expr, ReadsNamed, name_after, name_assigned, name_beside, ReadsNamedList, last_named, next_named, ReadsSummary, count_group, count_brackets, summary_of, ReadsNamedSummary, summary_after, summary_assigned, ReadsSummaryList, last_summary, next_summary, ReadsSummaries, summaries, summaries_assigned}

-- ---- first tokens

-- a type begins here
abbrev pub type_begins : Tokens → Bool
type_begins (word w.Boolean ∷ ts) = true
type_begins (word w.Integer ∷ ts) = true
type_begins (word w.Char ∷ ts) = true
type_begins (word w.Character ∷ ts) = true
type_begins (word w.Tuple ∷ ts) = true
type_begins (word w.Relation ∷ ts) = true
type_begins (name x ∷ ts) = true
type_begins _ = false

-- a name would go on here, or be the name of an attribute
abbrev pub goes_on : Tokens → Bool
goes_on (word w.OpenParenthesis ∷ ts) = not (target_at ts)
goes_on (word w.From ∷ ts) = true
goes_on (word w.Assign ∷ ts) = true
goes_on ts = type_begins ts

-- the number of the form that begins with a name, by what follows the name
abbrev pub name_lead : Tokens → ℕ
name_lead (word w.From ∷ ts) = 9
name_lead (word w.Assign ∷ ts) = 0
name_lead (word w.Boolean ∷ ts) = 0
name_lead (word w.Integer ∷ ts) = 0
name_lead (word w.Char ∷ ts) = 0
name_lead (word w.Character ∷ ts) = 0
name_lead (word w.Tuple ∷ ts) = 0
name_lead (word w.Relation ∷ ts) = 0
name_lead (name x ∷ ts) = 0
name_lead _ = 11

abbrev pub tuple_lead : Tokens → ℕ
tuple_lead (word w.From ∷ ts) = 9
tuple_lead _ = 11

-- the number of the form that begins here, by its first two tokens
abbrev pub lead : Tokens → ℕ
lead (word w.With ∷ ts) = 1
lead (word w.Not ∷ ts) = 4
lead (word w.Dash ∷ ts) = 9
lead (word w.Tclose ∷ ts) = 9
lead (word w.Tuple ∷ ts) = tuple_lead ts
lead (word w.True ∷ ts) = 11
lead (word w.False ∷ ts) = 11
lead (word w.TableDee ∷ ts) = 11
lead (word w.TableDum ∷ ts) = 11
lead (word w.OpenParenthesis ∷ ts) = if target_at ts then 0 else 11
lead (word w.Relation ∷ ts) = 11
lead (word w.IsEmpty ∷ ts) = 11
lead (word w.Count ∷ ts) = 11
lead (word w.Sum ∷ ts) = 11
lead (word w.Max ∷ ts) = 11
lead (word w.Min ∷ ts) = 11
lead (word w.And ∷ ts) = 11
lead (word w.Or ∷ ts) = 11
lead (word w.If ∷ ts) = 11
lead (word w.Extend ∷ ts) = 11
lead (word w.Summarize ∷ ts) = 11
lead (name x ∷ ts) = name_lead ts
lead (int n ∷ ts) = 11
lead (text s ∷ ts) = 11
lead _ = 0

abbrev pub rank : Form → ℕ
rank f.Expr = 1
rank f.Or = 2
rank f.And = 3
rank f.Not = 4
rank f.Comparison = 5
rank f.Relational = 6
rank f.Additive = 7
rank f.Multiplicative = 8
rank f.Prefixed = 9
rank f.Projection = 10
rank f.Primary = 11

-- ---- an infix operator at a place

pub none_some : {A : Type 0} {p : A} → None ≡ Some p → ⊥
none_some h = cc

with_rest_after : (ts : Tokens) (o : Option (ℕ × BinaryOperator)) (p : Infix) → with_rest ts o ≡ Some p → p.2 ≡ ts
with_rest_after ts None p h = absurd (none_some h)
with_rest_after ts (Some q) p h = let e : (q.0, q.1, ts) ≡ p = cc in ap (λ (x : Infix). x.2) (sym e)

not_matching_shorter : (ts : Tokens) (p : Infix) → not_matching ts ≡ Some p → length p.2 < suc (length ts)
not_matching_shorter (word w.Matching ∷ ts) p h = let e : (5, binary.NotMatching, ts) ≡ p = cc in subst (λ (x : Infix). length x.2 < suc (suc (length ts))) e (omega arith)
not_matching_shorter _ p h = absurd (none_some h)

infix_after_shorter : (v : Word) (ts : Tokens) (p : Infix) → infix_after v ts ≡ Some p → length p.2 < suc (length ts)
infix_after_shorter w.Not ts p h = not_matching_shorter ts p h
infix_after_shorter v ts p h = let e = ap length (with_rest_after ts (infix_word v) p h) in omega (arith, e)

pub infix_shorter : (ts : Tokens) (p : Infix) → infix_at ts ≡ Some p → length p.2 < length ts
infix_shorter (word v ∷ ts) p h = infix_after_shorter v ts p h
infix_shorter _ p h = absurd (none_some h)

pub infix_goes : (ts : Tokens) (p : Infix) → infix_at ts ≡ Some p → goes_on ts ≡ false
infix_goes (word w.OpenParenthesis ∷ ts) p h = absurd (none_some h)
infix_goes (word w.From ∷ ts) p h = absurd (none_some h)
infix_goes (word w.Assign ∷ ts) p h = absurd (none_some h)
infix_goes (word w.Boolean ∷ ts) p h = absurd (none_some h)
infix_goes (word w.Integer ∷ ts) p h = absurd (none_some h)
infix_goes (word w.Char ∷ ts) p h = absurd (none_some h)
infix_goes (word w.Character ∷ ts) p h = absurd (none_some h)
infix_goes (word w.Tuple ∷ ts) p h = absurd (none_some h)
infix_goes (word w.Relation ∷ ts) p h = absurd (none_some h)
infix_goes (name x ∷ ts) p h = absurd (none_some h)
infix_goes _ p h = refl

pub infix_binds : (ts : Tokens) (p : Infix) → infix_at ts ≡ Some p → binds ts ≡ p.0
unfolding binds
infix_binds ts p h = ap (λ o. form_number o (postfix ts)) h

-- ---- lists, names and types

pub list_shorter : {A : Type 0} {Item : Tokens → A → Tokens → Type 0} → ((ts : Tokens) (x : A) (r : Tokens) → Item ts x r → length r < length ts) → {ts : Tokens} {xs : List A} {r : Tokens} → IsList Item ts xs r → length r < length ts
list_shorter each (last_item {ts} {r} {x} d) = each ts x r d
list_shorter each (next_item {ts} {mid} {r} {x} {xs} d e) = omega (arith, each ts x _ d, list_shorter each e)

pub name_shorter : {ts : Tokens} {x : Text} {r : Tokens} → IsName ts x r → length r < length ts
name_shorter a_name = omega arith

pub renaming_shorter : {ts : Tokens} {x : Renaming} {r : Tokens} → IsRenaming ts x r → length r < length ts
renaming_shorter a_renaming = omega arith

pub attributes_shorter : {ts : Tokens} {xs : Attributes} {r : Tokens} → ReadsAttributes ts xs r → length r < length ts
attributes_shorter no_names = omega arith
attributes_shorter (names d) = omega (arith, list_shorter (λ ts x r c. name_shorter c) d)
attributes_shorter but_none = omega arith
attributes_shorter (but d) = omega (arith, list_shorter (λ ts x r c. name_shorter c) d)

mutual
  pub type_shorter : {ts : Tokens} {a : TypeExpr} {r : Tokens} → ReadsType ts a r → length r < length ts
  type_shorter boolean = omega arith
  type_shorter integer_type = omega arith
  type_shorter char = omega arith
  type_shorter character = omega arith
  type_shorter user = omega arith
  type_shorter (tuple_type d) = omega (arith, heading_shorter d)
  type_shorter (relation_type d) = omega (arith, heading_shorter d)

  pub heading_shorter : {ts : Tokens} {h : List (Named TypeExpr)} {r : Tokens} → ReadsHeading ts h r → length r < length ts
  heading_shorter no_fields = omega arith
  heading_shorter (fields d) = omega (arith, fields_shorter d)

  pub fields_shorter : {ts : Tokens} {h : List (Named TypeExpr)} {r : Tokens} → ReadsFields ts h r → length r < length ts
  fields_shorter (last_field d) = omega (arith, type_shorter d)
  fields_shorter (next_field d e) = omega (arith, type_shorter d, fields_shorter e)

-- ---- every form takes a token

mutual
  pub shorter : {f : Form} {ts : Tokens} {a : Expr} {r : Tokens} → Reads f ts a r → length r < length ts
  shorter (with_ d e) = omega (arith, named_list_shorter d, shorter e)
  shorter (with_assigned d e) = omega (arith, named_list_shorter d, shorter e)
  shorter (greedy d e) = shorter d
  shorter (one_and d) = shorter d
  shorter (more_or d i e) = omega (arith, shorter d, infix_shorter _ _ i, shorter e)
  shorter (one_not d) = shorter d
  shorter (more_and d i e) = omega (arith, shorter d, infix_shorter _ _ i, shorter e)
  shorter (not_ d) = omega (arith, shorter d)
  shorter (one_comparison d) = shorter d
  shorter (one_relational d) = shorter d
  shorter (compared d i e) = omega (arith, shorter d, infix_shorter _ _ i, shorter e)
  shorter (one_additive d) = shorter d
  shorter (more_relational d i e) = omega (arith, shorter d, infix_shorter _ _ i, shorter e)
  shorter (postfixed d e) = omega (arith, shorter d, postfix_shorter e)
  shorter (one_multiplicative d) = shorter d
  shorter (more_additive d i e) = omega (arith, shorter d, infix_shorter _ _ i, shorter e)
  shorter (one_prefixed d) = shorter d
  shorter (more_multiplicative d i e) = omega (arith, shorter d, infix_shorter _ _ i, shorter e)
  shorter (negated d) = omega (arith, shorter d)
  shorter (closure d) = omega (arith, shorter d)
  shorter (tuple_from d) = omega (arith, shorter d)
  shorter (name_from d) = omega (arith, shorter d)
  shorter (one_projection d) = shorter d
  shorter (one_primary d) = shorter d
  shorter (project d e) = omega (arith, shorter d, attributes_shorter e)
  shorter integer = omega arith
  shorter characters = omega arith
  shorter is_true = omega arith
  shorter is_false = omega arith
  shorter dee = omega arith
  shorter dum = omega arith
  shorter a_variable = omega arith
  shorter call_none = omega arith
  shorter (call d) = omega (arith, exprs_shorter d)
  shorter (brackets d) = omega (arith, shorter d)
  shorter tuple_none = omega arith
  shorter (tuple d) = omega (arith, named_list_shorter d)
  shorter (relation d) = omega (arith, exprs_shorter d)
  shorter (headed_none d) = omega (arith, heading_shorter d)
  shorter (headed d e) = omega (arith, heading_shorter d, exprs_shorter e)
  shorter (is_empty d) = omega (arith, shorter d)
  shorter (count d) = omega (arith, shorter d)
  shorter (aggregate_all d) = omega (arith, shorter d)
  shorter (aggregate_of d e) = omega (arith, shorter d, shorter e)
  shorter (choice c d e) = omega (arith, shorter c, shorter d, shorter e)
  shorter (extend d e) = omega (arith, shorter d, named_list_shorter e)
  shorter (extend_assigned d e) = omega (arith, shorter d, named_list_shorter e)
  shorter (summarize d e) = omega (arith, shorter d, summaries_shorter e)
  shorter (summarize_per d c e) = omega (arith, shorter d, shorter c, summaries_shorter e)
  shorter (summarize_by d c e) = omega (arith, shorter d, attributes_shorter c, summaries_shorter e)

  pub postfix_shorter : {a : Expr} {ts : Tokens} {b : Expr} {r : Tokens} → ReadsPostfix a ts b r → length r < length ts
  postfix_shorter (where_ d) = omega (arith, shorter d)
  postfix_shorter (rename d) = omega (arith, list_shorter (λ ts x r c. renaming_shorter c) d)
  postfix_shorter (rename_braces d) = omega (arith, list_shorter (λ ts x r c. renaming_shorter c) d)
  postfix_shorter (nest d) = omega (arith, attributes_shorter d)
  postfix_shorter (nest_brackets d) = omega (arith, attributes_shorter d)
  postfix_shorter unnest = omega arith
  postfix_shorter unnest_brackets = omega arith

  pub exprs_shorter : {ts : Tokens} {all : List Expr} {r : Tokens} → ReadsList ts all r → length r < length ts
  exprs_shorter (last_expr d) = shorter d
  exprs_shorter (next_expr d e) = omega (arith, shorter d, exprs_shorter e)

  pub named_shorter : {k : Naming} {ts : Tokens} {x : Named Expr} {r : Tokens} → ReadsNamed k ts x r → length r < length ts
  named_shorter (name_after d) = omega (arith, shorter d)
  named_shorter (name_assigned d) = omega (arith, shorter d)
  named_shorter (name_beside d) = omega (arith, shorter d)

  pub named_list_shorter : {k : Naming} {ts : Tokens} {xs : List (Named Expr)} {r : Tokens} → ReadsNamedList k ts xs r → length r < length ts
  named_list_shorter (last_named d) = named_shorter d
  named_list_shorter (next_named d e) = omega (arith, named_shorter d, named_list_shorter e)

  pub summary_shorter : {ts : Tokens} {s : SummaryTerm Expr} {r : Tokens} → ReadsSummary ts s r → length r < length ts
  summary_shorter count_group = omega arith
  summary_shorter count_brackets = omega arith
  summary_shorter (summary_of d) = omega (arith, shorter d)

  pub named_summary_shorter : {k : Naming} {ts : Tokens} {x : Named (SummaryTerm Expr)} {r : Tokens} → ReadsNamedSummary k ts x r → length r < length ts
  named_summary_shorter (summary_after d) = omega (arith, summary_shorter d)
  named_summary_shorter (summary_assigned d) = omega (arith, summary_shorter d)

  pub summary_list_shorter : {k : Naming} {ts : Tokens} {xs : List (Named (SummaryTerm Expr))} {r : Tokens} → ReadsSummaryList k ts xs r → length r < length ts
  summary_list_shorter (last_summary d) = named_summary_shorter d
  summary_list_shorter (next_summary d e) = omega (arith, named_summary_shorter d, summary_list_shorter e)

  pub summaries_shorter : {ts : Tokens} {xs : List (Named (SummaryTerm Expr))} {r : Tokens} → ReadsSummaries ts xs r → length r < length ts
  summaries_shorter (summaries d) = omega (arith, summary_list_shorter d)
  summaries_shorter (summaries_assigned d) = omega (arith, summary_list_shorter d)

-- ---- the first two tokens of a form

name_leads : (ts : Tokens) → goes_on ts ≡ false → name_lead ts ≡ 11
name_leads (word w.From ∷ ts) h = absurd (let no : ⊥ = cc in no)
name_leads (word w.Assign ∷ ts) h = absurd (let no : ⊥ = cc in no)
name_leads (word w.Boolean ∷ ts) h = absurd (let no : ⊥ = cc in no)
name_leads (word w.Integer ∷ ts) h = absurd (let no : ⊥ = cc in no)
name_leads (word w.Char ∷ ts) h = absurd (let no : ⊥ = cc in no)
name_leads (word w.Character ∷ ts) h = absurd (let no : ⊥ = cc in no)
name_leads (word w.Tuple ∷ ts) h = absurd (let no : ⊥ = cc in no)
name_leads (word w.Relation ∷ ts) h = absurd (let no : ⊥ = cc in no)
name_leads (name x ∷ ts) h = absurd (let no : ⊥ = cc in no)
name_leads _ h = refl

pub attributes_goes : {ts : Tokens} {xs : Attributes} {r : Tokens} → ReadsAttributes ts xs r → goes_on ts ≡ false
attributes_goes no_names = refl
attributes_goes (names d) = refl
attributes_goes but_none = refl
attributes_goes (but d) = refl

nest_goes : (g : Nesting) (ts : Tokens) → (goes_on (word (nest_word g) ∷ ts) ≡ false) × (postfix (word (nest_word g) ∷ ts) ≡ 5)
nest_goes nesting.Group ts = (refl, refl)
nest_goes nesting.Wrap ts = (refl, refl)

unnest_goes : (g : Nesting) (ts : Tokens) → (goes_on (word (unnest_word g) ∷ ts) ≡ false) × (postfix (word (unnest_word g) ∷ ts) ≡ 5)
unnest_goes nesting.Group ts = (refl, refl)
unnest_goes nesting.Wrap ts = (refl, refl)

pub postfix_goes : {a : Expr} {ts : Tokens} {b : Expr} {r : Tokens} → ReadsPostfix a ts b r → goes_on ts ≡ false
postfix_goes (where_ d) = refl
postfix_goes (rename d) = refl
postfix_goes (rename_braces d) = refl
postfix_goes (nest {g = g} d) = (nest_goes g _).0
postfix_goes (nest_brackets {g = g} d) = (nest_goes g _).0
postfix_goes (unnest {g = g}) = (unnest_goes g _).0
postfix_goes (unnest_brackets {g = g}) = (unnest_goes g _).0

nest_binds : (g : Nesting) (ts : Tokens) → binds (word (nest_word g) ∷ ts) ≡ 5
unfolding binds
nest_binds nesting.Group ts = refl
nest_binds nesting.Wrap ts = refl

unnest_binds : (g : Nesting) (ts : Tokens) → binds (word (unnest_word g) ∷ ts) ≡ 5
unfolding binds
unnest_binds nesting.Group ts = refl
unnest_binds nesting.Wrap ts = refl

pub postfix_binds : {a : Expr} {ts : Tokens} {b : Expr} {r : Tokens} → ReadsPostfix a ts b r → binds ts ≡ 5
unfolding binds
postfix_binds (where_ d) = refl
postfix_binds (rename d) = refl
postfix_binds (rename_braces d) = refl
postfix_binds (nest {g = g} d) = nest_binds g _
postfix_binds (nest_brackets {g = g} d) = nest_binds g _
postfix_binds (unnest {g = g}) = unnest_binds g _
postfix_binds (unnest_brackets {g = g}) = unnest_binds g _

aggregate_leads : (g : Aggregate) (ts : Tokens) → lead (word (aggregate_word g) ∷ ts) ≡ 11
aggregate_leads aggregate.Sum ts = refl
aggregate_leads aggregate.Max ts = refl
aggregate_leads aggregate.Min ts = refl
aggregate_leads aggregate.And ts = refl
aggregate_leads aggregate.Or ts = refl

no_assign : (ts : Tokens) → 1 ≤ name_lead ts → assign_at ts ≡ false
no_assign (word w.Assign ∷ ts) h = absurd (omega arith)
no_assign _ h = refl

pub no_target : (ts : Tokens) → 1 ≤ lead ts → target_at ts ≡ false
no_target (name x ∷ ts) h = no_assign ts h
no_target _ h = refl

bracket_leads : (ts : Tokens) → 1 ≤ lead ts → lead (word w.OpenParenthesis ∷ ts) ≡ 11
bracket_leads ts h = rw (no_target ts h) refl

pub leads : {f : Form} {ts : Tokens} {a : Expr} {r : Tokens} → Reads f ts a r → goes_on r ≡ false → rank f ≤ lead ts
leads (with_ d e) g = omega arith
leads (with_assigned d e) g = omega arith
leads (greedy d e) g = omega (arith, leads d g)
leads (one_and d) g = omega (arith, leads d g)
leads (more_or d i e) g = leads d (infix_goes _ _ i)
leads (one_not d) g = omega (arith, leads d g)
leads (more_and d i e) g = leads d (infix_goes _ _ i)
leads (not_ d) g = omega arith
leads (one_comparison d) g = omega (arith, leads d g)
leads (one_relational d) g = omega (arith, leads d g)
leads (compared d i e) g = omega (arith, leads d (infix_goes _ _ i))
leads (one_additive d) g = omega (arith, leads d g)
leads (more_relational d i e) g = leads d (infix_goes _ _ i)
leads (postfixed d e) g = leads d (postfix_goes e)
leads (one_multiplicative d) g = omega (arith, leads d g)
leads (more_additive d i e) g = leads d (infix_goes _ _ i)
leads (one_prefixed d) g = omega (arith, leads d g)
leads (more_multiplicative d i e) g = leads d (infix_goes _ _ i)
leads (negated d) g = omega arith
leads (closure d) g = omega arith
leads (tuple_from d) g = omega arith
leads (name_from d) g = omega arith
leads (one_projection d) g = omega (arith, leads d g)
leads (one_primary d) g = omega (arith, leads d g)
leads (project d e) g = leads d (attributes_goes e)
leads integer g = omega arith
leads characters g = omega arith
leads is_true g = omega arith
leads is_false g = omega arith
leads dee g = omega arith
leads dum g = omega arith
leads (a_variable {x} {r}) g = omega (arith, name_leads r g)
leads call_none g = omega arith
leads (call d) g = omega arith
leads (brackets {ts} d) g = omega (arith, bracket_leads ts (leads d refl))
leads tuple_none g = omega arith
leads (tuple d) g = omega arith
leads (relation d) g = omega arith
leads (headed_none d) g = omega arith
leads (headed d e) g = omega arith
leads (is_empty d) g = omega arith
leads (count d) g = omega arith
leads (aggregate_all {g = v} {ts = us} d) g = omega (arith, aggregate_leads v (word w.OpenParenthesis ∷ us))
leads (aggregate_of {g = v} {ts = us} d e) g = omega (arith, aggregate_leads v (word w.OpenParenthesis ∷ us))
leads (choice c d e) g = omega arith
leads (extend d e) g = omega arith
leads (extend_assigned d e) g = omega arith
leads (summarize d e) g = omega arith
leads (summarize_per d c e) g = omega arith
leads (summarize_by d c e) g = omega arith

pub exprs_lead : {ts : Tokens} {all : List Expr} {r : Tokens} → ReadsList ts all r → goes_on r ≡ false → 1 ≤ lead ts
exprs_lead (last_expr d) g = leads d g
exprs_lead (next_expr d e) g = leads d refl

pub summaries_goes : {ts : Tokens} {xs : List (Named (SummaryTerm Expr))} {r : Tokens} → ReadsSummaries ts xs r → goes_on ts ≡ false
summaries_goes (summaries d) = refl
summaries_goes (summaries_assigned d) = refl

-- the greedy rule
pub expr_ends : {ts : Tokens} {a : Expr} {r : Tokens} → Reads f.Expr ts a r → binds r ≡ 0
expr_ends (with_ d e) = expr_ends e
expr_ends (with_assigned d e) = expr_ends e
expr_ends (greedy d z) = z
