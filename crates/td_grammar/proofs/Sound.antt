-- What the reader reads, the grammar derives.
use Rattle.std.proofs.Common.{◌≡◌, ◌≤◌, ◌==◌, ◌⊎◌, inl, inr, ℕ, pos, zero, suc, Bool, true, false, cond, List, [], ◌∷◌, ◌++◌, Option, Some, None, length, refl, ap, sym, ◌∙◌, subst, arith, rules, append_assoc, if◌then◌else◌, ◌&&◌, nat_le}
use Rattle.std.proofs.lemmas.Bool.{leb-true}
use denote.Enum.Bare.{same_true}
use Rattle.td_tokens.specs.contracts.token.Word.{the_type}
use Rattle.td_tokens.specs.declared.token.Word.{Word}
use Rattle.td_tokens.specs.declared.token.Word.TheVariants as w
use Rattle.td_tokens.specs.Lex.{Text, word, name, int, text}
use Rattle.td_grammar.specs.declared.forms.Form.{Form}
use Rattle.td_grammar.specs.declared.forms.Form.TheVariants as f
use Rattle.td_grammar.specs.declared.forms.Naming.{Naming}
use Rattle.td_grammar.specs.declared.forms.Naming.TheVariants as naming
use Rattle.td_syntax.specs.declared.tree.TypeExpr.{TypeExpr}
use Rattle.td_syntax.specs.declared.tree.TypeExpr.TheVariants as t
use Rattle.td_syntax.specs.declared.tree.Named.{Named}
use Rattle.td_syntax.specs.declared.tree.Attributes.{Attributes}
use Rattle.td_syntax.specs.declared.tree.Attributes.TheVariants as attributes
use Rattle.td_syntax.specs.declared.tree.Renaming.{Renaming}
use Rattle.td_syntax.specs.declared.tree.UnaryOperator.{UnaryOperator}
use Rattle.td_syntax.specs.declared.tree.UnaryOperator.TheVariants as unary
use Rattle.td_syntax.specs.declared.tree.BinaryOperator.{BinaryOperator}
use Rattle.td_syntax.specs.declared.tree.Aggregate.{Aggregate}
use Rattle.td_syntax.specs.declared.tree.Aggregate.TheVariants as aggregate
use Rattle.td_syntax.specs.declared.tree.Nesting.{Nesting}
use Rattle.td_syntax.specs.declared.tree.Nesting.TheVariants as nesting
use Rattle.td_syntax.specs.declared.tree.Extension.TheVariants as extension
use Rattle.td_syntax.specs.declared.tree.SummaryTerm.{SummaryTerm}
use Rattle.td_syntax.specs.declared.tree.SummaryTerm.TheVariants as summary
use Rattle.td_syntax.specs.declared.tree.Groups.TheVariants as groups
use Rattle.td_syntax.specs.declared.tree.Expr.{Expr}
use Rattle.td_syntax.specs.declared.tree.Expr.TheVariants as e
use Rattle.td_syntax.specs.Levels.{levels}
use Rattle.td_grammar.specs.Grammar.{Tokens, Infix, infix_at, target_at, postfix, form_number, binds, aggregate_word, nest_word, unnest_word}
use Rattle.td_grammar.specs.Grammar.{IsList, last_item, next_item, IsName, a_name, IsRenaming, a_renaming, ReadsAttributes, no_names, names, but_none, but, ReadsType, boolean, integer_type, char, character, user, tuple_type, relation_type, ReadsHeading, no_fields, fields, ReadsFields, last_field, next_field}
use Rattle.td_grammar.specs.Grammar.{Reads, with_, with_assigned, greedy, one_and, more_or, one_not, more_and, not_, one_comparison, one_relational, compared, one_additive, more_relational, postfixed, one_multiplicative, more_additive, one_prefixed, more_multiplicative, negated, closure, tuple_from, name_from, one_projection, one_primary, project}
use Rattle.td_grammar.specs.Grammar.{integer, characters, is_true, is_false, dee, dum, a_variable, call_none, call, brackets, tuple_none, tuple, relation, headed_none, headed, is_empty, count, aggregate_all, aggregate_of, choice, extend, extend_assigned, summarize, summarize_per, summarize_by}
use Rattle.td_grammar.specs.Grammar.{ReadsPostfix, where_, rename, rename_braces, nest, nest_brackets, unnest, unnest_brackets, ReadsList, last_expr, next_expr, ReadsNamed, name_after, name_assigned, name_beside, ReadsNamedList, last_named, next_named, ReadsSummary, count_group, count_brackets, summary_of, ReadsNamedSummary, summary_after, summary_assigned, ReadsSummaryList, last_summary, next_summary, ReadsSummaries, summaries, summaries_assigned}
use Rattle.td_grammar.specs.ForProofs.Reader as read
use Rattle.td_grammar.specs.ForProofs.Reader.{Outcome, Reader, and_then, pure, refuse, same_word, look, at, tail, eat, expect, take_name, take_text, take_integer, at_name, at_type, take_infix, list_from, list_at, listed, up_to, renaming_at, attributes_at, field_of, heading_of, type_of, type_at, heading_at, climb, binary_turn, project_turn, shut, form_at, within, reads}
use Rattle.td_grammar.proofs.Places.{none_some}

-- ---- taking a run apart

pub bound : {A B : Type 0} (o : Outcome A) (g : A → Reader B) (p : B × Tokens) → and_then o g ≡ Some p → (x : A) × (s : Tokens) × (o ≡ Some (x, s)) × (g x s ≡ Some p)
bound None g p h = absurd (none_some h)
bound (Some q) g p h = (q.0, q.1, refl, h)

pub parts : {A : Type 0} (x y : A) (r s : Tokens) → ◌≡◌ {A = Outcome A} (Some (x, r)) (Some (y, s)) → (x ≡ y) × (r ≡ s)
parts x y r s h = let q : ◌≡◌ {A = _ × Tokens} (x, r) (y, s) = cc in (ap (λ (p : _ × Tokens). p.0) q, ap (λ (p : _ × Tokens). p.1) q)

pub tested : {B : Type 0} (t : Bool) (x y : Outcome B) (p : B × Tokens) → cond t x y ≡ Some p → ((t ≡ true) × (x ≡ Some p)) ⊎ ((t ≡ false) × (y ≡ Some p))
tested true x y p h = inl (refl, h)
tested false x y p h = inr (refl, h)

pub both : (x y : Bool) → (x && y) ≡ true → (x ≡ true) × (y ≡ true)
both true true h = (refl, refl)
both true false h = absurd (let no : ⊥ = cc in no)
both false y h = absurd (let no : ⊥ = cc in no)

pub at_word : (v : Word) (ts : Tokens) → at v ts ≡ true → ts ≡ word v ∷ tail ts
unfolding at same_word
at_word v (word u ∷ ts) h = ap (λ x. word x ∷ ts) (same_true the_type (search rules) u v h)
at_word v [] h = absurd (let no : ⊥ = cc in no)
at_word v (name x ∷ ts) h = absurd (let no : ⊥ = cc in no)
at_word v (int n ∷ ts) h = absurd (let no : ⊥ = cc in no)
at_word v (text s ∷ ts) h = absurd (let no : ⊥ = cc in no)

eaten_by : {B : Type 0} (v : Word) (s : Tokens) (g : Bool → Reader B) (p : B × Tokens) (c : Bool) → at v s ≡ c → and_then (Some (cond c (true, tail s) (false, s))) g ≡ Some p → ((s ≡ word v ∷ tail s) × (g true (tail s) ≡ Some p)) ⊎ (g false s ≡ Some p)
eaten_by v s g p true t h = inl (at_word v s t, h)
eaten_by v s g p false t h = inr h

pub eaten : {B : Type 0} (v : Word) (s : Tokens) (g : Bool → Reader B) (p : B × Tokens) → and_then (eat v s) g ≡ Some p → ((s ≡ word v ∷ tail s) × (g true (tail s) ≡ Some p)) ⊎ (g false s ≡ Some p)
unfolding eat
eaten v s g p h = eaten_by v s g p (at v s) refl h

expected_by : (v : Word) (ts : Tokens) (u : Unit {0}) (r : Tokens) (c : Bool) → at v ts ≡ c → ◌≡◌ {A = Outcome (Unit {0})} (cond c (Some (tt, tail ts)) None) (Some (u, r)) → ts ≡ word v ∷ r
expected_by v ts u r true t h = at_word v ts t ∙ ap (λ x. word v ∷ x) (parts tt u (tail ts) r h).1
expected_by v ts u r false t h = absurd (none_some h)

-- a word, and what follows
pub expected : {B : Type 0} (v : Word) (ts : Tokens) (g : Unit {0} → Reader B) (p : B × Tokens) → and_then (expect v ts) g ≡ Some p → (r : Tokens) × (ts ≡ word v ∷ r) × (g tt r ≡ Some p)
unfolding expect
expected v ts g p h =
    let c = bound (expect v ts) g p h in
    (c.1, expected_by v ts c.0 c.1 (at v ts) refl c.2, c.3)

named_token : (ts : Tokens) (x : Text) (r : Tokens) → take_name ts ≡ Some (x, r) → ts ≡ name x ∷ r
unfolding take_name
named_token (name y ∷ ts) x r h = let p = parts y x ts r h in ap (λ z. name z ∷ ts) p.0 ∙ ap (λ s. name x ∷ s) p.1
named_token [] x r h = absurd (none_some h)
named_token (word v ∷ ts) x r h = absurd (none_some h)
named_token (int n ∷ ts) x r h = absurd (none_some h)
named_token (text s ∷ ts) x r h = absurd (none_some h)

-- a name, and what follows
pub a_name_read : {B : Type 0} (ts : Tokens) (g : Text → Reader B) (p : B × Tokens) → and_then (take_name ts) g ≡ Some p → (x : Text) × (r : Tokens) × (ts ≡ name x ∷ r) × (g x r ≡ Some p)
a_name_read ts g p h =
    let c = bound (take_name ts) g p h in
    (c.0, c.1, named_token ts c.0 c.1 c.2, c.3)

-- what is derived at the pair that was made is derived at the pair that was read
pub made : {A : Type 0} (P : A → Tokens → Type 0) (a : A) (r : Tokens) (p : A × Tokens) → P a r → ◌≡◌ {A = Outcome A} (Some (a, r)) (Some p) → P p.0 p.1
made P a r p d h = let q : ◌≡◌ {A = _ × Tokens} (a, r) p = cc in subst (λ (x : _ × Tokens). P x.0 x.1) q d

-- ---- lists

pub data Run {A : Type 0} (item : Reader A) : Tokens → List A → Tokens → Type 0 where
  last : {ts r : Tokens} {x : A} → item ts ≡ Some (x, r) → Run item ts (x ∷ []) r
  next : {ts mid r : Tokens} {x : A} {xs : List A} → item ts ≡ Some (x, word w.Comma ∷ mid) → Run item mid xs r → Run item ts (x ∷ xs) r

list_sound : {A : Type 0} (item : Reader A) (m : ℕ) (found : List A) (ts : Tokens) (all : List A) (r : Tokens) → list_from item m found ts ≡ Some (all, r) → (xs : List A) × (all ≡ found ++ xs) × Run item ts xs r
unfolding list_from
list_sound item zero found ts all r h = absurd (none_some h)
list_sound {A = A} item (suc m) found ts all r h =
    let c = bound (item ts) _ (all, r) h in
    elim (eaten w.Comma c.1 (λ more. if more then list_from item m (found ++ c.0 ∷ []) else pure (found ++ c.0 ∷ [])) (all, r) c.3) [
      | inl q ↦ (let d = list_sound item m (found ++ c.0 ∷ []) (tail c.1) all r q.1 in
          (c.0 ∷ d.0, d.1 ∙ append_assoc found (c.0 ∷ []) d.0, next (c.2 ∙ ap (λ s. Some (c.0, s)) q.0) d.2))
      | inr q ↦ (let z = parts (found ++ c.0 ∷ []) all c.1 r q in (c.0 ∷ [], sym z.0, last (c.2 ∙ ap (λ s. Some (c.0, s)) z.1)))
    ]

-- a list, and what follows
pub list_run : {A B : Type 0} (item : Reader A) (ts : Tokens) (g : List A → Reader B) (p : B × Tokens) → and_then (list_at item ts) g ≡ Some p → (xs : List A) × (r : Tokens) × Run item ts xs r × (g xs r ≡ Some p)
list_run item ts g p h =
    let c = bound (list_at item ts) g p h in
    let l = list_sound item (length ts) [] ts c.0 c.1 c.2 in
    (c.0, c.1, subst (λ ys. Run item ts ys c.1) (sym l.1) l.2, c.3)

pub listed_run : {A : Type 0} (v : Word) (item : Reader A) (ts : Tokens) (xs : List A) (r : Tokens) → listed v item ts ≡ Some (xs, r) → Run item ts xs (word v ∷ r)
unfolding listed
listed_run v item ts xs r h =
    let l = list_run item ts _ (xs, r) h in
    let c = expected v l.1 _ (xs, r) l.3 in
    made (λ ys s. Run item ts ys (word v ∷ s)) l.0 c.0 (xs, r) (subst (λ s. Run item ts l.0 s) c.1 l.2) c.2

pub up_to_run : {A : Type 0} (v : Word) (item : Reader A) (ts : Tokens) (xs : List A) (r : Tokens) → up_to v item ts ≡ Some (xs, r) → (([] ≡ xs) × (ts ≡ word v ∷ r)) ⊎ Run item ts xs (word v ∷ r)
unfolding up_to
up_to_run v item ts xs r h =
    elim (eaten v ts (λ empty. if empty then pure [] else listed v item) (xs, r) h) [
      | inl q ↦ (let z = parts [] xs (tail ts) r q.1 in inl (z.0, q.0 ∙ ap (λ s. word v ∷ s) z.1))
      | inr q ↦ inr (listed_run v item ts xs r q)
    ]

names_of : (ts : Tokens) (xs : List Text) (r : Tokens) → Run take_name ts xs r → IsList IsName ts xs r
names_of ts xs r (last {ts = us} {x = x} h) = last_item (subst (λ vs. IsName vs x r) (sym (named_token us x r h)) a_name)
names_of ts xs r (next {ts = us} {mid} {x = x} {xs = ys} h d) = next_item (subst (λ vs. IsName vs x (word w.Comma ∷ mid)) (sym (named_token us x (word w.Comma ∷ mid) h)) a_name) (names_of mid ys r d)

renaming_sound : (ts : Tokens) (p : Renaming × Tokens) → renaming_at ts ≡ Some p → IsRenaming ts p.0 p.1
unfolding renaming_at
renaming_sound ts p h =
    let x = a_name_read ts _ p h in
    let c = expected w.As x.1 _ p x.3 in
    let y = a_name_read c.0 _ p c.2 in
    made (IsRenaming ts) (record { from = x.0; to = y.0 }) y.1 p (subst (λ us. IsRenaming us (record { from = x.0; to = y.0 }) y.1) (sym (x.2 ∙ ap (λ s. name x.0 ∷ s) (c.1 ∙ ap (λ s. word w.As ∷ s) y.2))) a_renaming) y.3

renamings_of : (ts : Tokens) (xs : List Renaming) (r : Tokens) → Run renaming_at ts xs r → IsList IsRenaming ts xs r
renamings_of ts xs r (last h) = last_item (renaming_sound ts _ h)
renamings_of ts xs r (next {mid = mid} {xs = ys} h d) = next_item (renaming_sound ts _ h) (renamings_of mid ys r d)

-- names after a brace
names_shut : (ts : Tokens) (xs : List Text) (r : Tokens) → up_to w.CloseBrace take_name ts ≡ Some (xs, r) → (([] ≡ xs) × (ts ≡ word w.CloseBrace ∷ r)) ⊎ IsList IsName ts xs (word w.CloseBrace ∷ r)
names_shut ts xs r h =
    elim (up_to_run w.CloseBrace take_name ts xs r h) [ inl q ↦ inl q | inr q ↦ inr (names_of ts xs (word w.CloseBrace ∷ r) q) ]

only_made : (ts : Tokens) (xs : List Text) (r : Tokens) → (([] ≡ xs) × (ts ≡ word w.CloseBrace ∷ r)) ⊎ IsList IsName ts xs (word w.CloseBrace ∷ r) → ReadsAttributes (word w.OpenBrace ∷ ts) (attributes.Only xs) r
only_made ts xs r (inl q) = subst (λ us. ReadsAttributes (word w.OpenBrace ∷ us) (attributes.Only xs) r) (sym q.1) (subst (λ ys. ReadsAttributes (word w.OpenBrace ∷ word w.CloseBrace ∷ r) (attributes.Only ys) r) q.0 no_names)
only_made ts xs r (inr q) = names q

but_made : (ts : Tokens) (xs : List Text) (r : Tokens) → (([] ≡ xs) × (ts ≡ word w.CloseBrace ∷ r)) ⊎ IsList IsName ts xs (word w.CloseBrace ∷ r) → ReadsAttributes (word w.OpenBrace ∷ word w.All ∷ word w.But ∷ ts) (attributes.AllBut xs) r
but_made ts xs r (inl q) = subst (λ us. ReadsAttributes (word w.OpenBrace ∷ word w.All ∷ word w.But ∷ us) (attributes.AllBut xs) r) (sym q.1) (subst (λ ys. ReadsAttributes (word w.OpenBrace ∷ word w.All ∷ word w.But ∷ word w.CloseBrace ∷ r) (attributes.AllBut ys) r) q.0 but_none)
but_made ts xs r (inr q) = but q

pub attributes_sound : (ts : Tokens) (p : Attributes × Tokens) → attributes_at ts ≡ Some p → ReadsAttributes ts p.0 p.1
unfolding attributes_at
attributes_sound ts p h =
    let o = expected w.OpenBrace ts _ p h in
    subst (λ us. ReadsAttributes us p.0 p.1) (sym o.1) (
    elim (eaten w.All o.0 _ p o.2) [
      | inl q ↦ (let c = expected w.But (tail o.0) _ p q.1 in
          let d = bound (up_to w.CloseBrace take_name c.0) _ p c.2 in
          made (ReadsAttributes (word w.OpenBrace ∷ o.0)) (attributes.AllBut d.0) d.1 p (subst (λ us. ReadsAttributes (word w.OpenBrace ∷ us) (attributes.AllBut d.0) d.1) (sym (q.0 ∙ ap (λ s. word w.All ∷ s) c.1)) (but_made c.0 d.0 d.1 (names_shut c.0 d.0 d.1 d.2))) d.3)
      | inr q ↦ (let d = bound (up_to w.CloseBrace take_name o.0) _ p q in
          made (ReadsAttributes (word w.OpenBrace ∷ o.0)) (attributes.Only d.0) d.1 p (only_made o.0 d.0 d.1 (names_shut o.0 d.0 d.1 d.2)) d.3)
    ])

-- ---- types

abbrev SoundType : Reader TypeExpr → Type 0
SoundType type = (ts : Tokens) (p : TypeExpr × Tokens) → type ts ≡ Some p → ReadsType ts p.0 p.1

module _ (type : Reader TypeExpr) (inside : SoundType type) where
  field_sound : (ts : Tokens) (p : Named TypeExpr × Tokens) → field_of type ts ≡ Some p → (us : Tokens) × (ts ≡ name p.0.name ∷ us) × ReadsType us p.0.value p.1
  unfolding field_of
  field_sound ts p h =
      let x = a_name_read ts _ p h in
      let a = bound (type x.1) _ p x.3 in
      made (λ (q : Named TypeExpr) r. (us : Tokens) × (ts ≡ name q.name ∷ us) × ReadsType us q.value r) (record { name = x.0; value = a.0 }) a.1 p (x.1, x.2, inside x.1 _ a.2) a.3

  pub fields_of : (ts : Tokens) (xs : List (Named TypeExpr)) (r : Tokens) → Run (field_of type) ts xs r → ReadsFields ts xs r
  fields_of ts xs r (last {x = x} h) = let c = field_sound ts (x, r) h in subst (λ us. ReadsFields us (x ∷ []) r) (sym c.1) (last_field c.2)
  fields_of ts xs r (next {mid = mid} {x = x} {xs = ys} h d) = let c = field_sound ts (x, word w.Comma ∷ mid) h in subst (λ us. ReadsFields us (x ∷ ys) r) (sym c.1) (next_field c.2 (fields_of mid ys r d))

  pub heading_sound : (ts : Tokens) (p : List (Named TypeExpr) × Tokens) → heading_of type ts ≡ Some p → ReadsHeading ts p.0 p.1
  unfolding heading_of
  heading_sound ts p h =
      let o = expected w.OpenBrace ts _ p h in
      subst (λ us. ReadsHeading us p.0 p.1) (sym o.1) (
      elim (up_to_run w.CloseBrace (field_of type) o.0 p.0 p.1 o.2) [
        | inl q ↦ subst (λ us. ReadsHeading (word w.OpenBrace ∷ us) p.0 p.1) (sym q.1) (subst (λ ys. ReadsHeading (word w.OpenBrace ∷ word w.CloseBrace ∷ p.1) ys p.1) q.0 no_fields)
        | inr q ↦ fields (fields_of o.0 p.0 (word w.CloseBrace ∷ p.1) q)
      ])

  type_word_sound : (v : Word) (ts : Tokens) (p : TypeExpr × Tokens) → read.type_word type v ts ≡ Some p → ReadsType (word v ∷ ts) p.0 p.1
  type_word_sound w.Boolean ts p h = made (ReadsType (word w.Boolean ∷ ts)) t.Boolean ts p boolean h
  type_word_sound w.Integer ts p h = made (ReadsType (word w.Integer ∷ ts)) t.Integer ts p integer_type h
  type_word_sound w.Char ts p h = made (ReadsType (word w.Char ∷ ts)) t.Char ts p char h
  type_word_sound w.Character ts p h = made (ReadsType (word w.Character ∷ ts)) t.Char ts p character h
  type_word_sound w.Tuple ts p h = let c = bound (heading_of type ts) _ p h in made (ReadsType (word w.Tuple ∷ ts)) (t.Tuple c.0) c.1 p (tuple_type (heading_sound ts _ c.2)) c.3
  type_word_sound w.Relation ts p h = let c = bound (heading_of type ts) _ p h in made (ReadsType (word w.Relation ∷ ts)) (t.Relation c.0) c.1 p (relation_type (heading_sound ts _ c.2)) c.3
  type_word_sound _ ts p h = absurd (none_some h)

  type_by_sound : SoundType (type_of type)
  unfolding type_of take_name
  type_by_sound [] p h = absurd (none_some h)
  type_by_sound (word v ∷ ts) p h = type_word_sound v ts p h
  type_by_sound (name x ∷ ts) p h = made (ReadsType (name x ∷ ts)) (t.User x) ts p user h
  type_by_sound (int n ∷ ts) p h = absurd (none_some h)
  type_by_sound (text s ∷ ts) p h = absurd (none_some h)

pub type_sound : (n : ℕ) → SoundType (type_at n)
unfolding type_at
type_sound zero ts p h = absurd (none_some h)
type_sound (suc n) ts p h = type_by_sound (type_at n) (type_sound n) ts p h

-- ---- infix operators and turns

infix_read : (ts : Tokens) (i : Option Infix) (p : BinaryOperator × Tokens) → infix_at ts ≡ i → read.infix_found i ≡ Some p → (j : ℕ) × (infix_at ts ≡ Some (j, p.0, p.1))
infix_read ts None p q h = absurd (none_some h)
infix_read ts (Some i) p q h = (i.0, q ∙ (let z : ◌≡◌ {A = BinaryOperator × Tokens} (i.1, i.2) p = cc in ap (λ (x : BinaryOperator × Tokens). Some (i.0, x.0, x.1)) z))

infix_sound : (ts : Tokens) (p : BinaryOperator × Tokens) → take_infix ts ≡ Some p → (j : ℕ) × (infix_at ts ≡ Some (j, p.0, p.1))
unfolding take_infix
infix_sound ts p h = infix_read ts (infix_at ts) p refl h

same_numbers : (m j : ℕ) → (m == j) ≡ true → m ≡ j
same_numbers m j h = grind arith

infix_binds : (ts : Tokens) (p : Infix) → infix_at ts ≡ Some p → binds ts ≡ p.0
unfolding binds
infix_binds ts p h = ap (λ o. form_number o (postfix ts)) h

-- an infix operator and its right operand
record Operated (operand : Reader Expr) (a : Expr) (ts : Tokens) (p : Expr × Tokens) : Type 0 where
  o : BinaryOperator
  place : Tokens
  c : Expr
  operator : infix_at ts ≡ Some (binds ts, o, place)
  right : operand place ≡ Some (c, p.1)
  tree : e.Binary o a c ≡ p.0

binary_sound : (operand : Reader Expr) (a : Expr) (ts : Tokens) (p : Expr × Tokens) → binary_turn operand a ts ≡ Some p → Operated operand a ts p
unfolding binary_turn
binary_sound operand a ts p h =
    let i = bound (take_infix ts) _ p h in
    let c = bound (operand i.1) _ p i.3 in
    let z = parts (e.Binary i.0 a c.0) p.0 c.1 p.1 c.3 in
    let j = infix_sound ts (i.0, i.1) i.2 in
    record { o = i.0; place = i.1; c = c.0; operator = j.1 ∙ ap (λ (n : ℕ). Some (n, i.0, i.1)) (sym (infix_binds ts (j.0, i.0, i.1) j.1)); right = c.2 ∙ ap (λ s. Some (c.0, s)) z.1; tree = z.0 }

at_number : (j : ℕ) (operand : Reader Expr) (a : Expr) (ts : Tokens) (p : Expr × Tokens) (d : Operated operand a ts p) → binds ts ≡ j → infix_at ts ≡ Some (j, d.o, d.place)
at_number j operand a ts p d z = d.operator ∙ ap (λ (n : ℕ). Some (n, d.o, d.place)) z

abbrev Each : (Expr → Tokens → Type 0) → ℕ → (Expr → Reader Expr) → Type 0
Each P j turn = (a : Expr) (ts : Tokens) (p : Expr × Tokens) → P a ts → binds ts ≡ j → turn a ts ≡ Some p → P p.0 p.1

climb_sound : (P : Expr → Tokens → Type 0) (j : ℕ) (turn : Expr → Reader Expr) → Each P j turn → (m : ℕ) (a : Expr) (ts : Tokens) (p : Expr × Tokens) → P a ts → climb j turn m a ts ≡ Some p → P p.0 p.1
unfolding climb
climb_sound P j turn each zero a ts p pa h = made P a ts p pa h
climb_sound P j turn each (suc m) a ts p pa h =
    elim (tested (binds ts == j) (and_then (turn a ts) (climb j turn m)) (Some (a, ts)) p h) [
      | inl q ↦ (let c = bound (turn a ts) (climb j turn m) p q.1 in climb_sound P j turn each m c.0 c.1 p (each a ts (c.0, c.1) pa (same_numbers (binds ts) j q.0) c.2) c.3)
      | inr q ↦ made P a ts p pa q.1
    ]

-- ---- the forms

abbrev pub Sound : Form → Reader Expr → Type 0
Sound g read = (ts : Tokens) (p : Expr × Tokens) → read ts ≡ Some p → Reads g ts p.0 p.1

pub begun : {g : Form} {ts us : Tokens} {a : Expr} {r : Tokens} → us ≡ ts → Reads g ts a r → Reads g us a r
begun {g = g} {a = a} {r = r} h d = subst (λ s. Reads g s a r) (sym h) d

pub ended : {g : Form} {ts : Tokens} {a : Expr} {r s : Tokens} → Reads g ts a r → r ≡ s → Reads g ts a s
ended {g = g} {ts = ts} {a = a} d h = subst (λ s. Reads g ts a s) h d

retree : {g : Form} {ts : Tokens} {a b : Expr} {r : Tokens} → Reads g ts a r → a ≡ b → Reads g ts b r
retree {g = g} {ts = ts} {r = r} d h = subst (λ x. Reads g ts x r) h d

chain : (g : Form) (ts : Tokens) (first : Reader Expr) (j : ℕ) (turn : Expr → Reader Expr) (m : ℕ) → ((q : Expr × Tokens) → first ts ≡ Some q → Reads g ts q.0 q.1) → Each (Reads g ts) j turn → (p : Expr × Tokens) → and_then (first ts) (climb j turn m) ≡ Some p → Reads g ts p.0 p.1
chain g ts first j turn m start each p h =
    let c = bound (first ts) (climb j turn m) p h in
    climb_sound (Reads g ts) j turn each m c.0 c.1 p (start (c.0, c.1) c.2) c.3

aggregate_is : (v : Word) (g : Aggregate) → read.aggregate_of v ≡ Some g → aggregate_word g ≡ v
aggregate_is w.Sum g h = let z : aggregate.Sum ≡ g = cc in ap aggregate_word (sym z)
aggregate_is w.Max g h = let z : aggregate.Max ≡ g = cc in ap aggregate_word (sym z)
aggregate_is w.Min g h = let z : aggregate.Min ≡ g = cc in ap aggregate_word (sym z)
aggregate_is w.And g h = let z : aggregate.And ≡ g = cc in ap aggregate_word (sym z)
aggregate_is w.Or g h = let z : aggregate.Or ≡ g = cc in ap aggregate_word (sym z)
aggregate_is _ g h = absurd (none_some h)

-- ---- postfixes

rename_sound : (a : Expr) (ts : Tokens) (p : Expr × Tokens) → read.rename_turn a ts ≡ Some p → ReadsPostfix a (word w.Rename ∷ ts) p.0 p.1
unfolding read.rename_turn
rename_sound a ts p h =
    elim (eaten w.OpenParenthesis ts _ p h) [
      | inl q ↦ (let d = bound (listed w.CloseParenthesis renaming_at (tail ts)) _ p q.1 in
          made (ReadsPostfix a (word w.Rename ∷ ts)) (e.Rename a d.0) d.1 p (subst (λ us. ReadsPostfix a (word w.Rename ∷ us) (e.Rename a d.0) d.1) (sym q.0) (rename (renamings_of (tail ts) d.0 _ (listed_run w.CloseParenthesis renaming_at (tail ts) d.0 d.1 d.2)))) d.3)
      | inr q ↦ (let c = expected w.OpenBrace ts _ p q in
          let d = bound (listed w.CloseBrace renaming_at c.0) _ p c.2 in
          made (ReadsPostfix a (word w.Rename ∷ ts)) (e.Rename a d.0) d.1 p (subst (λ us. ReadsPostfix a (word w.Rename ∷ us) (e.Rename a d.0) d.1) (sym c.1) (rename_braces (renamings_of c.0 d.0 _ (listed_run w.CloseBrace renaming_at c.0 d.0 d.1 d.2)))) d.3)
    ]

nest_sound : (v : Nesting) (a : Expr) (ts : Tokens) (p : Expr × Tokens) → read.nest_turn v a ts ≡ Some p → ReadsPostfix a (word (nest_word v) ∷ ts) p.0 p.1
unfolding read.nest_turn shut
nest_sound v a ts p h =
    elim (eaten w.OpenParenthesis ts _ p h) [
      | inl q ↦ (let c = bound (attributes_at (tail ts)) _ p q.1 in
          let d = expected w.As c.1 _ p c.3 in
          let x = a_name_read d.0 _ p d.2 in
          let z = expected w.CloseParenthesis x.1 _ p x.3 in
          made (ReadsPostfix a (word (nest_word v) ∷ ts)) (e.Nest v a c.0 x.0) z.0 p (subst (λ us. ReadsPostfix a (word (nest_word v) ∷ us) (e.Nest v a c.0 x.0) z.0) (sym q.0)
          (nest_brackets (subst (λ us. ReadsAttributes (tail ts) c.0 us) (d.1 ∙ ap (λ s. word w.As ∷ s) (x.2 ∙ ap (λ s. name x.0 ∷ s) z.1)) (attributes_sound (tail ts) _ c.2)))) z.2)
      | inr q ↦ (let c = bound (attributes_at ts) _ p q in
          let d = expected w.As c.1 _ p c.3 in
          let x = a_name_read d.0 _ p d.2 in
          made (ReadsPostfix a (word (nest_word v) ∷ ts)) (e.Nest v a c.0 x.0) x.1 p (nest (subst (λ us. ReadsAttributes ts c.0 us) (d.1 ∙ ap (λ s. word w.As ∷ s) x.2) (attributes_sound ts _ c.2))) x.3)
    ]

unnest_sound : (v : Nesting) (a : Expr) (ts : Tokens) (p : Expr × Tokens) → read.unnest_turn v a ts ≡ Some p → ReadsPostfix a (word (unnest_word v) ∷ ts) p.0 p.1
unfolding read.unnest_turn shut
unnest_sound v a ts p h =
    elim (eaten w.OpenParenthesis ts _ p h) [
      | inl q ↦ (let x = a_name_read (tail ts) _ p q.1 in
          let z = expected w.CloseParenthesis x.1 _ p x.3 in
          made (ReadsPostfix a (word (unnest_word v) ∷ ts)) (e.Unnest v a x.0) z.0 p (subst (λ us. ReadsPostfix a (word (unnest_word v) ∷ us) (e.Unnest v a x.0) z.0) (sym (q.0 ∙ ap (λ s. word w.OpenParenthesis ∷ s) (x.2 ∙ ap (λ s. name x.0 ∷ s) z.1))) unnest_brackets) z.2)
      | inr q ↦ (let x = a_name_read ts _ p q in
          made (ReadsPostfix a (word (unnest_word v) ∷ ts)) (e.Unnest v a x.0) x.1 p (subst (λ us. ReadsPostfix a (word (unnest_word v) ∷ us) (e.Unnest v a x.0) x.1) (sym x.2) unnest) x.3)
    ]

project_sound : (us : Tokens) (a : Expr) (ts : Tokens) (p : Expr × Tokens) → Reads f.Projection us a ts → project_turn a ts ≡ Some p → Reads f.Projection us p.0 p.1
unfolding project_turn
project_sound us a ts p d h =
    let c = bound (attributes_at ts) _ p h in
    made (Reads f.Projection us) (e.Project a c.0) c.1 p (project d (attributes_sound ts _ c.2)) c.3

module _ (rds : ℕ → Form → Reader Expr) (b : ℕ) (inside : (m : ℕ) (g : Form) → Sound g (rds m g)) where
  -- ---- lists

  list_of : (us : Tokens) (xs : List Expr) (r : Tokens) → Run (rds b f.Expr) us xs r → ReadsList us xs r
  list_of us xs r (last h) = last_expr (inside b f.Expr us _ h)
  list_of us xs r (next {mid = mid} {xs = ys} h d) = next_expr (inside b f.Expr us _ h) (list_of mid ys r d)

  named_sound : (m : Naming) (us : Tokens) (p : Named Expr × Tokens) → read.named_at rds b m us ≡ Some p → ReadsNamed m us p.0 p.1
  unfolding read.named_at
  named_sound naming.After us p h =
      let a = bound (rds b f.Expr us) _ p h in
      let c = expected w.As a.1 _ p a.3 in
      let x = a_name_read c.0 _ p c.2 in
      made (ReadsNamed naming.After us) (record { name = x.0; value = a.0 }) x.1 p (name_after (ended (inside b f.Expr us _ a.2) (c.1 ∙ ap (λ s. word w.As ∷ s) x.2))) x.3
  named_sound naming.Assigned us p h =
      let x = a_name_read us _ p h in
      let c = expected w.Assign x.1 _ p x.3 in
      let a = bound (rds b f.Expr c.0) _ p c.2 in
      made (ReadsNamed naming.Assigned us) (record { name = x.0; value = a.0 }) a.1 p (subst (λ vs. ReadsNamed naming.Assigned vs (record { name = x.0; value = a.0 }) a.1) (sym (x.2 ∙ ap (λ s. name x.0 ∷ s) c.1)) (name_assigned (inside b f.Expr c.0 _ a.2))) a.3
  named_sound naming.Beside us p h =
      let x = a_name_read us _ p h in
      let a = bound (rds b f.Expr x.1) _ p x.3 in
      made (ReadsNamed naming.Beside us) (record { name = x.0; value = a.0 }) a.1 p (subst (λ vs. ReadsNamed naming.Beside vs (record { name = x.0; value = a.0 }) a.1) (sym x.2) (name_beside (inside b f.Expr x.1 _ a.2))) a.3

  pub named_list_of : (m : Naming) (us : Tokens) (xs : List (Named Expr)) (r : Tokens) → Run (read.named_at rds b m) us xs r → ReadsNamedList m us xs r
  named_list_of m us xs r (last h) = last_named (named_sound m us _ h)
  named_list_of m us xs r (next {mid = mid} {xs = ys} h d) = next_named (named_sound m us _ h) (named_list_of m mid ys r d)

  counted_sound : (ts : Tokens) (p : SummaryTerm Expr × Tokens) → read.counted rds b ts ≡ Some p → ReadsSummary (word w.Count ∷ ts) p.0 p.1
  unfolding read.counted shut
  counted_sound ts p h =
      elim (eaten w.OpenParenthesis ts _ p h) [
        | inl q ↦ (let c = expected w.CloseParenthesis (tail ts) _ p q.1 in
            made (ReadsSummary (word w.Count ∷ ts)) summary.Count c.0 p (subst (λ us. ReadsSummary (word w.Count ∷ us) summary.Count c.0) (sym (q.0 ∙ ap (λ s. word w.OpenParenthesis ∷ s) c.1)) count_brackets) c.2)
        | inr q ↦ made (ReadsSummary (word w.Count ∷ ts)) summary.Count ts p count_group q
      ]

  summed_sound : (g : Aggregate) (ts : Tokens) (p : SummaryTerm Expr × Tokens) → read.summed rds b g ts ≡ Some p → ReadsSummary (word (aggregate_word g) ∷ ts) p.0 p.1
  unfolding read.summed
  summed_sound g ts p h =
      let o = expected w.OpenParenthesis ts _ p h in
      let a = bound (rds b f.Expr o.0) _ p o.2 in
      let c = expected w.CloseParenthesis a.1 _ p a.3 in
      made (ReadsSummary (word (aggregate_word g) ∷ ts)) (summary.Of g a.0) c.0 p (subst (λ us. ReadsSummary (word (aggregate_word g) ∷ us) (summary.Of g a.0) c.0) (sym o.1) (summary_of (ended (inside b f.Expr o.0 _ a.2) c.1))) c.2

  summed_by_sound : (v : Word) (i : Option Aggregate) (ts : Tokens) (p : SummaryTerm Expr × Tokens) → read.aggregate_of v ≡ i → read.summed_by rds b i ts ≡ Some p → ReadsSummary (word v ∷ ts) p.0 p.1
  summed_by_sound v None ts p q h = absurd (none_some h)
  summed_by_sound v (Some g) ts p q h = subst (λ u. ReadsSummary (word u ∷ ts) p.0 p.1) (aggregate_is v g q) (summed_sound g ts p h)

  summary_word_sound : (v : Word) (ts : Tokens) (p : SummaryTerm Expr × Tokens) → read.summary_word rds b v ts ≡ Some p → ReadsSummary (word v ∷ ts) p.0 p.1
  unfolding same_word
  summary_word_sound w.Count ts p h = counted_sound ts p h
  summary_word_sound v ts p h = summed_by_sound v (read.aggregate_of v) ts p refl h

  summary_sound : (ts : Tokens) (p : SummaryTerm Expr × Tokens) → read.summary_at rds b ts ≡ Some p → ReadsSummary ts p.0 p.1
  unfolding read.summary_at
  summary_sound (word v ∷ ts) p h = summary_word_sound v ts p h
  summary_sound _ p h = absurd (none_some h)

  named_summary_sound : (m : Naming) (us : Tokens) (p : Named (SummaryTerm Expr) × Tokens) → read.named_summary rds b m us ≡ Some p → ReadsNamedSummary m us p.0 p.1
  unfolding read.named_summary
  named_summary_sound naming.After us p h =
      let a = bound (read.summary_at rds b us) _ p h in
      let c = expected w.As a.1 _ p a.3 in
      let x = a_name_read c.0 _ p c.2 in
      made (ReadsNamedSummary naming.After us) (record { name = x.0; value = a.0 }) x.1 p (summary_after (subst (λ s. ReadsSummary us a.0 s) (c.1 ∙ ap (λ s. word w.As ∷ s) x.2) (summary_sound us _ a.2))) x.3
  named_summary_sound naming.Assigned us p h =
      let x = a_name_read us _ p h in
      let c = expected w.Assign x.1 _ p x.3 in
      let a = bound (read.summary_at rds b c.0) _ p c.2 in
      made (ReadsNamedSummary naming.Assigned us) (record { name = x.0; value = a.0 }) a.1 p (subst (λ vs. ReadsNamedSummary naming.Assigned vs (record { name = x.0; value = a.0 }) a.1) (sym (x.2 ∙ ap (λ s. name x.0 ∷ s) c.1)) (summary_assigned (summary_sound c.0 _ a.2))) a.3
  named_summary_sound naming.Beside us p h = absurd (none_some h)

  summary_list_of : (m : Naming) (us : Tokens) (xs : List (Named (SummaryTerm Expr))) (r : Tokens) → Run (read.named_summary rds b m) us xs r → ReadsSummaryList m us xs r
  summary_list_of m us xs r (last h) = last_summary (named_summary_sound m us _ h)
  summary_list_of m us xs r (next {mid = mid} {xs = ys} h d) = next_summary (named_summary_sound m us _ h) (summary_list_of m mid ys r d)

  summaries_sound : (ts : Tokens) (p : List (Named (SummaryTerm Expr)) × Tokens) → read.summaries rds b ts ≡ Some p → ReadsSummaries ts p.0 p.1
  unfolding read.summaries
  summaries_sound ts p h =
      elim (eaten w.Add ts _ p h) [
        | inl q ↦ (let o = expected w.OpenParenthesis (tail ts) _ p q.1 in
            subst (λ us. ReadsSummaries us p.0 p.1) (sym (q.0 ∙ ap (λ s. word w.Add ∷ s) o.1)) (summaries (summary_list_of naming.After o.0 p.0 _ (listed_run w.CloseParenthesis (read.named_summary rds b naming.After) o.0 p.0 p.1 o.2))))
        | inr q ↦ (let c = expected w.Colon ts _ p q in
            let o = expected w.OpenBrace c.0 _ p c.2 in
            subst (λ us. ReadsSummaries us p.0 p.1) (sym (c.1 ∙ ap (λ s. word w.Colon ∷ s) o.1)) (summaries_assigned (summary_list_of naming.Assigned o.0 p.0 _ (listed_run w.CloseBrace (read.named_summary rds b naming.Assigned) o.0 p.0 p.1 o.2))))
      ]

  -- ---- primaries

  brackets_sound : (ts : Tokens) (p : Expr × Tokens) → read.brackets rds b ts ≡ Some p → Reads f.Primary (word w.OpenParenthesis ∷ ts) p.0 p.1
  unfolding read.brackets
  brackets_sound ts p h =
      let a = bound (rds (suc b) f.Expr ts) _ p h in
      let c = expected w.CloseParenthesis a.1 _ p a.3 in
      made (Reads f.Primary (word w.OpenParenthesis ∷ ts)) a.0 c.0 p (brackets (ended (inside (suc b) f.Expr ts _ a.2) c.1)) c.2

  call_made : (x : Text) (ts : Tokens) (all : List Expr) (r : Tokens) → (([] ≡ all) × (ts ≡ word w.CloseParenthesis ∷ r)) ⊎ Run (rds b f.Expr) ts all (word w.CloseParenthesis ∷ r) → Reads f.Primary (name x ∷ word w.OpenParenthesis ∷ ts) (e.Call x all) r
  call_made x ts all r (inl q) = subst (λ us. Reads f.Primary (name x ∷ word w.OpenParenthesis ∷ us) (e.Call x all) r) (sym q.1) (retree call_none (ap (e.Call x) q.0))
  call_made x ts all r (inr q) = call (list_of ts all (word w.CloseParenthesis ∷ r) q)

  call_sound : (ts : Tokens) (p : Expr × Tokens) → read.call rds b ts ≡ Some p → Reads f.Primary ts p.0 p.1
  unfolding read.call
  call_sound ts p h =
      let x = a_name_read ts _ p h in
      begun x.2 (
      elim (tested (at w.OpenParenthesis x.1 && cond (target_at (tail x.1)) false true) _ _ p x.3) [
        | inl q ↦ (let o = at_word w.OpenParenthesis x.1 (both _ _ q.0).0 in
            let d = bound (up_to w.CloseParenthesis (rds b f.Expr) (tail x.1)) _ p q.1 in
            made (Reads f.Primary (name x.0 ∷ x.1)) (e.Call x.0 d.0) d.1 p (begun (ap (λ s. name x.0 ∷ s) o) (call_made x.0 (tail x.1) d.0 d.1 (up_to_run w.CloseParenthesis (rds b f.Expr) (tail x.1) d.0 d.1 d.2))) d.3)
        | inr q ↦ made (Reads f.Primary (name x.0 ∷ x.1)) (e.Name x.0) x.1 p a_variable q.1
      ])

  tuple_made : (ts : Tokens) (xs : List (Named Expr)) (r : Tokens) → (([] ≡ xs) × (ts ≡ word w.CloseBrace ∷ r)) ⊎ Run (read.named_at rds b naming.Beside) ts xs (word w.CloseBrace ∷ r) → Reads f.Primary (word w.Tuple ∷ word w.OpenBrace ∷ ts) (e.Tuple xs) r
  tuple_made ts xs r (inl q) = begun (ap (λ s. word w.Tuple ∷ word w.OpenBrace ∷ s) q.1) (retree tuple_none (ap e.Tuple q.0))
  tuple_made ts xs r (inr q) = tuple (named_list_of naming.Beside ts xs (word w.CloseBrace ∷ r) q)

  tuple_sound : (ts : Tokens) (p : Expr × Tokens) → read.tuple rds b ts ≡ Some p → Reads f.Primary (word w.Tuple ∷ ts) p.0 p.1
  unfolding read.tuple
  tuple_sound ts p h =
      let o = expected w.OpenBrace ts _ p h in
      let d = bound (up_to w.CloseBrace (read.named_at rds b naming.Beside) o.0) _ p o.2 in
      made (Reads f.Primary (word w.Tuple ∷ ts)) (e.Tuple d.0) d.1 p (begun (ap (λ s. word w.Tuple ∷ s) o.1) (tuple_made o.0 d.0 d.1 (up_to_run w.CloseBrace (read.named_at rds b naming.Beside) o.0 d.0 d.1 d.2))) d.3

  headed_made : (ts mid : Tokens) (h : List (Named TypeExpr)) (all : List Expr) (r : Tokens) → ReadsHeading ts h (word w.OpenBrace ∷ mid) → (([] ≡ all) × (mid ≡ word w.CloseBrace ∷ r)) ⊎ Run (rds b f.Expr) mid all (word w.CloseBrace ∷ r) → Reads f.Primary (word w.Relation ∷ ts) (e.Relation (Some h) all) r
  headed_made ts mid h all r d (inl q) = retree (headed_none (subst (λ s. ReadsHeading ts h (word w.OpenBrace ∷ s)) q.1 d)) (ap (e.Relation (Some h)) q.0)
  headed_made ts mid h all r d (inr q) = headed d (list_of mid all (word w.CloseBrace ∷ r) q)

  relation_sound : (ts : Tokens) (p : Expr × Tokens) → read.relation rds b ts ≡ Some p → Reads f.Primary (word w.Relation ∷ ts) p.0 p.1
  unfolding read.relation read.headed read.unheaded
  relation_sound ts p h =
      elim (tested (read.has_heading ts) (read.headed rds b ts) (read.unheaded rds b ts) p h) [
        | inl q ↦ (let c = bound (heading_at ts) _ p q.1 in
            let o = expected w.OpenBrace c.1 _ p c.3 in
            let d = bound (up_to w.CloseBrace (rds b f.Expr) o.0) _ p o.2 in
            made (Reads f.Primary (word w.Relation ∷ ts)) (e.Relation (Some c.0) d.0) d.1 p
            (headed_made ts o.0 c.0 d.0 d.1 (subst (λ s. ReadsHeading ts c.0 s) o.1 (heading_sound (type_at (length ts)) (type_sound (length ts)) ts _ c.2)) (up_to_run w.CloseBrace (rds b f.Expr) o.0 d.0 d.1 d.2)) d.3)
        | inr q ↦ (let o = expected w.OpenBrace ts _ p q.1 in
            let d = bound (listed w.CloseBrace (rds b f.Expr) o.0) _ p o.2 in
            made (Reads f.Primary (word w.Relation ∷ ts)) (e.Relation None d.0) d.1 p (begun (ap (λ s. word w.Relation ∷ s) o.1) (relation (list_of o.0 d.0 _ (listed_run w.CloseBrace (rds b f.Expr) o.0 d.0 d.1 d.2)))) d.3)
      ]

  applied_sound : (x : UnaryOperator) (v : Word) → ((us : Tokens) (a : Expr) (r : Tokens) → Reads f.Expr us a (word w.CloseParenthesis ∷ r) → Reads f.Primary (word v ∷ word w.OpenParenthesis ∷ us) (e.Unary x a) r) → (ts : Tokens) (p : Expr × Tokens) → read.applied rds b x ts ≡ Some p → Reads f.Primary (word v ∷ ts) p.0 p.1
  unfolding read.applied
  applied_sound x v form ts p h =
      let o = expected w.OpenParenthesis ts _ p h in
      let a = bound (rds b f.Expr o.0) _ p o.2 in
      let c = expected w.CloseParenthesis a.1 _ p a.3 in
      made (Reads f.Primary (word v ∷ ts)) (e.Unary x a.0) c.0 p (begun (ap (λ s. word v ∷ s) o.1) (form o.0 a.0 c.0 (ended (inside b f.Expr o.0 _ a.2) c.1))) c.2

  aggregated_sound : (g : Aggregate) (ts : Tokens) (p : Expr × Tokens) → read.aggregated rds b g ts ≡ Some p → Reads f.Primary (word (aggregate_word g) ∷ ts) p.0 p.1
  unfolding read.aggregated
  aggregated_sound g ts p h =
      let o = expected w.OpenParenthesis ts _ p h in
      let a = bound (rds b f.Expr o.0) _ p o.2 in
      begun (ap (λ s. word (aggregate_word g) ∷ s) o.1) (
      elim (eaten w.Comma a.1 _ p a.3) [
        | inl q ↦ (let c = bound (rds b f.Expr (tail a.1)) _ p q.1 in
            let d = expected w.CloseParenthesis c.1 _ p c.3 in
            made (Reads f.Primary (word (aggregate_word g) ∷ word w.OpenParenthesis ∷ o.0)) (e.Aggregate g a.0 (Some c.0)) d.0 p (aggregate_of (ended (inside b f.Expr o.0 _ a.2) q.0) (ended (inside b f.Expr (tail a.1) _ c.2) d.1)) d.2)
        | inr q ↦ (let d = expected w.CloseParenthesis a.1 _ p q in
            made (Reads f.Primary (word (aggregate_word g) ∷ word w.OpenParenthesis ∷ o.0)) (e.Aggregate g a.0 None) d.0 p (aggregate_all (ended (inside b f.Expr o.0 _ a.2) d.1)) d.2)
      ])

  choice_sound : (ts : Tokens) (p : Expr × Tokens) → read.choice rds b ts ≡ Some p → Reads f.Primary (word w.If ∷ ts) p.0 p.1
  unfolding read.choice
  choice_sound ts p h =
      let c1 = bound (rds b f.Expr ts) _ p h in
      let d1 = expected w.Then c1.1 _ p c1.3 in
      let c2 = bound (rds b f.Expr d1.0) _ p d1.2 in
      let d2 = expected w.Else c2.1 _ p c2.3 in
      let c3 = bound (rds b f.Expr d2.0) _ p d2.2 in
      let d3 = expected w.End c3.1 _ p c3.3 in
      let d4 = expected w.If d3.0 _ p d3.2 in
      made (Reads f.Primary (word w.If ∷ ts)) (e.If c1.0 c2.0 c3.0) d4.0 p (choice (ended (inside b f.Expr ts _ c1.2) d1.1) (ended (inside b f.Expr d1.0 _ c2.2) d2.1) (ended (inside b f.Expr d2.0 _ c3.2) (d3.1 ∙ ap (λ s. word w.End ∷ s) d4.1))) d4.2

  extend_sound : (ts : Tokens) (p : Expr × Tokens) → read.extend rds b ts ≡ Some p → Reads f.Primary (word w.Extend ∷ ts) p.0 p.1
  unfolding read.extend
  extend_sound ts p h =
      let a = bound (rds b f.Expr ts) _ p h in
      elim (eaten w.Add a.1 _ p a.3) [
        | inl q ↦ (let o = expected w.OpenParenthesis (tail a.1) _ p q.1 in
            let d = bound (listed w.CloseParenthesis (read.named_at rds b naming.After) o.0) _ p o.2 in
            made (Reads f.Primary (word w.Extend ∷ ts)) (e.Extend extension.Add a.0 d.0) d.1 p (extend (ended (inside b f.Expr ts _ a.2) (q.0 ∙ ap (λ s. word w.Add ∷ s) o.1)) (named_list_of naming.After o.0 d.0 _ (listed_run w.CloseParenthesis (read.named_at rds b naming.After) o.0 d.0 d.1 d.2))) d.3)
        | inr q ↦ (let c = expected w.Colon a.1 _ p q in
            let o = expected w.OpenBrace c.0 _ p c.2 in
            let d = bound (listed w.CloseBrace (read.named_at rds b naming.Assigned) o.0) _ p o.2 in
            made (Reads f.Primary (word w.Extend ∷ ts)) (e.Extend extension.Assign a.0 d.0) d.1 p (extend_assigned (ended (inside b f.Expr ts _ a.2) (c.1 ∙ ap (λ s. word w.Colon ∷ s) o.1)) (named_list_of naming.Assigned o.0 d.0 _ (listed_run w.CloseBrace (read.named_at rds b naming.Assigned) o.0 d.0 d.1 d.2))) d.3)
      ]

  summarize_sound : (ts : Tokens) (p : Expr × Tokens) → read.summarize rds b ts ≡ Some p → Reads f.Primary (word w.Summarize ∷ ts) p.0 p.1
  unfolding read.summarize read.groups_at
  summarize_sound ts p h =
      let a = bound (rds b f.Expr ts) _ p h in
      let g = bound (read.groups_at rds b a.1) _ p a.3 in
      let s = bound (read.summaries rds b g.1) _ p g.3 in
      let d = inside b f.Expr ts _ a.2 in
      let xs = summaries_sound g.1 _ s.2 in
      elim (eaten w.Per a.1 _ (g.0, g.1) g.2) [
        | inl q ↦ (let c = bound (rds b f.Expr (tail a.1)) _ (g.0, g.1) q.1 in
            let z = parts (groups.Per c.0) g.0 c.1 g.1 c.3 in
            made (Reads f.Primary (word w.Summarize ∷ ts)) (e.Summarize a.0 g.0 s.0) s.1 p (retree (summarize_per (ended d q.0) (ended (inside b f.Expr (tail a.1) _ c.2) z.1) xs) (ap (λ y. e.Summarize a.0 y s.0) z.0)) s.3)
        | inr q ↦ elim (eaten w.By a.1 _ (g.0, g.1) q) [
          | inl k ↦ (let c = bound (attributes_at (tail a.1)) _ (g.0, g.1) k.1 in
              let z = parts (groups.By c.0) g.0 c.1 g.1 c.3 in
              made (Reads f.Primary (word w.Summarize ∷ ts)) (e.Summarize a.0 g.0 s.0) s.1 p (retree (summarize_by (ended d k.0) (subst (λ y. ReadsAttributes (tail a.1) c.0 y) z.1 (attributes_sound (tail a.1) _ c.2)) xs) (ap (λ y. e.Summarize a.0 y s.0) z.0)) s.3)
          | inr k ↦ (let z = parts groups.Whole g.0 a.1 g.1 k in
              made (Reads f.Primary (word w.Summarize ∷ ts)) (e.Summarize a.0 g.0 s.0) s.1 p (retree (summarize (ended d z.1) xs) (ap (λ y. e.Summarize a.0 y s.0) z.0)) s.3)
        ]
      ]

  primary_aggregate_sound : (v : Word) (i : Option Aggregate) (ts : Tokens) (p : Expr × Tokens) → read.aggregate_of v ≡ i → read.primary_aggregate rds b i ts ≡ Some p → Reads f.Primary (word v ∷ ts) p.0 p.1
  primary_aggregate_sound v None ts p q h = absurd (none_some h)
  primary_aggregate_sound v (Some g) ts p q h = subst (λ u. Reads f.Primary (word u ∷ ts) p.0 p.1) (aggregate_is v g q) (aggregated_sound g ts p h)

  word_sound : (v : Word) (ts : Tokens) (p : Expr × Tokens) → read.primary_word rds b v ts ≡ Some p → Reads f.Primary (word v ∷ ts) p.0 p.1
  word_sound w.True ts p h = made (Reads f.Primary (word w.True ∷ ts)) (e.Truth true) ts p is_true h
  word_sound w.False ts p h = made (Reads f.Primary (word w.False ∷ ts)) (e.Truth false) ts p is_false h
  word_sound w.TableDee ts p h = made (Reads f.Primary (word w.TableDee ∷ ts)) e.TableDee ts p dee h
  word_sound w.TableDum ts p h = made (Reads f.Primary (word w.TableDum ∷ ts)) e.TableDum ts p dum h
  word_sound w.OpenParenthesis ts p h = brackets_sound ts p h
  word_sound w.Tuple ts p h = tuple_sound ts p h
  word_sound w.Relation ts p h = relation_sound ts p h
  word_sound w.IsEmpty ts p h = applied_sound unary.IsEmpty w.IsEmpty (λ us a r d. is_empty d) ts p h
  word_sound w.Count ts p h = applied_sound unary.Count w.Count (λ us a r d. count d) ts p h
  word_sound w.If ts p h = choice_sound ts p h
  word_sound w.Extend ts p h = extend_sound ts p h
  word_sound w.Summarize ts p h = summarize_sound ts p h
  word_sound v ts p h = primary_aggregate_sound v (read.aggregate_of v) ts p refl h

  primary_sound : Sound f.Primary (read.primary_at rds b)
  unfolding read.primary_at take_text take_integer
  primary_sound [] p h = absurd (none_some h)
  primary_sound (int n ∷ ts) p h = made (Reads f.Primary (int n ∷ ts)) (e.Integer (pos n)) ts p integer h
  primary_sound (text s ∷ ts) p h = made (Reads f.Primary (text s ∷ ts)) (e.Text s) ts p characters h
  primary_sound (name x ∷ ts) p h = call_sound (name x ∷ ts) p h
  primary_sound (word v ∷ ts) p h = word_sound v ts p h

  -- ---- the chains

  projection_sound : Sound f.Projection (read.projection_at rds b)
  projection_sound ts p h = chain f.Projection ts (read.primary_at rds b) 9 project_turn b (λ q k. one_primary (primary_sound ts q k)) (λ a us q d z k. project_sound ts a us q d k) p h

  prefix_sound : (x : UnaryOperator) (ts us : Tokens) → ((a : Expr) (r : Tokens) → Reads f.Prefixed us a r → Reads f.Prefixed ts (e.Unary x a) r) → (p : Expr × Tokens) → read.prefix rds b x us ≡ Some p → Reads f.Prefixed ts p.0 p.1
  unfolding read.prefix
  prefix_sound x ts us form p h =
      let a = bound (rds b f.Prefixed us) _ p h in
      made (Reads f.Prefixed ts) (e.Unary x a.0) a.1 p (form a.0 a.1 (inside b f.Prefixed us _ a.2)) a.3

  attribute_sound : (ts : Tokens) (p : Expr × Tokens) → read.attribute_from rds b ts ≡ Some p → Reads f.Prefixed ts p.0 p.1
  unfolding read.attribute_from
  attribute_sound ts p h =
      let x = a_name_read ts _ p h in
      let c = expected w.From x.1 _ p x.3 in
      let a = bound (rds b f.Prefixed c.0) _ p c.2 in
      made (Reads f.Prefixed ts) (e.From x.0 a.0) a.1 p (begun (x.2 ∙ ap (λ s. name x.0 ∷ s) c.1) (name_from (inside b f.Prefixed c.0 _ a.2))) a.3

  prefixed_sound : Sound f.Prefixed (read.prefixed_at rds b)
  unfolding read.prefixed_at
  prefixed_sound ts p h =
      elim (tested (at w.Dash ts) _ _ p h) [
        | inl q ↦ prefix_sound unary.Negate ts (tail ts) (λ a r d. begun (at_word w.Dash ts q.0) (negated d)) p q.1
        | inr q ↦ elim (tested (at w.Tclose ts) _ _ p q.1) [
          | inl k ↦ prefix_sound unary.Closure ts (tail ts) (λ a r d. begun (at_word w.Tclose ts k.0) (closure d)) p k.1
          | inr k ↦ elim (tested (at w.Tuple ts && at w.From (tail ts)) _ _ p k.1) [
            | inl j ↦ prefix_sound unary.TupleFrom ts (tail (tail ts)) (λ a r d. begun (at_word w.Tuple ts (both _ _ j.0).0 ∙ ap (λ s. word w.Tuple ∷ s) (at_word w.From (tail ts) (both _ _ j.0).1)) (tuple_from d)) p j.1
            | inr j ↦ elim (tested (at_name ts && at w.From (tail ts)) _ _ p j.1) [
              | inl i ↦ attribute_sound ts p i.1
              | inr i ↦ one_projection (projection_sound ts p i.1)
            ]
          ]
        ]
      ]

  multiplicative_sound : Sound f.Multiplicative (read.multiplicative_at rds b)
  multiplicative_sound ts p h = chain f.Multiplicative ts (read.prefixed_at rds b) 7 (binary_turn (read.prefixed_at rds b)) b (λ q k. one_prefixed (prefixed_sound ts q k))
      (λ a us q d z k. let c = binary_sound (read.prefixed_at rds b) a us q k in retree (more_multiplicative d (at_number 7 (read.prefixed_at rds b) a us q c z) (prefixed_sound c.place _ c.right)) c.tree) p h

  additive_sound : Sound f.Additive (read.additive_at rds b)
  additive_sound ts p h = chain f.Additive ts (read.multiplicative_at rds b) 6 (binary_turn (read.multiplicative_at rds b)) b (λ q k. one_multiplicative (multiplicative_sound ts q k))
      (λ a us q d z k. let c = binary_sound (read.multiplicative_at rds b) a us q k in retree (more_additive d (at_number 6 (read.multiplicative_at rds b) a us q c z) (multiplicative_sound c.place _ c.right)) c.tree) p h

  where_sound : (a : Expr) (ts : Tokens) (p : Expr × Tokens) → read.where_turn rds b a ts ≡ Some p → ReadsPostfix a (word w.Where ∷ ts) p.0 p.1
  unfolding read.where_turn
  where_sound a ts p h =
      let c = bound (rds b f.Expr ts) _ p h in
      made (ReadsPostfix a (word w.Where ∷ ts)) (e.Where a c.0) c.1 p (where_ (inside b f.Expr ts _ c.2)) c.3

  infix_turn_sound : (us : Tokens) (a : Expr) (ts : Tokens) (p : Expr × Tokens) → Reads f.Relational us a ts → binds ts ≡ 5 → binary_turn (read.additive_at rds b) a ts ≡ Some p → Reads f.Relational us p.0 p.1
  infix_turn_sound us a ts p d z h =
      let c = binary_sound (read.additive_at rds b) a ts p h in
      retree (more_relational d (at_number 5 (read.additive_at rds b) a ts p c z) (additive_sound c.place _ c.right)) c.tree

  word_turn_sound : (us : Tokens) (a : Expr) (v : Word) (ts : Tokens) (p : Expr × Tokens) → Reads f.Relational us a (word v ∷ ts) → binds (word v ∷ ts) ≡ 5 → read.relational_word rds b v a (word v ∷ ts) ≡ Some p → Reads f.Relational us p.0 p.1
  word_turn_sound us a w.Where ts p d z h = postfixed d (where_sound a ts p h)
  word_turn_sound us a w.Rename ts p d z h = postfixed d (rename_sound a ts p h)
  word_turn_sound us a w.Group ts p d z h = postfixed d (nest_sound nesting.Group a ts p h)
  word_turn_sound us a w.Wrap ts p d z h = postfixed d (nest_sound nesting.Wrap a ts p h)
  word_turn_sound us a w.Ungroup ts p d z h = postfixed d (unnest_sound nesting.Group a ts p h)
  word_turn_sound us a w.Unwrap ts p d z h = postfixed d (unnest_sound nesting.Wrap a ts p h)
  word_turn_sound us a v ts p d z h = infix_turn_sound us a (word v ∷ ts) p d z h

  relational_turn_sound : (us : Tokens) (a : Expr) (ts : Tokens) (p : Expr × Tokens) → Reads f.Relational us a ts → binds ts ≡ 5 → read.relational_turn rds b a ts ≡ Some p → Reads f.Relational us p.0 p.1
  unfolding read.relational_turn
  relational_turn_sound us a (word v ∷ ts) p d z h = word_turn_sound us a v ts p d z h
  relational_turn_sound us a _ p d z h = absurd (none_some h)

  relational_sound : Sound f.Relational (read.relational_at rds b)
  relational_sound ts p h = chain f.Relational ts (read.additive_at rds b) 5 (read.relational_turn rds b) b (λ q k. one_additive (additive_sound ts q k)) (λ a us q d z k. relational_turn_sound ts a us q d z k) p h

  comparison_sound : Sound f.Comparison (read.comparison_at rds b)
  unfolding climb
  comparison_sound ts p h =
      let c = bound (read.relational_at rds b ts) _ p h in
      let d = relational_sound ts _ c.2 in
      elim (tested (binds c.1 == 4) _ _ p c.3) [
        | inl q ↦ (let k = bound (binary_turn (read.relational_at rds b) c.0 c.1) _ p q.1 in
            let j = binary_sound (read.relational_at rds b) c.0 c.1 (k.0, k.1) k.2 in
            made (Reads f.Comparison ts) k.0 k.1 p (retree (compared d (at_number 4 (read.relational_at rds b) c.0 c.1 (k.0, k.1) j (same_numbers (binds c.1) 4 q.0)) (relational_sound j.place _ j.right)) j.tree) k.3)
        | inr q ↦ made (Reads f.Comparison ts) c.0 c.1 p (one_relational d) q.1
      ]

  not_sound : Sound f.Not (read.not_at rds b)
  unfolding read.not_at
  not_sound ts p h =
      elim (tested (at w.Not ts) _ _ p h) [
        | inl q ↦ (let a = bound (rds b f.Not (tail ts)) _ p q.1 in made (Reads f.Not ts) (e.Unary unary.Not a.0) a.1 p (begun (at_word w.Not ts q.0) (not_ (inside b f.Not (tail ts) _ a.2))) a.3)
        | inr q ↦ one_comparison (comparison_sound ts p q.1)
      ]

  and_sound : Sound f.And (read.and_at rds b)
  and_sound ts p h = chain f.And ts (read.not_at rds b) 2 (binary_turn (read.not_at rds b)) b (λ q k. one_not (not_sound ts q k))
      (λ a us q d z k. let c = binary_sound (read.not_at rds b) a us q k in retree (more_and d (at_number 2 (read.not_at rds b) a us q c z) (not_sound c.place _ c.right)) c.tree) p h

  or_sound : Sound f.Or (read.or_at rds b)
  or_sound ts p h = chain f.Or ts (read.and_at rds b) 1 (binary_turn (read.and_at rds b)) b (λ q k. one_and (and_sound ts q k))
      (λ a us q d z k. let c = binary_sound (read.and_at rds b) a us q k in retree (more_or d (at_number 1 (read.and_at rds b) a us q c z) (and_sound c.place _ c.right)) c.tree) p h

  with_sound : (ts : Tokens) (p : Expr × Tokens) → read.with_at rds b ts ≡ Some p → Reads f.Expr (word w.With ∷ ts) p.0 p.1
  unfolding read.with_at read.with_after read.with_assigned
  with_sound ts p h =
      elim (tested (at w.OpenParenthesis ts && target_at (tail ts)) (read.with_assigned rds b ts) (read.with_after rds b ts) p h) [
        | inl q ↦ (let o = expected w.OpenParenthesis ts _ p q.1 in
            let l = bound (listed w.CloseParenthesis (read.named_at rds b naming.Assigned) o.0) _ p o.2 in
            let c = expected w.Colon l.1 _ p l.3 in
            let a = bound (rds b f.Expr c.0) _ p c.2 in
            made (Reads f.Expr (word w.With ∷ ts)) (e.With l.0 a.0) a.1 p (begun (ap (λ s. word w.With ∷ s) o.1)
            (with_assigned (subst (λ s. ReadsNamedList naming.Assigned o.0 l.0 (word w.CloseParenthesis ∷ s)) c.1 (named_list_of naming.Assigned o.0 l.0 _ (listed_run w.CloseParenthesis (read.named_at rds b naming.Assigned) o.0 l.0 l.1 l.2))) (inside b f.Expr c.0 _ a.2))) a.3)
        | inr q ↦ (let l = list_run (read.named_at rds b naming.After) ts _ p q.1 in
            let c = expected w.Colon l.1 _ p l.3 in
            let a = bound (rds b f.Expr c.0) _ p c.2 in
            made (Reads f.Expr (word w.With ∷ ts)) (e.With l.0 a.0) a.1 p (with_ (subst (λ s. ReadsNamedList naming.After ts l.0 s) c.1 (named_list_of naming.After ts l.0 l.1 l.2)) (inside b f.Expr c.0 _ a.2)) a.3)
      ]

  expr_sound : Sound f.Expr (read.expr_at rds b)
  unfolding read.expr_at read.greedy
  expr_sound ts p h =
      elim (tested (at w.With ts) _ _ p h) [
        | inl q ↦ begun (at_word w.With ts q.0) (with_sound (tail ts) p q.1)
        | inr q ↦ (let c = bound (read.or_at rds b ts) _ p q.1 in
            elim (tested (binds c.1 == 0) _ _ p c.3) [
              | inl k ↦ made (Reads f.Expr ts) c.0 c.1 p (greedy (or_sound ts _ c.2) (same_numbers (binds c.1) 0 k.0)) k.1
              | inr k ↦ absurd (none_some k.1)
            ])
      ]

  form_sound : (g : Form) → Sound g (form_at rds b g)
  form_sound f.Expr = expr_sound
  form_sound f.Or = or_sound
  form_sound f.And = and_sound
  form_sound f.Not = not_sound
  form_sound f.Comparison = comparison_sound
  form_sound f.Relational = relational_sound
  form_sound f.Additive = additive_sound
  form_sound f.Multiplicative = multiplicative_sound
  form_sound f.Prefixed = prefixed_sound
  form_sound f.Projection = projection_sound
  form_sound f.Primary = primary_sound

within_sound : (m : ℕ) (g : Form) (ts : Tokens) (a : Expr) (r : Tokens) (p : Expr × Tokens) → Reads g ts a r → within m a r ≡ Some p → Reads g ts p.0 p.1 × (levels p.0 ≤ m)
unfolding within
within_sound m g ts a r p d h =
    elim (tested (nat_le (levels a) m) _ _ p h) [
      | inl q ↦ made (λ x s. Reads g ts x s × (levels x ≤ m)) a r p (d, leb-true (levels a) m q.0) q.1
      | inr q ↦ absurd (none_some q.1)
    ]

-- What the reader reads, the grammar derives, with no more levels than were allowed.
pub sound : (n b : ℕ) (g : Form) (ts : Tokens) (p : Expr × Tokens) → reads n b g ts ≡ Some p → Reads g ts p.0 p.1 × (levels p.0 ≤ b)
unfolding reads
sound zero b g ts p h = absurd (none_some h)
sound (suc n) zero g ts p h = absurd (none_some h)
sound (suc n) (suc b) g ts p h =
    let c = bound (form_at (reads n) b g ts) _ p h in
    within_sound (suc b) g ts c.0 c.1 p (form_sound (reads n) b (λ m k us q j. (sound n m k us q j).0) g ts _ c.2) c.3
