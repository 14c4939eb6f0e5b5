-- Steps of the reader, each read alone.
use Rattle.std.proofs.Common.{◌≡◌, ◌≤◌, ◌<◌, ◌-◌, ◌==◌, ℕ, zero, suc, Bool, true, false, not, cond, List, [], ◌∷◌, ◌++◌, Some, length, refl, ap, sym, ◌∙◌, arith, append_assoc, ◌&&◌}
use Rattle.std.proofs.lemmas.Bool.{le-leb}
use Rattle.td_tokens.specs.declared.token.Word.{Word}
use Rattle.td_tokens.specs.declared.token.Word.TheVariants as w
use Rattle.td_tokens.specs.Lex.{Text, word, name}
use Rattle.td_grammar.specs.declared.forms.Form.{Form}
use Rattle.td_syntax.specs.declared.tree.TypeExpr.{TypeExpr}
use Rattle.td_syntax.specs.declared.tree.Named.{Named}
use Rattle.td_syntax.specs.declared.tree.Attributes.{Attributes}
use Rattle.td_syntax.specs.declared.tree.Renaming.{Renaming}
use Rattle.td_syntax.specs.declared.tree.BinaryOperator.{BinaryOperator}
use Rattle.td_syntax.specs.declared.tree.Expr.{Expr}
use Rattle.td_syntax.specs.declared.tree.Expr.TheVariants as e
use Rattle.td_syntax.specs.Levels.{levels}
use Rattle.td_grammar.specs.Grammar.{Tokens, Infix, infix_at, target_at, assign_at, binds}
use Rattle.td_grammar.specs.Grammar.{IsList, last_item, next_item, IsName, a_name, IsRenaming, a_renaming, ReadsAttributes, no_names, names, but_none, but, ReadsType, boolean, integer_type, char, character, user, tuple_type, relation_type, ReadsHeading, no_fields, fields, ReadsFields, last_field, next_field}
use Rattle.td_grammar.specs.ForProofs.Reader as read
use Rattle.td_grammar.specs.ForProofs.Reader.{Outcome, Reader, and_then, pure, refuse, same_word, look, at, tail, eat, expect, take_name, take_text, at_name, at_type, take_infix, list_from, list_at, listed, up_to, renaming_at, attributes_at, field_of, heading_of, type_of, type_at, heading_at, climb, binary_turn, project_turn, shut, form_at, within, reads}
use Rattle.td_grammar.proofs.Places.{goes_on, lead, name_lead, tuple_lead, name_shorter, renaming_shorter, type_shorter}

pub then_some : {A B : Type 0} (o : Outcome A) (a : A) (r : Tokens) (g : A → Reader B) → o ≡ Some (a, r) → and_then o g ≡ g a r
then_some o a r g h = ap (λ (x : Outcome _). and_then x g) h

-- ---- turns

same : (x j : ℕ) → x ≡ j → (x == j) ≡ true
same x j h = grind arith

other : (x j : ℕ) → x < j → (x == j) ≡ false
other x j h = grind arith

pub one_turn : (j : ℕ) (turn : Expr → Reader Expr) (m : ℕ) (a b : Expr) (mid r : Tokens) → 0 < m → binds mid ≡ j → turn a mid ≡ Some (b, r) → climb j turn m a mid ≡ climb j turn (m - 1) b r
unfolding climb
one_turn j turn zero a b mid r some z h = absurd (omega arith)
one_turn j turn (suc m) a b mid r some z h =
    let less : suc m - 1 ≡ m = omega arith in
    ap (λ (t : Bool). cond t (and_then (turn a mid) (climb j turn m)) (Some (a, mid))) (same (binds mid) j z)
    ∙ then_some (turn a mid) b r (climb j turn m) h
    ∙ ap (λ n. climb j turn n b r) (sym less)

pub no_turn : (j : ℕ) (turn : Expr → Reader Expr) (m : ℕ) (a : Expr) (r : Tokens) → binds r < j → climb j turn m a r ≡ Some (a, r)
unfolding climb
no_turn j turn zero a r h = refl
no_turn j turn (suc m) a r h = ap (λ (t : Bool). cond t (and_then (turn a r) (climb j turn m)) (Some (a, r))) (other (binds r) j h)

pub binary_reads : (operand : Reader Expr) (a b : Expr) (j : ℕ) (o : BinaryOperator) (mid next r : Tokens) → infix_at mid ≡ Some (j, o, next) → operand next ≡ Some (b, r) → binary_turn operand a mid ≡ Some (e.Binary o a b, r)
unfolding binary_turn take_infix
binary_reads operand a b j o mid next r i h = rw i (rw h refl)

pub within_reads : (m : ℕ) (a : Expr) (r : Tokens) → levels a ≤ m → within m a r ≡ Some (a, r)
unfolding within
within_reads m a r h = rw (le-leb (levels a) m h) refl

-- ---- lists

-- items that are read one after the other, with commas between
pub data ListOf {A : Type 0} (item : Reader A) : Tokens → List A → Tokens → Type 0 where
  one : {ts r : Tokens} {x : A} → item ts ≡ Some (x, r) → length r < length ts → ListOf item ts (x ∷ []) r
  then_more : {ts mid r : Tokens} {x : A} {xs : List A} → item ts ≡ Some (x, word w.Comma ∷ mid) → length mid < length ts → ListOf item mid xs r → ListOf item ts (x ∷ xs) r

list_last : {A : Type 0} (item : Reader A) (m : ℕ) (found : List A) (ts : Tokens) (x : A) (r : Tokens) → 0 < m → item ts ≡ Some (x, r) → at w.Comma r ≡ false → list_from item m found ts ≡ Some (found ++ x ∷ [], r)
unfolding list_from eat
list_last item zero found ts x r some p q = absurd (omega arith)
list_last item (suc m) found ts x r some p q = rw p (rw q refl)

list_next : {A : Type 0} (item : Reader A) (m : ℕ) (found : List A) (ts : Tokens) (x : A) (mid : Tokens) → 0 < m → item ts ≡ Some (x, word w.Comma ∷ mid) → list_from item m found ts ≡ list_from item (m - 1) (found ++ x ∷ []) mid
unfolding list_from eat at same_word
list_next item zero found ts x mid some p = absurd (omega arith)
list_next item (suc m) found ts x mid some p = let less : suc m - 1 ≡ m = omega arith in rw p (ap (λ n. list_from item n (found ++ x ∷ []) mid) (sym less))

regroup : {A : Type 0} (found : List A) (x : A) (xs : List A) (r : Tokens) → ◌≡◌ {A = Outcome (List A)} (Some ((found ++ x ∷ []) ++ xs, r)) (Some (found ++ (x ∷ xs), r))
regroup found x xs r = rw append_assoc refl

pub list_reads : {A : Type 0} {item : Reader A} {ts : Tokens} {xs : List A} {r : Tokens} → ListOf item ts xs r → at w.Comma r ≡ false → (m : ℕ) (found : List A) → length ts ≤ m → list_from item m found ts ≡ Some (found ++ xs, r)
list_reads {item = item} (one {ts} {r} {x} p s) q m found le = list_last item m found ts x r (omega arith) p q
list_reads {item = item} (then_more {ts} {mid} {r} {x} {xs} p s d) q m found le =
    list_next item m found ts x mid (omega arith) p ∙ list_reads d q (m - 1) (found ++ x ∷ []) (omega arith) ∙ regroup found x xs r

-- a word that closes a list
pub record Closes (v : Word) : Type 0 where
  pub no_comma : (r : Tokens) → at w.Comma (word v ∷ r) ≡ false
  pub itself : (r : Tokens) → at v (word v ∷ r) ≡ true

pub bracket_closes : Closes w.CloseParenthesis
unfolding at same_word
bracket_closes = record { no_comma = λ r. refl; itself = λ r. refl }

pub brace_closes : Closes w.CloseBrace
unfolding at same_word
brace_closes = record { no_comma = λ r. refl; itself = λ r. refl }

pub listed_reads : {A : Type 0} {item : Reader A} {ts : Tokens} {xs : List A} {r : Tokens} (v : Word) → Closes v → ListOf item ts xs (word v ∷ r) → listed v item ts ≡ Some (xs, r)
unfolding listed expect
listed_reads {ts = ts} {r = r} v c d = rw (list_reads d (c.no_comma r) (length ts) [] (omega arith), c.itself r) refl

pub none_read : {A : Type 0} (item : Reader A) (v : Word) (r : Tokens) → Closes v → up_to v item (word v ∷ r) ≡ Some ([], r)
unfolding up_to eat
none_read item v r c = rw (c.itself r) refl

pub some_read : {A : Type 0} {item : Reader A} {ts : Tokens} {xs : List A} {r : Tokens} (v : Word) → Closes v → at v ts ≡ false → ListOf item ts xs (word v ∷ r) → up_to v item ts ≡ Some (xs, r)
unfolding up_to eat
some_read v c h d = rw (h, listed_reads v c d) refl

-- ---- lists of names

name_reads : {ts : Tokens} {x : Text} {r : Tokens} → IsName ts x r → take_name ts ≡ Some (x, r)
unfolding take_name
name_reads a_name = refl

renaming_reads : {ts : Tokens} {x : Renaming} {r : Tokens} → IsRenaming ts x r → renaming_at ts ≡ Some (x, r)
unfolding renaming_at take_name expect at same_word
renaming_reads a_renaming = refl

pub names_list : {ts : Tokens} {xs : List Text} {r : Tokens} → IsList IsName ts xs r → ListOf take_name ts xs r
names_list (last_item d) = one (name_reads d) (name_shorter d)
names_list (next_item d e) = then_more (name_reads d) (omega (arith, name_shorter d)) (names_list e)

pub renamings_list : {ts : Tokens} {xs : List Renaming} {r : Tokens} → IsList IsRenaming ts xs r → ListOf renaming_at ts xs r
renamings_list (last_item d) = one (renaming_reads d) (renaming_shorter d)
renamings_list (next_item d e) = then_more (renaming_reads d) (omega (arith, renaming_shorter d)) (renamings_list e)

-- the first of a list of names is no other token
pub names_begin : {ts : Tokens} {xs : List Text} {r : Tokens} → IsList IsName ts xs r → assign_at r ≡ false → (at w.CloseBrace ts ≡ false) × (at w.All ts ≡ false) × (target_at ts ≡ false)
unfolding at
names_begin (last_item a_name) h = (refl, refl, h)
names_begin (next_item a_name e) h = (refl, refl, refl)

pub attributes_read : {ts : Tokens} {xs : Attributes} {r : Tokens} → ReadsAttributes ts xs r → attributes_at ts ≡ Some (xs, r)
unfolding attributes_at expect eat at same_word
attributes_read (no_names {r}) = rw (none_read take_name w.CloseBrace r brace_closes) refl
attributes_read (names d) = rw ((names_begin d refl).1, some_read w.CloseBrace brace_closes (names_begin d refl).0 (names_list d)) refl
attributes_read (but_none {r}) = rw (none_read take_name w.CloseBrace r brace_closes) refl
attributes_read (but d) = rw (some_read w.CloseBrace brace_closes (names_begin d refl).0 (names_list d)) refl

pub attributes_bind : {ts : Tokens} {xs : Attributes} {r : Tokens} → ReadsAttributes ts xs r → binds ts ≡ 9
unfolding binds
attributes_bind no_names = refl
attributes_bind (names d) = rw (names_begin d refl).2 refl
attributes_bind but_none = refl
attributes_bind (but d) = refl

pub project_reads : {ts : Tokens} {xs : Attributes} {r : Tokens} → ReadsAttributes ts xs r → (a : Expr) → project_turn a ts ≡ Some (e.Project a xs, r)
unfolding project_turn
project_reads d a = rw (attributes_read d) refl

-- ---- types

pub type_first : {ts : Tokens} {a : TypeExpr} {r : Tokens} → ReadsType ts a r → at_type ts ≡ true
unfolding at_type
type_first boolean = refl
type_first integer_type = refl
type_first char = refl
type_first character = refl
type_first user = refl
type_first (tuple_type d) = refl
type_first (relation_type d) = refl

fields_first : {ts : Tokens} {h : List (Named TypeExpr)} {r : Tokens} → ReadsFields ts h r → (at w.CloseBrace ts ≡ false) × ((at_name ts ≡ true) × (at_type (tail ts) ≡ true))
unfolding at at_name
fields_first (last_field d) = (refl, (refl, type_first d))
fields_first (next_field d e) = (refl, (refl, type_first d))

mutual
  unfolding type_at type_of take_name heading_of expect at same_word field_of

  pub type_reads : {ts : Tokens} {a : TypeExpr} {r : Tokens} → ReadsType ts a r → (n : ℕ) → length ts ≤ n → type_at n ts ≡ Some (a, r)
  type_reads boolean zero le = absurd (omega arith)
  type_reads boolean (suc n) le = refl
  type_reads integer_type zero le = absurd (omega arith)
  type_reads integer_type (suc n) le = refl
  type_reads char zero le = absurd (omega arith)
  type_reads char (suc n) le = refl
  type_reads character zero le = absurd (omega arith)
  type_reads character (suc n) le = refl
  type_reads user zero le = absurd (omega arith)
  type_reads user (suc n) le = refl
  type_reads (tuple_type d) zero le = absurd (omega arith)
  type_reads (tuple_type d) (suc n) le = rw (heading_reads d n (omega arith)) refl
  type_reads (relation_type d) zero le = absurd (omega arith)
  type_reads (relation_type d) (suc n) le = rw (heading_reads d n (omega arith)) refl

  pub heading_reads : {ts : Tokens} {h : List (Named TypeExpr)} {r : Tokens} → ReadsHeading ts h r → (n : ℕ) → length ts ≤ suc n → heading_of (type_at n) ts ≡ Some (h, r)
  heading_reads (no_fields {r}) n le = none_read (field_of (type_at n)) w.CloseBrace r brace_closes
  heading_reads (fields d) n le = some_read w.CloseBrace brace_closes (fields_first d).0 (fields_list d n (omega arith))

  pub fields_list : {ts : Tokens} {h : List (Named TypeExpr)} {r : Tokens} → ReadsFields ts h r → (n : ℕ) → length ts ≤ suc n → ListOf (field_of (type_at n)) ts h r
  fields_list (last_field d) n le = one (rw (type_reads d n (omega arith)) refl) (omega (arith, type_shorter d))
  fields_list (next_field d e) n le = then_more (rw (type_reads d n (omega arith)) refl) (omega (arith, type_shorter d)) (fields_list e n (omega (arith, type_shorter d)))

pub has_heading : {ts : Tokens} {h : List (Named TypeExpr)} {r : Tokens} → ReadsHeading ts h r → read.has_heading ts ≡ true
unfolding read.has_heading at at_name same_word
has_heading no_fields = refl
has_heading (fields d) = rw ((fields_first d).0, (fields_first d).1.0, (fields_first d).1.1) refl

-- ---- dispatch on the first tokens

name_no_type : (ts : Tokens) → 1 ≤ name_lead ts → at_type ts ≡ false
unfolding at_type
name_no_type (word w.Boolean ∷ ts) h = absurd (omega arith)
name_no_type (word w.Integer ∷ ts) h = absurd (omega arith)
name_no_type (word w.Char ∷ ts) h = absurd (omega arith)
name_no_type (word w.Character ∷ ts) h = absurd (omega arith)
name_no_type (word w.Tuple ∷ ts) h = absurd (omega arith)
name_no_type (word w.Relation ∷ ts) h = absurd (omega arith)
name_no_type (name x ∷ ts) h = absurd (omega arith)
name_no_type _ h = refl

pub no_heading : (v : Word) (ts : Tokens) → 1 ≤ lead ts → read.has_heading (word v ∷ ts) ≡ false
unfolding read.has_heading at at_name same_word
no_heading v (word w.CloseBrace ∷ ts) h = absurd (omega arith)
no_heading v (name x ∷ ts) h = name_no_type ts h
no_heading v _ h = refl

-- a word that begins no expression
pub no_close : (ts : Tokens) → 1 ≤ lead ts → (at w.CloseParenthesis ts ≡ false) × (at w.CloseBrace ts ≡ false)
unfolding at same_word
no_close (word w.CloseParenthesis ∷ ts) h = absurd (omega arith)
no_close (word w.CloseBrace ∷ ts) h = absurd (omega arith)
no_close _ h = (refl, refl)

from_after_name : (ts : Tokens) → 10 ≤ name_lead ts → at w.From ts ≡ false
unfolding at same_word
from_after_name (word w.From ∷ ts) h = absurd (omega arith)
from_after_name _ h = refl

from_after_tuple : (ts : Tokens) → 10 ≤ tuple_lead ts → at w.From ts ≡ false
unfolding at same_word
from_after_tuple (word w.From ∷ ts) h = absurd (omega arith)
from_after_tuple _ h = refl

pub no_targets : (ts : Tokens) → 1 ≤ lead ts → (at w.OpenParenthesis ts && target_at (tail ts)) ≡ false
unfolding at same_word
no_targets (word w.OpenParenthesis ∷ ts) h = no (target_at ts) h
  where
    no : (b : Bool) → 1 ≤ cond b 0 11 → b ≡ false
    no true h = absurd (omega arith)
    no false h = refl
no_targets _ h = refl

pub no_call : (r : Tokens) → goes_on r ≡ false → (at w.OpenParenthesis r && cond (target_at (tail r)) false true) ≡ false
unfolding at same_word
no_call (word w.OpenParenthesis ∷ ts) h = no (target_at ts) h
  where
    no : (b : Bool) → not b ≡ false → cond b false true ≡ false
    no true h = refl
    no false h = absurd (let z : ⊥ = cc in z)
no_call _ h = refl

module _ (rds : ℕ → Form → Reader Expr) (b : ℕ) where
  pub expr_plain : (ts : Tokens) → 2 ≤ lead ts → read.expr_at rds b ts ≡ and_then (read.or_at rds b ts) (read.greedy rds b)
  unfolding read.expr_at at same_word
  expr_plain (word w.With ∷ ts) h = absurd (omega arith)
  expr_plain _ h = refl

  pub not_plain : (ts : Tokens) → 5 ≤ lead ts → read.not_at rds b ts ≡ read.comparison_at rds b ts
  unfolding read.not_at at same_word
  not_plain (word w.Not ∷ ts) h = absurd (omega arith)
  not_plain _ h = refl

  pub prefixed_plain : (ts : Tokens) → 10 ≤ lead ts → read.prefixed_at rds b ts ≡ read.projection_at rds b ts
  unfolding read.prefixed_at at same_word at_name
  prefixed_plain (word w.Dash ∷ ts) h = absurd (omega arith)
  prefixed_plain (word w.Tclose ∷ ts) h = absurd (omega arith)
  prefixed_plain (word w.Tuple ∷ ts) h = rw (from_after_tuple ts h) refl
  prefixed_plain (name x ∷ ts) h = rw (from_after_name ts h) refl
  prefixed_plain _ h = refl

  -- an infix operator after a relational form
  pub relational_infix : (a : Expr) (ts : Tokens) (p : Infix) → infix_at ts ≡ Some p → read.relational_turn rds b a ts ≡ binary_turn (read.additive_at rds b) a ts
  unfolding read.relational_turn
  relational_infix a (word w.Where ∷ ts) p h = absurd (let z : ⊥ = cc in z)
  relational_infix a (word w.Rename ∷ ts) p h = absurd (let z : ⊥ = cc in z)
  relational_infix a (word w.Group ∷ ts) p h = absurd (let z : ⊥ = cc in z)
  relational_infix a (word w.Wrap ∷ ts) p h = absurd (let z : ⊥ = cc in z)
  relational_infix a (word w.Ungroup ∷ ts) p h = absurd (let z : ⊥ = cc in z)
  relational_infix a (word w.Unwrap ∷ ts) p h = absurd (let z : ⊥ = cc in z)
  relational_infix a (word v ∷ ts) p h = refl
  relational_infix a _ p h = absurd (let z : ⊥ = cc in z)
