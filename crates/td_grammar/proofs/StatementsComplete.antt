-- What the grammar of statements derives is what the reader reads.
use Rattle.std.proofs.Common.{◌≡◌, ◌≤◌, ◌<◌, ℕ, zero, suc, true, false, not, List, [], ◌∷◌, ◌++◌, Option, Some, None, length, refl, ap, sym, ◌∙◌, arith, append_assoc}
use Rattle.std.proofs.lemmas.List.{append-nil}
use Rattle.td_tokens.specs.declared.token.Word.{Word}
use Rattle.td_tokens.specs.declared.token.Word.TheVariants as w
use Rattle.td_tokens.specs.Lex.{Text, word, name}
use Rattle.td_grammar.specs.declared.forms.Form.{Form}
use Rattle.td_grammar.specs.declared.forms.Form.TheVariants as f
use Rattle.td_syntax.specs.declared.tree.TypeExpr.{TypeExpr}
use Rattle.td_syntax.specs.declared.tree.Named.{Named}
use Rattle.td_syntax.specs.declared.tree.Attributes.{Attributes}
use Rattle.td_syntax.specs.declared.tree.Expr.{Expr}
use Rattle.td_syntax.specs.declared.script.Action.{Action}
use Rattle.td_syntax.specs.declared.script.Statement.{Statement}
use Rattle.td_syntax.specs.declared.script.Statement.TheVariants as statement
use Rattle.td_syntax.specs.declared.script.Opening.{Opening}
use Rattle.td_syntax.specs.declared.script.Definition.{Definition}
use Rattle.td_syntax.specs.Levels.{levels, named_levels}
use Rattle.td_grammar.specs.Grammar.{Tokens, Reads, ReadsFields, last_field, next_field, IsList, last_item, next_item}
use Rattle.td_grammar.specs.Statements.{ReadsSets, sets, sets_braces, sets_colon, ReadsAction, assign, insert, delete_all, delete_where, update_all, update_where, ReadsStatement, assignment, if_then, if_else, maybe_levels, action_levels, actions_levels, statement_levels, ReadsMaybeName, no_name, this_name, ReadsComponents, no_components, components, ReadsLimit, no_limit, limit, ReadsOpening, empty, headed_init, init, ReadsKeys, last_key, next_key, IsBase, base_word, real_word, ReadsDefinition, type_, base, virtual, constraint, ReadsScript, nothing, define, opening_levels, definition_levels, definitions_levels}
use Rattle.td_grammar.specs.ForProofs.Reader.{Outcome, Reader, same_word, at, at_name, eat, expect, take_name, is_over, reads}
use Rattle.td_grammar.specs.ForProofs.StatementReader as read
use Rattle.td_grammar.proofs.Places.{goes_on, shorter, named_list_shorter, attributes_shorter, heading_shorter, fields_shorter}
use Rattle.td_grammar.proofs.Steps.{ListOf, one, then_more, list_reads, Closes, bracket_closes, brace_closes, listed_reads, attributes_read, heading_reads, fields_list}
use Rattle.td_grammar.proofs.Complete.{read_nested, named_list_read, assigned_begins, bracket_ends, brace_ends}

pub semicolon_closes : Closes w.Semicolon
unfolding at same_word
semicolon_closes = record { no_comma = λ r. refl; itself = λ r. refl }

-- ---- statements

sets_goes : {ts : Tokens} {xs : List (Named Expr)} {r : Tokens} → ReadsSets ts xs r → goes_on ts ≡ false
sets_goes (sets d) = ap not (assigned_begins d refl)
sets_goes (sets_braces d) = refl
sets_goes (sets_colon d) = refl

sets_begin : {ts : Tokens} {xs : List (Named Expr)} {r : Tokens} → ReadsSets ts xs r → at w.Where ts ≡ false
unfolding at same_word
sets_begin (sets d) = refl
sets_begin (sets_braces d) = refl
sets_begin (sets_colon d) = refl

sets_shorter : {ts : Tokens} {xs : List (Named Expr)} {r : Tokens} → ReadsSets ts xs r → length r < length ts
sets_shorter (sets d) = omega (arith, named_list_shorter d)
sets_shorter (sets_braces d) = omega (arith, named_list_shorter d)
sets_shorter (sets_colon d) = omega (arith, named_list_shorter d)

sets_read : {ts : Tokens} {xs : List (Named Expr)} {r : Tokens} → ReadsSets ts xs r → (n b : ℕ) → length ts ≤ n → named_levels xs ≤ b → read.sets_at (reads n) b ts ≡ Some (xs, r)
unfolding read.sets_at eat expect at same_word
sets_read (sets {r = r} d) n b le lv = listed_reads w.CloseParenthesis bracket_closes (named_list_read d (bracket_ends r) n b (omega arith) lv)
sets_read (sets_braces {r = r} d) n b le lv = listed_reads w.CloseBrace brace_closes (named_list_read d (brace_ends r) n b (omega arith) lv)
sets_read (sets_colon {r = r} d) n b le lv = listed_reads w.CloseBrace brace_closes (named_list_read d (brace_ends r) n b (omega arith) lv)

behind_where : (ts r : Tokens) (a : Expr) (n b : ℕ) → reads n b f.Expr ts ≡ Some (a, r) → read.behind (reads n) b w.Where (word w.Where ∷ ts) ≡ Some (Some a, r)
unfolding read.behind eat at same_word
behind_where ts r a n b h = rw h refl

behind_constraint : (ts r : Tokens) (a : Expr) (n b : ℕ) → reads n b f.Expr ts ≡ Some (a, r) → read.behind (reads n) b w.Constraint (word w.Constraint ∷ ts) ≡ Some (Some a, r)
unfolding read.behind eat at same_word
behind_constraint ts r a n b h = rw h refl

behind_none : (v : Word) (ts : Tokens) (n b : ℕ) → at v ts ≡ false → read.behind (reads n) b v ts ≡ Some (None, ts)
unfolding read.behind eat
behind_none v ts n b h = rw h refl

action_shorter : {ts : Tokens} {x : Action} {r : Tokens} → ReadsAction ts x r → length r < length ts
action_shorter (assign d) = omega (arith, shorter d)
action_shorter (insert d) = omega (arith, shorter d)
action_shorter delete_all = omega arith
action_shorter (delete_where d) = omega (arith, shorter d)
action_shorter (update_all d) = omega (arith, sets_shorter d)
action_shorter (update_where d k) = omega (arith, shorter d, sets_shorter k)

pub action_read : {ts : Tokens} {x : Action} {r : Tokens} → ReadsAction ts x r → goes_on r ≡ false → at w.Where r ≡ false → (n b : ℕ) → length ts ≤ n → action_levels x ≤ b → read.action_at (reads n) b ts ≡ Some (x, r)
unfolding read.action_at read.assigned read.inserted read.deleted read.updated take_name expect at same_word
action_read (assign d) h z n b le lv = rw (read_nested d n b (omega arith) lv h) refl
action_read (insert d) h z n b le lv = rw (read_nested d n b (omega arith) lv h) refl
action_read (delete_all {r = r}) h z n b le lv = rw (behind_none w.Where r n b z) refl
action_read (delete_where {ts = ts} {r = r} {a = a} d) h z n b le lv = rw (behind_where ts r a n b (read_nested d n b (omega arith) lv h)) refl
action_read (update_all {ts = ts} d) h z n b le lv = rw (behind_none w.Where ts n b (sets_begin d), sets_read d n b (omega arith) (omega arith)) refl
action_read (update_where {ts = ts} {mid = mid} {a = a} d k) h z n b le lv = rw (behind_where ts mid a n b (read_nested d n b (omega arith) (omega arith) (sets_goes k)), sets_read k n b (omega (arith, shorter d)) (omega arith)) refl

comma_no_where : (ts : Tokens) → at w.Where (word w.Comma ∷ ts) ≡ false
unfolding at same_word
comma_no_where ts = refl

semicolon_no_where : (ts : Tokens) → at w.Where (word w.Semicolon ∷ ts) ≡ false
unfolding at same_word
semicolon_no_where ts = refl

actions_list : {ts : Tokens} {xs : List Action} {r : Tokens} → IsList ReadsAction ts xs r → goes_on r ≡ false → at w.Where r ≡ false → (n b : ℕ) → length ts ≤ n → actions_levels xs ≤ b → ListOf (read.action_at (reads n) b) ts xs r
actions_list (last_item d) h z n b le lv = one (action_read d h z n b le (omega arith)) (action_shorter d)
actions_list (next_item {mid = mid} d k) h z n b le lv = then_more (action_read d refl (comma_no_where mid) n b le (omega arith)) (omega (arith, action_shorter d)) (actions_list k h z n b (omega (arith, action_shorter d)) (omega arith))

actions_shorter : {ts : Tokens} {xs : List Action} {r : Tokens} → IsList ReadsAction ts xs r → length r < length ts
actions_shorter (last_item d) = action_shorter d
actions_shorter (next_item d k) = omega (arith, action_shorter d, actions_shorter k)

actions_read : {ts : Tokens} {xs : List Action} {r : Tokens} → IsList ReadsAction ts xs (word w.Semicolon ∷ r) → (n b : ℕ) → length ts ≤ n → actions_levels xs ≤ b → read.actions_at (reads n) b ts ≡ Some (xs, r)
unfolding read.actions_at
actions_read {r = r} d n b le lv = listed_reads w.Semicolon semicolon_closes (actions_list d refl (semicolon_no_where r) n b le lv)

-- an action does not begin with IF
action_begins : {ts : Tokens} {x : Action} {r : Tokens} → ReadsAction ts x r → at w.If ts ≡ false
unfolding at same_word
action_begins (assign d) = refl
action_begins (insert d) = refl
action_begins delete_all = refl
action_begins (delete_where d) = refl
action_begins (update_all d) = refl
action_begins (update_where d k) = refl

actions_begin : {ts : Tokens} {xs : List Action} {r : Tokens} → IsList ReadsAction ts xs r → at w.If ts ≡ false
actions_begin (last_item d) = action_begins d
actions_begin (next_item d k) = action_begins d

otherwise_none : (ts : Tokens) (n b : ℕ) → read.otherwise (reads n) b (word w.End ∷ ts) ≡ Some ([], word w.End ∷ ts)
unfolding read.otherwise eat at same_word
otherwise_none ts n b = refl

otherwise_read : (ts r : Tokens) (ys : List Action) (n b : ℕ) → read.actions_at (reads n) b ts ≡ Some (ys, r) → read.otherwise (reads n) b (word w.Else ∷ ts) ≡ Some (ys, r)
unfolding read.otherwise eat at same_word
otherwise_read ts r ys n b h = h

conditional_read : (ts mid next : Tokens) (a : Expr) (xs ys : List Action) (n b : ℕ) → reads n b f.Expr ts ≡ Some (a, word w.Then ∷ mid) → read.actions_at (reads n) b mid ≡ Some (xs, next) → read.otherwise (reads n) b next ≡ Some (ys, word w.End ∷ word w.If ∷ word w.Semicolon ∷ []) → read.statement_at (reads n) b (word w.If ∷ ts) ≡ Some (statement.Conditional a xs ys, [])
unfolding read.statement_at read.conditional expect at same_word
conditional_read ts mid next a xs ys n b d k j = rw (d, k, j) refl

pub statement_read : {ts : Tokens} {s : Statement} → ReadsStatement ts s → (b : ℕ) → statement_levels s ≤ b → read.statement_at (reads (length ts)) b ts ≡ Some (s, [])
unfolding read.statement_at
statement_read (assignment {ts} d) b lv = rw (actions_begin d, actions_read d (length ts) b (omega arith) lv) refl
statement_read (if_then {ts} {mid} {a} {xs} d k) b lv =
    let n = length (word w.If ∷ ts) in
    conditional_read ts mid _ a xs [] n b (read_nested d n b (omega arith) (omega arith) refl) (actions_read k n b (omega (arith, shorter d)) (omega arith)) (otherwise_none _ n b)
statement_read (if_else {ts} {mid} {next} {a} {xs} {ys} d k j) b lv =
    let n = length (word w.If ∷ ts) in
    conditional_read ts mid (word w.Else ∷ next) a xs ys n b (read_nested d n b (omega arith) (omega arith) refl) (actions_read k n b (omega (arith, shorter d)) (omega arith))
    (otherwise_read next _ ys n b (actions_read j n b (omega (arith, shorter d, actions_shorter k)) (omega arith)))

-- ---- definitions

name_read : {ts : Tokens} {y : Option Text} {r : Tokens} → ReadsMaybeName ts y (word w.OpenBrace ∷ r) → read.maybe_name ts ≡ Some (y, word w.OpenBrace ∷ r)
unfolding read.maybe_name at_name take_name
name_read no_name = refl
name_read this_name = refl

fields_begin : {ts : Tokens} {h : List (Named TypeExpr)} {r : Tokens} → ReadsFields ts h r → at_name ts ≡ true
unfolding at_name
fields_begin (last_field d) = refl
fields_begin (next_field d k) = refl

components_read : {ts : Tokens} {h : List (Named TypeExpr)} {r : Tokens} → ReadsComponents ts h r → at_name r ≡ false → at w.Comma r ≡ false → read.components_at ts ≡ Some (h, r)
unfolding read.components_at
components_read no_components n c = rw n refl
components_read (components {ts} d) n c = rw (fields_begin d) (list_reads (fields_list d (length ts) (omega arith)) c (length ts) [] (omega arith))

components_shorter : {ts : Tokens} {h : List (Named TypeExpr)} {r : Tokens} → ReadsComponents ts h r → length r ≤ length ts
components_shorter no_components = omega arith
components_shorter (components d) = omega (arith, fields_shorter d)

maybe_name_shorter : {ts : Tokens} {y : Option Text} {r : Tokens} → ReadsMaybeName ts y r → length r ≤ length ts
maybe_name_shorter no_name = omega arith
maybe_name_shorter this_name = omega arith

limit_shorter : {ts : Tokens} {c : Option Expr} {r : Tokens} → ReadsLimit ts c r → length r ≤ length ts
limit_shorter no_limit = omega arith
limit_shorter (limit d) = omega (arith, shorter d)

limit_read : {ts : Tokens} {c : Option Expr} {r : Tokens} → ReadsLimit ts c r → goes_on r ≡ false → at w.Constraint r ≡ false → (n b : ℕ) → length ts ≤ n → maybe_levels c ≤ b → read.behind (reads n) b w.Constraint ts ≡ Some (c, r)
limit_read (no_limit {r}) h z n b le lv = behind_none w.Constraint r n b z
limit_read (limit {ts} {r} {a} d) h z n b le lv = behind_constraint ts r a n b (read_nested d n b (omega arith) lv h)

limit_begins : {ts : Tokens} {c : Option Expr} {r : Tokens} → ReadsLimit ts c r → at_name r ≡ false → at w.Comma r ≡ false → (at_name ts ≡ false) × (at w.Comma ts ≡ false)
unfolding at at_name same_word
limit_begins no_limit n c = (n, c)
limit_begins (limit d) n c = (refl, refl)

bracketed_read : {ts : Tokens} {a : Expr} {r : Tokens} → Reads f.Expr ts a (word w.CloseParenthesis ∷ r) → (n b : ℕ) → length ts ≤ n → levels a ≤ b → read.bracketed (reads n) b (word w.OpenParenthesis ∷ ts) ≡ Some (a, r)
unfolding read.bracketed expect at same_word
bracketed_read d n b le lv = rw (read_nested d n b le lv refl) refl

opening_shorter : {ts : Tokens} {o : Opening} {r : Tokens} → ReadsOpening ts o r → length r < length ts
opening_shorter (empty d) = omega (arith, heading_shorter d)
opening_shorter (headed_init d k) = omega (arith, heading_shorter d, shorter k)
opening_shorter (init d) = omega (arith, shorter d)

opening_read : {ts : Tokens} {o : Opening} {r : Tokens} → ReadsOpening ts o r → at w.Init r ≡ false → (n b : ℕ) → length ts ≤ n → opening_levels o ≤ b → read.opening_at (reads n) b ts ≡ Some (o, r)
unfolding read.opening_at eat expect at same_word
opening_read (empty {ts} d) z n b le lv = rw (heading_reads d (length ts) (omega arith), z) refl
opening_read (headed_init {ts} d k) z n b le lv = rw (heading_reads d (length ts) (omega arith), bracketed_read k n b (omega (arith, heading_shorter d)) lv) refl
opening_read (init d) z n b le lv = rw (bracketed_read d n b (omega arith) lv) refl

keys_begin : {ts : Tokens} {ks : List Attributes} {r : Tokens} → ReadsKeys ts ks r → (at w.Key ts ≡ true) × (at w.Init ts ≡ false)
unfolding at same_word
keys_begin (last_key d) = (refl, refl)
keys_begin (next_key d k) = (refl, refl)

keys_shorter : {ts : Tokens} {ks : List Attributes} {r : Tokens} → ReadsKeys ts ks r → length r < length ts
keys_shorter (last_key d) = omega (arith, attributes_shorter d)
keys_shorter (next_key d k) = omega (arith, attributes_shorter d, keys_shorter k)

regroup : (found : List Attributes) (x : Attributes) (xs : List Attributes) (r : Tokens) → ◌≡◌ {A = Outcome (List Attributes)} (Some ((found ++ x ∷ []) ++ xs, r)) (Some (found ++ (x ∷ xs), r))
regroup found x xs r = rw append_assoc refl

keys_read : {ts : Tokens} {ks : List Attributes} {r : Tokens} → ReadsKeys ts ks r → at w.Key r ≡ false → (m : ℕ) (found : List Attributes) → length ts ≤ m → read.keys_from m found ts ≡ Some (found ++ ks, r)
unfolding read.keys_from expect at same_word
keys_read (last_key d) z zero found le = absurd (omega arith)
keys_read (last_key d) z (suc m) found le = rw (attributes_read d) (rw z refl)
keys_read (next_key d k) z zero found le = absurd (omega arith)
keys_read (next_key {ts} {mid} {r} {k = x} {ks} d k) z (suc m) found le = rw (attributes_read d) (rw (keys_begin k).0 (keys_read k z m (found ++ x ∷ []) (omega (arith, attributes_shorter d)) ∙ regroup found x ks r))

definition_shorter : {ts : Tokens} {d : Definition} {r : Tokens} → ReadsDefinition ts d r → length r < length ts
definition_shorter (type_ d k j) = omega (arith, maybe_name_shorter d, components_shorter k, limit_shorter j)
definition_shorter (base v d k) = omega (arith, opening_shorter d, keys_shorter k)
definition_shorter (virtual d) = omega (arith, shorter d)
definition_shorter (constraint d) = omega (arith, shorter d)

base_read : (v : Word) (x : Text) (ts : Tokens) (rds : ℕ → Form → Reader Expr) (b : ℕ) → IsBase v → read.relvar_definition rds b (name x ∷ word v ∷ ts) ≡ read.base_definition rds b x ts
unfolding read.relvar_definition take_name at same_word
base_read _ x ts rds b base_word = refl
base_read _ x ts rds b real_word = refl

pub definition_read : {ts : Tokens} {d : Definition} {r : Tokens} → ReadsDefinition ts d r → (n b : ℕ) → length ts ≤ n → definition_levels d ≤ b → read.definition_at (reads n) b ts ≡ Some (d, r)
unfolding read.definition_at read.type_definition read.base_definition read.virtual_definition read.constraint_definition read.relvar_definition take_name expect at at_name same_word
definition_read (type_ {r = r} d k j) n b le lv =
    let z = limit_begins j refl refl in
    rw (name_read d, components_read k z.0 z.1, limit_read j refl refl n b (omega (arith, maybe_name_shorter d, components_shorter k)) lv) refl
definition_read (base {v} {x} {ts} {mid} {r} v_is d k) n b le lv =
    base_read v x ts (reads n) b v_is ∙ rw (opening_read d (keys_begin k).1 n b (omega arith) lv) (rw (keys_read k refl (length mid) [] (omega arith)) refl)
definition_read (virtual d) n b le lv = rw (bracketed_read d n b (omega arith) lv) refl
definition_read (constraint d) n b le lv = rw (read_nested d n b (omega arith) lv refl) refl

not_over : (ts : Tokens) → 0 < length ts → is_over ts ≡ false
not_over [] h = absurd (omega arith)
not_over (t ∷ ts) h = refl

script_from : {ts : Tokens} {ds : List Definition} → ReadsScript ts ds → (n b : ℕ) → length ts ≤ n → definitions_levels ds ≤ b → (m : ℕ) (found : List Definition) → length ts ≤ m → read.definitions_from (reads n) b m found ts ≡ Some (found ++ ds)
unfolding read.definitions_from
script_from nothing n b le lv zero found lm = ap Some (sym (append-nil found))
script_from nothing n b le lv (suc m) found lm = ap Some (sym (append-nil found))
script_from (define d k) n b le lv zero found lm = absurd (omega (arith, definition_shorter d))
script_from (define {ts} {mid} {d = x} {ds} d k) n b le lv (suc m) found lm =
    rw (not_over ts (omega (arith, definition_shorter d)), definition_read d n b le (omega arith))
    (script_from k n b (omega (arith, definition_shorter d)) (omega arith) m (found ++ x ∷ []) (omega (arith, definition_shorter d)) ∙ ap Some (append_assoc found (x ∷ []) ds))

pub script_read : (ts : Tokens) (ds : List Definition) → ReadsScript ts ds → (b : ℕ) → definitions_levels ds ≤ b → read.definitions_from (reads (length ts)) b (length ts) [] ts ≡ Some ds
script_read ts ds d b lv = script_from d (length ts) b (omega arith) lv (length ts) [] (omega arith)
