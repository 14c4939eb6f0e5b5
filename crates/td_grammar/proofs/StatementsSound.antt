-- What the reader of statements reads, the grammar derives.
use Rattle.std.proofs.Common.{◌≡◌, ◌⊎◌, inl, inr, ℕ, zero, suc, List, [], ◌∷◌, ◌++◌, Option, Some, None, length, refl, ap, sym, ◌∙◌, subst, append_assoc, option_and_then}
use Rattle.std.proofs.lemmas.List.{append-nil}
use Rattle.td_tokens.specs.declared.token.Word.{Word}
use Rattle.td_tokens.specs.declared.token.Word.TheVariants as w
use Rattle.td_tokens.specs.Lex.{Text, word, name}
use Rattle.td_grammar.specs.declared.forms.Form.{Form}
use Rattle.td_grammar.specs.declared.forms.Form.TheVariants as f
use Rattle.td_grammar.specs.declared.forms.Naming.TheVariants as naming
use Rattle.td_syntax.specs.declared.tree.TypeExpr.{TypeExpr}
use Rattle.td_syntax.specs.declared.tree.Named.{Named}
use Rattle.td_syntax.specs.declared.tree.Attributes.{Attributes}
use Rattle.td_syntax.specs.declared.tree.Expr.{Expr}
use Rattle.td_syntax.specs.declared.script.Action.{Action}
use Rattle.td_syntax.specs.declared.script.Action.TheVariants as action
use Rattle.td_syntax.specs.declared.script.Statement.{Statement}
use Rattle.td_syntax.specs.declared.script.Statement.TheVariants as statement
use Rattle.td_syntax.specs.declared.script.Opening.{Opening}
use Rattle.td_syntax.specs.declared.script.Opening.TheVariants as opening
use Rattle.td_syntax.specs.declared.script.Definition.{Definition}
use Rattle.td_syntax.specs.declared.script.Definition.TheVariants as definition
use Rattle.td_grammar.specs.Grammar.{Tokens, Reads, ReadsAttributes, ReadsHeading, IsList, last_item, next_item}
use Rattle.td_grammar.specs.Statements.{ReadsSets, sets, sets_braces, sets_colon, ReadsAction, assign, insert, delete_all, delete_where, update_all, update_where, ReadsStatement, assignment, if_then, if_else, ReadsMaybeName, no_name, this_name, ReadsComponents, no_components, components, ReadsLimit, no_limit, limit, ReadsOpening, empty, headed_init, init, ReadsKeys, last_key, next_key, IsBase, base_word, real_word, ReadsDefinition, type_, base, virtual, constraint, ReadsScript, nothing, define}
use Rattle.td_grammar.specs.ForProofs.Reader.{Outcome, Reader, and_then, pure, at, at_name, tail, attributes_at, heading_at, field_of, type_at, named_at}
use Rattle.td_grammar.specs.ForProofs.StatementReader as read
use Rattle.td_grammar.proofs.Places.{none_some}
use Rattle.td_grammar.proofs.Sound.{bound, parts, tested, at_word, eaten, expected, a_name_read, made, Run, last, next, list_run, listed_run, attributes_sound, heading_sound, type_sound, fields_of, Sound, ended, named_list_of}

maybe_name_sound : (ts : Tokens) (p : Option Text × Tokens) → read.maybe_name ts ≡ Some p → ReadsMaybeName ts p.0 p.1
unfolding read.maybe_name
maybe_name_sound ts p h =
    elim (tested (at_name ts) _ _ p h) [
      | inl q ↦ (let x = a_name_read ts _ p q.1 in made (ReadsMaybeName ts) (Some x.0) x.1 p (subst (λ us. ReadsMaybeName us (Some x.0) x.1) (sym x.2) this_name) x.3)
      | inr q ↦ made (ReadsMaybeName ts) None ts p no_name q.1
    ]

components_sound : (ts : Tokens) (p : List (Named TypeExpr) × Tokens) → read.components_at ts ≡ Some p → ReadsComponents ts p.0 p.1
unfolding read.components_at
components_sound ts p h =
    elim (tested (at_name ts) _ _ p h) [
      | inl q ↦ (let l = list_run (field_of (type_at (length ts))) ts pure p (ap (λ (o : Outcome _). and_then o pure) q.1) in made (ReadsComponents ts) l.0 l.1 p (components (fields_of (type_at (length ts)) (type_sound (length ts)) ts l.0 l.1 l.2)) l.3)
      | inr q ↦ made (ReadsComponents ts) [] ts p no_components q.1
    ]

key_made : {ts us : Tokens} {ks : List Attributes} {r : Tokens} → us ≡ ts → ReadsKeys ts ks r → ReadsKeys us ks r
key_made {ks = ks} {r = r} h d = subst (λ s. ReadsKeys s ks r) (sym h) d

keys_sound : (n : ℕ) (found : List Attributes) (ts : Tokens) (all : List Attributes) (r : Tokens) → read.keys_from n found ts ≡ Some (all, r) → (ks : List Attributes) × (all ≡ found ++ ks) × ReadsKeys ts ks r
unfolding read.keys_from
keys_sound zero found ts all r h = absurd (none_some h)
keys_sound (suc n) found ts all r h =
    let o = expected w.Key ts _ (all, r) h in
    let c = bound (attributes_at o.0) _ (all, r) o.2 in
    let d = attributes_sound o.0 (c.0, c.1) c.2 in
    elim (tested (at w.Key c.1) _ _ (all, r) c.3) [
      | inl q ↦ (let more = keys_sound n (found ++ c.0 ∷ []) c.1 all r q.1 in
          (c.0 ∷ more.0, more.1 ∙ append_assoc found (c.0 ∷ []) more.0, key_made o.1 (next_key d more.2)))
      | inr q ↦ (let z = parts (found ++ c.0 ∷ []) all c.1 r q.1 in
          (c.0 ∷ [], sym z.0, key_made o.1 (last_key (subst (λ s. ReadsAttributes o.0 c.0 s) z.1 d))))
    ]

module _ (rds : ℕ → Form → Reader Expr) (b : ℕ) (inside : (m : ℕ) (g : Form) → Sound g (rds m g)) where
  sets_sound : (ts : Tokens) (p : List (Named Expr) × Tokens) → read.sets_at rds b ts ≡ Some p → ReadsSets ts p.0 p.1
  unfolding read.sets_at
  sets_sound ts p h =
      elim (eaten w.OpenParenthesis ts _ p h) [
        | inl q ↦ subst (λ us. ReadsSets us p.0 p.1) (sym q.0) (sets (named_list_of rds b inside naming.Assigned (tail ts) p.0 _ (listed_run w.CloseParenthesis (named_at rds b naming.Assigned) (tail ts) p.0 p.1 q.1)))
        | inr q ↦ elim (eaten w.Colon ts _ p q) [
          | inl k ↦ (let o = expected w.OpenBrace (tail ts) _ p k.1 in
              subst (λ us. ReadsSets us p.0 p.1) (sym (k.0 ∙ ap (λ s. word w.Colon ∷ s) o.1)) (sets_colon (named_list_of rds b inside naming.Assigned o.0 p.0 _ (listed_run w.CloseBrace (named_at rds b naming.Assigned) o.0 p.0 p.1 o.2))))
          | inr k ↦ (let o = expected w.OpenBrace ts _ p k in
              subst (λ us. ReadsSets us p.0 p.1) (sym o.1) (sets_braces (named_list_of rds b inside naming.Assigned o.0 p.0 _ (listed_run w.CloseBrace (named_at rds b naming.Assigned) o.0 p.0 p.1 o.2))))
        ]
      ]

  -- an expression behind a word, or nothing
  behind_sound : (v : Word) (ts : Tokens) (p : Option Expr × Tokens) → read.behind rds b v ts ≡ Some p → ((us : Tokens) × (a : Expr) × (ts ≡ word v ∷ us) × Reads f.Expr us a p.1 × (Some a ≡ p.0)) ⊎ ((ts ≡ p.1) × (None ≡ p.0))
  unfolding read.behind
  behind_sound v ts p h =
      elim (eaten v ts _ p h) [
        | inl q ↦ (let c = bound (rds b f.Expr (tail ts)) _ p q.1 in
            let z = parts (Some c.0) p.0 c.1 p.1 c.3 in
            inl (tail ts, c.0, q.0, ended (inside b f.Expr (tail ts) _ c.2) z.1, z.0))
        | inr q ↦ (let z = parts None p.0 ts p.1 q in inr (z.1, z.0))
      ]

  inserted_sound : (ts : Tokens) (p : Action × Tokens) → read.inserted rds b ts ≡ Some p → ReadsAction (word w.Insert ∷ ts) p.0 p.1
  unfolding read.inserted
  inserted_sound ts p h =
      let x = a_name_read ts _ p h in
      let a = bound (rds b f.Expr x.1) _ p x.3 in
      made (ReadsAction (word w.Insert ∷ ts)) (action.Insert x.0 a.0) a.1 p (subst (λ us. ReadsAction (word w.Insert ∷ us) (action.Insert x.0 a.0) a.1) (sym x.2) (insert (inside b f.Expr x.1 _ a.2))) a.3

  assigned_sound : (ts : Tokens) (p : Action × Tokens) → read.assigned rds b ts ≡ Some p → ReadsAction ts p.0 p.1
  unfolding read.assigned
  assigned_sound ts p h =
      let x = a_name_read ts _ p h in
      let c = expected w.Assign x.1 _ p x.3 in
      let a = bound (rds b f.Expr c.0) _ p c.2 in
      made (ReadsAction ts) (action.Assign x.0 a.0) a.1 p (subst (λ us. ReadsAction us (action.Assign x.0 a.0) a.1) (sym (x.2 ∙ ap (λ s. name x.0 ∷ s) c.1)) (assign (inside b f.Expr c.0 _ a.2))) a.3

  deleted_made : (x : Text) (ts : Tokens) (c : Option Expr) (r : Tokens) → ((us : Tokens) × (a : Expr) × (ts ≡ word w.Where ∷ us) × Reads f.Expr us a r × (Some a ≡ c)) ⊎ ((ts ≡ r) × (None ≡ c)) → ReadsAction (word w.Delete ∷ name x ∷ ts) (action.Delete x c) r
  deleted_made x ts c r (inl q) = subst (λ us. ReadsAction (word w.Delete ∷ name x ∷ us) (action.Delete x c) r) (sym q.2) (subst (λ y. ReadsAction (word w.Delete ∷ name x ∷ word w.Where ∷ q.0) (action.Delete x y) r) q.4 (delete_where q.3))
  deleted_made x ts c r (inr q) = subst (λ us. ReadsAction (word w.Delete ∷ name x ∷ us) (action.Delete x c) r) (sym q.0) (subst (λ y. ReadsAction (word w.Delete ∷ name x ∷ r) (action.Delete x y) r) q.1 delete_all)

  deleted_sound : (ts : Tokens) (p : Action × Tokens) → read.deleted rds b ts ≡ Some p → ReadsAction (word w.Delete ∷ ts) p.0 p.1
  unfolding read.deleted
  deleted_sound ts p h =
      let x = a_name_read ts _ p h in
      let c = bound (read.behind rds b w.Where x.1) _ p x.3 in
      made (ReadsAction (word w.Delete ∷ ts)) (action.Delete x.0 c.0) c.1 p (subst (λ us. ReadsAction (word w.Delete ∷ us) (action.Delete x.0 c.0) c.1) (sym x.2) (deleted_made x.0 x.1 c.0 c.1 (behind_sound w.Where x.1 _ c.2))) c.3

  updated_made : (x : Text) (ts : Tokens) (c : Option Expr) (mid : Tokens) (xs : List (Named Expr)) (r : Tokens) → ((us : Tokens) × (a : Expr) × (ts ≡ word w.Where ∷ us) × Reads f.Expr us a mid × (Some a ≡ c)) ⊎ ((ts ≡ mid) × (None ≡ c)) → ReadsSets mid xs r → ReadsAction (word w.Update ∷ name x ∷ ts) (action.Update x c xs) r
  updated_made x ts c mid xs r (inl q) d = subst (λ us. ReadsAction (word w.Update ∷ name x ∷ us) (action.Update x c xs) r) (sym q.2) (subst (λ y. ReadsAction (word w.Update ∷ name x ∷ word w.Where ∷ q.0) (action.Update x y xs) r) q.4 (update_where q.3 d))
  updated_made x ts c mid xs r (inr q) d = subst (λ us. ReadsAction (word w.Update ∷ name x ∷ us) (action.Update x c xs) r) (sym q.0) (subst (λ y. ReadsAction (word w.Update ∷ name x ∷ mid) (action.Update x y xs) r) q.1 (update_all d))

  updated_sound : (ts : Tokens) (p : Action × Tokens) → read.updated rds b ts ≡ Some p → ReadsAction (word w.Update ∷ ts) p.0 p.1
  unfolding read.updated
  updated_sound ts p h =
      let x = a_name_read ts _ p h in
      let c = bound (read.behind rds b w.Where x.1) _ p x.3 in
      let s = bound (read.sets_at rds b c.1) _ p c.3 in
      made (ReadsAction (word w.Update ∷ ts)) (action.Update x.0 c.0 s.0) s.1 p (subst (λ us. ReadsAction (word w.Update ∷ us) (action.Update x.0 c.0 s.0) s.1) (sym x.2) (updated_made x.0 x.1 c.0 c.1 s.0 s.1 (behind_sound w.Where x.1 _ c.2) (sets_sound c.1 _ s.2))) s.3

  pub action_sound : (ts : Tokens) (p : Action × Tokens) → read.action_at rds b ts ≡ Some p → ReadsAction ts p.0 p.1
  unfolding read.action_at
  action_sound ts p h =
      elim (tested (at w.Insert ts) _ _ p h) [
        | inl q ↦ subst (λ us. ReadsAction us p.0 p.1) (sym (at_word w.Insert ts q.0)) (inserted_sound (tail ts) p q.1)
        | inr q ↦ elim (tested (at w.Delete ts) _ _ p q.1) [
          | inl k ↦ subst (λ us. ReadsAction us p.0 p.1) (sym (at_word w.Delete ts k.0)) (deleted_sound (tail ts) p k.1)
          | inr k ↦ elim (tested (at w.Update ts) _ _ p k.1) [
            | inl j ↦ subst (λ us. ReadsAction us p.0 p.1) (sym (at_word w.Update ts j.0)) (updated_sound (tail ts) p j.1)
            | inr j ↦ assigned_sound ts p j.1
          ]
        ]
      ]

  actions_of : (ts : Tokens) (xs : List Action) (r : Tokens) → Run (read.action_at rds b) ts xs r → IsList ReadsAction ts xs r
  actions_of ts xs r (last h) = last_item (action_sound ts _ h)
  actions_of ts xs r (next {mid = mid} {xs = ys} h d) = next_item (action_sound ts _ h) (actions_of mid ys r d)

  actions_sound : (ts : Tokens) (xs : List Action) (r : Tokens) → read.actions_at rds b ts ≡ Some (xs, r) → IsList ReadsAction ts xs (word w.Semicolon ∷ r)
  unfolding read.actions_at
  actions_sound ts xs r h = actions_of ts xs (word w.Semicolon ∷ r) (listed_run w.Semicolon (read.action_at rds b) ts xs r h)

  -- actions behind ELSE, or nothing
  abbrev Otherwise : Tokens → List Action → Tokens → Type 0
  Otherwise ts xs r = ((us : Tokens) × (ts ≡ word w.Else ∷ us) × IsList ReadsAction us xs (word w.Semicolon ∷ r)) ⊎ ((ts ≡ r) × ([] ≡ xs))

  otherwise_sound : (ts : Tokens) (p : List Action × Tokens) → read.otherwise rds b ts ≡ Some p → Otherwise ts p.0 p.1
  unfolding read.otherwise
  otherwise_sound ts p h =
      elim (eaten w.Else ts _ p h) [
        | inl q ↦ inl (tail ts, q.0, actions_sound (tail ts) p.0 p.1 q.1)
        | inr q ↦ (let z = parts [] p.0 ts p.1 q in inr (z.1, z.0))
      ]

  conditional_made : (ts mid rest : Tokens) (a : Expr) (xs ys : List Action) → Reads f.Expr ts a (word w.Then ∷ mid) → IsList ReadsAction mid xs (word w.Semicolon ∷ rest) → Otherwise rest ys (word w.End ∷ word w.If ∷ word w.Semicolon ∷ []) → ReadsStatement (word w.If ∷ ts) (statement.Conditional a xs ys)
  conditional_made ts mid rest a xs ys d k (inl q) = if_else d (subst (λ r. IsList ReadsAction mid xs (word w.Semicolon ∷ r)) q.1 k) q.2
  conditional_made ts mid rest a xs ys d k (inr q) = subst (λ zs. ReadsStatement (word w.If ∷ ts) (statement.Conditional a xs zs)) q.1 (if_then d (subst (λ r. IsList ReadsAction mid xs (word w.Semicolon ∷ r)) q.0 k))

  conditional_sound : (ts : Tokens) (s : Statement) → read.conditional rds b ts ≡ Some (s, []) → ReadsStatement (word w.If ∷ ts) s
  unfolding read.conditional
  conditional_sound ts s h =
      let a = bound (rds b f.Expr ts) _ (s, []) h in
      let t = expected w.Then a.1 _ (s, []) a.3 in
      let first = bound (read.actions_at rds b t.0) _ (s, []) t.2 in
      let second = bound (read.otherwise rds b first.1) _ (s, []) first.3 in
      let e = expected w.End second.1 _ (s, []) second.3 in
      let i = expected w.If e.0 _ (s, []) e.2 in
      let c = expected w.Semicolon i.0 _ (s, []) i.2 in
      let z = parts (statement.Conditional a.0 first.0 second.0) s c.0 [] c.2 in
      let ends = e.1 ∙ ap (λ r. word w.End ∷ r) (i.1 ∙ ap (λ r. word w.If ∷ r) (c.1 ∙ ap (λ r. word w.Semicolon ∷ r) z.1)) in
      subst (ReadsStatement (word w.If ∷ ts)) z.0
      (conditional_made ts t.0 first.1 a.0 first.0 second.0 (ended (inside b f.Expr ts _ a.2) t.1) (actions_sound t.0 first.0 first.1 first.2)
      (subst (λ r. Otherwise first.1 second.0 r) ends (otherwise_sound first.1 (second.0, second.1) second.2)))

  assignment_sound : (ts : Tokens) (s : Statement) → and_then (read.actions_at rds b ts) (λ xs. pure (statement.Assignment xs)) ≡ Some (s, []) → ReadsStatement ts s
  assignment_sound ts s h =
      let l = bound (read.actions_at rds b ts) _ (s, []) h in
      let z = parts (statement.Assignment l.0) s l.1 [] l.3 in
      subst (ReadsStatement ts) z.0 (assignment (subst (λ r. IsList ReadsAction ts l.0 (word w.Semicolon ∷ r)) z.1 (actions_sound ts l.0 l.1 l.2)))

  pub statement_sound : (ts : Tokens) (s : Statement) → read.statement_at rds b ts ≡ Some (s, []) → ReadsStatement ts s
  unfolding read.statement_at
  statement_sound ts s h =
      elim (tested (at w.If ts) _ _ (s, []) h) [
        | inl q ↦ subst (λ us. ReadsStatement us s) (sym (at_word w.If ts q.0)) (conditional_sound (tail ts) s q.1)
        | inr q ↦ assignment_sound ts s q.1
      ]

  -- ---- definitions

  limit_of : (ts : Tokens) (c : Option Expr) (r : Tokens) → ((us : Tokens) × (a : Expr) × (ts ≡ word w.Constraint ∷ us) × Reads f.Expr us a r × (Some a ≡ c)) ⊎ ((ts ≡ r) × (None ≡ c)) → ReadsLimit ts c r
  limit_of ts c r (inl q) = subst (λ us. ReadsLimit us c r) (sym q.2) (subst (λ y. ReadsLimit (word w.Constraint ∷ q.0) y r) q.4 (limit q.3))
  limit_of ts c r (inr q) = subst (λ us. ReadsLimit us c r) (sym q.0) (subst (λ y. ReadsLimit r y r) q.1 no_limit)

  bracketed_sound : (ts : Tokens) (p : Expr × Tokens) → read.bracketed rds b ts ≡ Some p → (us : Tokens) × (ts ≡ word w.OpenParenthesis ∷ us) × Reads f.Expr us p.0 (word w.CloseParenthesis ∷ p.1)
  unfolding read.bracketed
  bracketed_sound ts p h =
      let o = expected w.OpenParenthesis ts _ p h in
      let a = bound (rds b f.Expr o.0) _ p o.2 in
      let c = expected w.CloseParenthesis a.1 _ p a.3 in
      made (λ x s. (us : Tokens) × (ts ≡ word w.OpenParenthesis ∷ us) × Reads f.Expr us x (word w.CloseParenthesis ∷ s)) a.0 c.0 p (o.0, o.1, ended (inside b f.Expr o.0 _ a.2) c.1) c.2

  heading_read_sound : (ts : Tokens) (h : List (Named TypeExpr)) (r : Tokens) → heading_at ts ≡ Some (h, r) → ReadsHeading ts h r
  heading_read_sound ts h r e = heading_sound (type_at (length ts)) (type_sound (length ts)) ts (h, r) e

  opening_sound : (ts : Tokens) (p : Opening × Tokens) → read.opening_at rds b ts ≡ Some p → ReadsOpening ts p.0 p.1
  unfolding read.opening_at
  opening_sound ts p h =
      elim (eaten w.Relation ts _ p h) [
        | inl q ↦ (let d = bound (heading_at (tail ts)) _ p q.1 in
            subst (λ us. ReadsOpening us p.0 p.1) (sym q.0) (
            elim (eaten w.Init d.1 _ p d.3) [
              | inl k ↦ (let a = bound (read.bracketed rds b (tail d.1)) _ p k.1 in
                  let c = bracketed_sound (tail d.1) _ a.2 in
                  made (ReadsOpening (word w.Relation ∷ tail ts)) (opening.Init (Some d.0) a.0) a.1 p (headed_init (subst (λ s. ReadsHeading (tail ts) d.0 s) (k.0 ∙ ap (λ s. word w.Init ∷ s) c.1) (heading_read_sound (tail ts) d.0 d.1 d.2)) c.2) a.3)
              | inr k ↦ made (ReadsOpening (word w.Relation ∷ tail ts)) (opening.Empty d.0) d.1 p (empty (heading_read_sound (tail ts) d.0 d.1 d.2)) k
            ]))
        | inr q ↦ (let i = expected w.Init ts _ p q in
            let a = bound (read.bracketed rds b i.0) _ p i.2 in
            let c = bracketed_sound i.0 _ a.2 in
            made (ReadsOpening ts) (opening.Init None a.0) a.1 p (subst (λ us. ReadsOpening us (opening.Init None a.0) a.1) (sym (i.1 ∙ ap (λ s. word w.Init ∷ s) c.1)) (init c.2)) a.3)
      ]

  type_definition_sound : (ts : Tokens) (p : Definition × Tokens) → read.type_definition rds b ts ≡ Some p → ReadsDefinition (word w.Type ∷ ts) p.0 p.1
  unfolding read.type_definition
  type_definition_sound ts p h =
      let x = a_name_read ts _ p h in
      let s = expected w.Possrep x.1 _ p x.3 in
      let y = bound (read.maybe_name s.0) _ p s.2 in
      let o = expected w.OpenBrace y.1 _ p y.3 in
      let d = bound (read.components_at o.0) _ p o.2 in
      let c = bound (read.behind rds b w.Constraint d.1) _ p d.3 in
      let z = expected w.CloseBrace c.1 _ p c.3 in
      let k = expected w.Semicolon z.0 _ p z.2 in
      made (ReadsDefinition (word w.Type ∷ ts)) (definition.Type x.0 y.0 d.0 c.0) k.0 p
      (subst (λ us. ReadsDefinition (word w.Type ∷ us) (definition.Type x.0 y.0 d.0 c.0) k.0) (sym (x.2 ∙ ap (λ u. name x.0 ∷ u) s.1))
      (type_ (subst (λ u. ReadsMaybeName s.0 y.0 u) o.1 (maybe_name_sound s.0 _ y.2)) (components_sound o.0 _ d.2)
      (subst (λ u. ReadsLimit d.1 c.0 u) (z.1 ∙ ap (λ u. word w.CloseBrace ∷ u) k.1) (limit_of d.1 c.0 c.1 (behind_sound w.Constraint d.1 _ c.2))))) k.2

  base_definition_sound : (v : Word) (x : Text) (ts : Tokens) (p : Definition × Tokens) → IsBase v → read.base_definition rds b x ts ≡ Some p → ReadsDefinition (word w.Var ∷ name x ∷ word v ∷ ts) p.0 p.1
  unfolding read.base_definition
  base_definition_sound v x ts p i h =
      let o = bound (read.opening_at rds b ts) _ p h in
      let k = bound (read.keys_at o.1) _ p o.3 in
      let z = expected w.Semicolon k.1 _ p k.3 in
      let ks = keys_sound (length o.1) [] o.1 k.0 k.1 k.2 in
      made (ReadsDefinition (word w.Var ∷ name x ∷ word v ∷ ts)) (definition.Base x o.0 k.0) z.0 p
      (base i (opening_sound ts _ o.2) (subst (λ u. ReadsKeys o.1 k.0 u) z.1 (subst (λ y. ReadsKeys o.1 y k.1) (sym ks.1) ks.2))) z.2

  virtual_definition_sound : (x : Text) (ts : Tokens) (p : Definition × Tokens) → read.virtual_definition rds b x ts ≡ Some p → ReadsDefinition (word w.Var ∷ name x ∷ word w.Virtual ∷ ts) p.0 p.1
  unfolding read.virtual_definition
  virtual_definition_sound x ts p h =
      let a = bound (read.bracketed rds b ts) _ p h in
      let c = bracketed_sound ts _ a.2 in
      let z = expected w.Semicolon a.1 _ p a.3 in
      made (ReadsDefinition (word w.Var ∷ name x ∷ word w.Virtual ∷ ts)) (definition.Virtual x a.0) z.0 p
      (subst (λ us. ReadsDefinition (word w.Var ∷ name x ∷ word w.Virtual ∷ us) (definition.Virtual x a.0) z.0) (sym c.1) (virtual (ended c.2 (ap (λ u. word w.CloseParenthesis ∷ u) z.1)))) z.2

  relvar_definition_sound : (ts : Tokens) (p : Definition × Tokens) → read.relvar_definition rds b ts ≡ Some p → ReadsDefinition (word w.Var ∷ ts) p.0 p.1
  unfolding read.relvar_definition
  relvar_definition_sound ts p h =
      let x = a_name_read ts _ p h in
      subst (λ us. ReadsDefinition (word w.Var ∷ us) p.0 p.1) (sym x.2) (
      elim (tested (at w.Base x.1) _ _ p x.3) [
        | inl q ↦ subst (λ us. ReadsDefinition (word w.Var ∷ name x.0 ∷ us) p.0 p.1) (sym (at_word w.Base x.1 q.0)) (base_definition_sound w.Base x.0 (tail x.1) p base_word q.1)
        | inr q ↦ elim (tested (at w.Real x.1) _ _ p q.1) [
          | inl k ↦ subst (λ us. ReadsDefinition (word w.Var ∷ name x.0 ∷ us) p.0 p.1) (sym (at_word w.Real x.1 k.0)) (base_definition_sound w.Real x.0 (tail x.1) p real_word k.1)
          | inr k ↦ (let v = expected w.Virtual x.1 _ p k.1 in
              subst (λ us. ReadsDefinition (word w.Var ∷ name x.0 ∷ us) p.0 p.1) (sym v.1) (virtual_definition_sound x.0 v.0 p v.2))
        ]
      ])

  constraint_definition_sound : (ts : Tokens) (p : Definition × Tokens) → read.constraint_definition rds b ts ≡ Some p → ReadsDefinition (word w.Constraint ∷ ts) p.0 p.1
  unfolding read.constraint_definition
  constraint_definition_sound ts p h =
      let x = a_name_read ts _ p h in
      let a = bound (rds b f.Expr x.1) _ p x.3 in
      let z = expected w.Semicolon a.1 _ p a.3 in
      made (ReadsDefinition (word w.Constraint ∷ ts)) (definition.Constraint x.0 a.0) z.0 p
      (subst (λ us. ReadsDefinition (word w.Constraint ∷ us) (definition.Constraint x.0 a.0) z.0) (sym x.2) (constraint (ended (inside b f.Expr x.1 _ a.2) z.1))) z.2

  pub definition_sound : (ts : Tokens) (p : Definition × Tokens) → read.definition_at rds b ts ≡ Some p → ReadsDefinition ts p.0 p.1
  unfolding read.definition_at
  definition_sound ts p h =
      elim (tested (at w.Type ts) _ _ p h) [
        | inl q ↦ subst (λ us. ReadsDefinition us p.0 p.1) (sym (at_word w.Type ts q.0)) (type_definition_sound (tail ts) p q.1)
        | inr q ↦ elim (tested (at w.Var ts) _ _ p q.1) [
          | inl k ↦ subst (λ us. ReadsDefinition us p.0 p.1) (sym (at_word w.Var ts k.0)) (relvar_definition_sound (tail ts) p k.1)
          | inr k ↦ (let c = expected w.Constraint ts _ p k.1 in subst (λ us. ReadsDefinition us p.0 p.1) (sym c.1) (constraint_definition_sound c.0 p c.2))
        ]
      ]

  script_ends : (found all : List Definition) → Some found ≡ Some all → (ds : List Definition) × (all ≡ found ++ ds) × ReadsScript [] ds
  script_ends found all h = let e : found ≡ all = cc in ([], sym e ∙ sym (append-nil found), nothing)

  chosen : {A B : Type 0} (o : Option A) (g : A → Option B) (x : B) → option_and_then g o ≡ Some x → (a : A) × (o ≡ Some a) × (g a ≡ Some x)
  chosen None g x h = absurd (none_some h)
  chosen (Some a) g x h = (a, refl, h)

  script_from : (n : ℕ) (found : List Definition) (ts : Tokens) (all : List Definition) → read.definitions_from rds b n found ts ≡ Some all → (ds : List Definition) × (all ≡ found ++ ds) × ReadsScript ts ds
  unfolding read.definitions_from
  script_from zero found [] all h = script_ends found all h
  script_from (suc n) found [] all h = script_ends found all h
  script_from zero found (t ∷ ts) all h = absurd (none_some h)
  script_from (suc n) found (t ∷ ts) all h =
      let c = chosen (read.definition_at rds b (t ∷ ts)) (λ (p : Definition × Tokens). read.definitions_from rds b n (found ++ p.0 ∷ []) p.1) all h in
      let more = script_from n (found ++ c.0.0 ∷ []) c.0.1 all c.2 in
      (c.0.0 ∷ more.0, more.1 ∙ append_assoc found (c.0.0 ∷ []) more.0, define (definition_sound (t ∷ ts) c.0 c.1) more.2)

  pub script_sound : (n : ℕ) (ts : Tokens) (ds : List Definition) → read.definitions_from rds b n [] ts ≡ Some ds → ReadsScript ts ds
  script_sound n ts ds h = let c = script_from n [] ts ds h in subst (λ xs. ReadsScript ts xs) (sym c.1) c.2
