-- What the reader of statements reads is not too deep.
use Rattle.std.proofs.Common.{◌≡◌, ◌≤◌, inl, inr, ℕ, zero, suc, max, List, [], ◌∷◌, ◌++◌, Option, Some, None, refl, subst, arith, option_and_then}
use Rattle.td_tokens.specs.declared.token.Word.{Word}
use Rattle.td_tokens.specs.declared.token.Word.TheVariants as w
use Rattle.td_tokens.specs.Lex.{Text, word}
use Rattle.td_grammar.specs.declared.forms.Form.{Form}
use Rattle.td_grammar.specs.declared.forms.Form.TheVariants as f
use Rattle.td_grammar.specs.declared.forms.Naming.TheVariants as naming
use Rattle.td_syntax.specs.declared.tree.Named.{Named}
use Rattle.td_syntax.specs.declared.tree.TypeExpr.{TypeExpr}
use Rattle.td_syntax.specs.declared.tree.Expr.{Expr}
use Rattle.td_syntax.specs.declared.script.Action.{Action}
use Rattle.td_syntax.specs.declared.script.Action.TheVariants as action
use Rattle.td_syntax.specs.declared.script.Statement.{Statement}
use Rattle.td_syntax.specs.declared.script.Statement.TheVariants as statement
use Rattle.td_syntax.specs.declared.script.Opening.{Opening}
use Rattle.td_syntax.specs.declared.script.Opening.TheVariants as opening
use Rattle.td_syntax.specs.declared.script.Definition.{Definition}
use Rattle.td_syntax.specs.declared.script.Definition.TheVariants as definition
use Rattle.td_syntax.specs.Levels.{levels, named_levels}
use Rattle.td_grammar.specs.Grammar.{Tokens}
use Rattle.td_grammar.specs.Statements.{maybe_levels, action_levels, actions_levels, statement_levels, opening_levels, definition_levels, definitions_levels}
use Rattle.td_grammar.specs.ForProofs.Reader.{Reader, and_then, pure, at, tail, heading_at, named_at}
use Rattle.td_grammar.specs.ForProofs.StatementReader as read
use Rattle.td_grammar.proofs.Places.{none_some}
use Rattle.td_grammar.proofs.Sound.{bound, tested, eaten, expected, a_name_read, made, Run, last, next, listed_run}

module _ (rds : ℕ → Form → Reader Expr) (b : ℕ) (shallow : (ts : Tokens) (p : Expr × Tokens) → rds b f.Expr ts ≡ Some p → levels p.0 ≤ b) where
  named_shallow : (ts : Tokens) (p : Named Expr × Tokens) → named_at rds b naming.Assigned ts ≡ Some p → levels p.0.value ≤ b
  unfolding named_at
  named_shallow ts p h =
      let x = a_name_read ts _ p h in
      let c = expected w.Assign x.1 _ p x.3 in
      let a = bound (rds b f.Expr c.0) _ p c.2 in
      made (λ (y : Named Expr) s. levels y.value ≤ b) (record { name = x.0; value = a.0 }) a.1 p (shallow c.0 (a.0, a.1) a.2) a.3

  named_list_shallow : (ts : Tokens) (xs : List (Named Expr)) (r : Tokens) → Run (named_at rds b naming.Assigned) ts xs r → named_levels xs ≤ b
  named_list_shallow ts xs r (last h) = omega (arith, named_shallow ts _ h)
  named_list_shallow ts xs r (next {mid = mid} {xs = ys} h d) = omega (arith, named_shallow ts _ h, named_list_shallow mid ys r d)

  sets_shallow : (ts : Tokens) (p : List (Named Expr) × Tokens) → read.sets_at rds b ts ≡ Some p → named_levels p.0 ≤ b
  unfolding read.sets_at
  sets_shallow ts p h =
      elim (eaten w.OpenParenthesis ts _ p h) [
        | inl q ↦ named_list_shallow (tail ts) p.0 _ (listed_run w.CloseParenthesis (named_at rds b naming.Assigned) (tail ts) p.0 p.1 q.1)
        | inr q ↦ elim (eaten w.Colon ts _ p q) [
          | inl k ↦ (let o = expected w.OpenBrace (tail ts) _ p k.1 in named_list_shallow o.0 p.0 _ (listed_run w.CloseBrace (named_at rds b naming.Assigned) o.0 p.0 p.1 o.2))
          | inr k ↦ (let o = expected w.OpenBrace ts _ p k in named_list_shallow o.0 p.0 _ (listed_run w.CloseBrace (named_at rds b naming.Assigned) o.0 p.0 p.1 o.2))
        ]
      ]

  none_shallow : maybe_levels None ≤ b
  none_shallow = omega arith

  behind_shallow : (v : Word) (ts : Tokens) (p : Option Expr × Tokens) → read.behind rds b v ts ≡ Some p → maybe_levels p.0 ≤ b
  unfolding read.behind
  behind_shallow v ts p h =
      elim (eaten v ts _ p h) [
        | inl q ↦ (let c = bound (rds b f.Expr (tail ts)) _ p q.1 in made (λ x s. maybe_levels x ≤ b) (Some c.0) c.1 p (shallow (tail ts) (c.0, c.1) c.2) c.3)
        | inr q ↦ made (λ x s. maybe_levels x ≤ b) None ts p none_shallow q
      ]

  inserted_shallow : (ts : Tokens) (p : Action × Tokens) → read.inserted rds b ts ≡ Some p → action_levels p.0 ≤ b
  unfolding read.inserted
  inserted_shallow ts p h =
      let x = a_name_read ts _ p h in
      let a = bound (rds b f.Expr x.1) _ p x.3 in
      made (λ y s. action_levels y ≤ b) (action.Insert x.0 a.0) a.1 p (shallow x.1 (a.0, a.1) a.2) a.3

  assigned_shallow : (ts : Tokens) (p : Action × Tokens) → read.assigned rds b ts ≡ Some p → action_levels p.0 ≤ b
  unfolding read.assigned
  assigned_shallow ts p h =
      let x = a_name_read ts _ p h in
      let c = expected w.Assign x.1 _ p x.3 in
      let a = bound (rds b f.Expr c.0) _ p c.2 in
      made (λ y s. action_levels y ≤ b) (action.Assign x.0 a.0) a.1 p (shallow c.0 (a.0, a.1) a.2) a.3

  deleted_shallow : (ts : Tokens) (p : Action × Tokens) → read.deleted rds b ts ≡ Some p → action_levels p.0 ≤ b
  unfolding read.deleted
  deleted_shallow ts p h =
      let x = a_name_read ts _ p h in
      let c = bound (read.behind rds b w.Where x.1) _ p x.3 in
      made (λ y s. action_levels y ≤ b) (action.Delete x.0 c.0) c.1 p (behind_shallow w.Where x.1 (c.0, c.1) c.2) c.3

  both_shallow : (m n : ℕ) → m ≤ b → n ≤ b → max m n ≤ b
  both_shallow m n h k = omega arith

  updated_shallow : (ts : Tokens) (p : Action × Tokens) → read.updated rds b ts ≡ Some p → action_levels p.0 ≤ b
  unfolding read.updated
  updated_shallow ts p h =
      let x = a_name_read ts _ p h in
      let c = bound (read.behind rds b w.Where x.1) _ p x.3 in
      let s = bound (read.sets_at rds b c.1) _ p c.3 in
      made (λ y r. action_levels y ≤ b) (action.Update x.0 c.0 s.0) s.1 p (both_shallow (maybe_levels c.0) (named_levels s.0) (behind_shallow w.Where x.1 (c.0, c.1) c.2) (sets_shallow c.1 (s.0, s.1) s.2)) s.3

  action_shallow : (ts : Tokens) (p : Action × Tokens) → read.action_at rds b ts ≡ Some p → action_levels p.0 ≤ b
  unfolding read.action_at
  action_shallow ts p h =
      elim (tested (at w.Insert ts) _ _ p h) [
        | inl q ↦ inserted_shallow (tail ts) p q.1
        | inr q ↦ elim (tested (at w.Delete ts) _ _ p q.1) [
          | inl k ↦ deleted_shallow (tail ts) p k.1
          | inr k ↦ elim (tested (at w.Update ts) _ _ p k.1) [
            | inl j ↦ updated_shallow (tail ts) p j.1
            | inr j ↦ assigned_shallow ts p j.1
          ]
        ]
      ]

  actions_shallow : (ts : Tokens) (xs : List Action) (r : Tokens) → Run (read.action_at rds b) ts xs r → actions_levels xs ≤ b
  actions_shallow ts xs r (last {x = x} h) = both_shallow (action_levels x) 0 (action_shallow ts (x, r) h) (omega arith)
  actions_shallow ts xs r (next {mid = mid} {x = x} {xs = ys} h d) = both_shallow (action_levels x) (actions_levels ys) (action_shallow ts (x, word w.Comma ∷ mid) h) (actions_shallow mid ys r d)

  list_shallow : (ts : Tokens) (p : List Action × Tokens) → read.actions_at rds b ts ≡ Some p → actions_levels p.0 ≤ b
  unfolding read.actions_at
  list_shallow ts p h = actions_shallow ts p.0 (word w.Semicolon ∷ p.1) (listed_run w.Semicolon (read.action_at rds b) ts p.0 p.1 h)

  no_actions_shallow : actions_levels [] ≤ b
  no_actions_shallow = omega arith

  otherwise_shallow : (ts : Tokens) (p : List Action × Tokens) → read.otherwise rds b ts ≡ Some p → actions_levels p.0 ≤ b
  unfolding read.otherwise
  otherwise_shallow ts p h =
      elim (eaten w.Else ts _ p h) [
        | inl q ↦ list_shallow (tail ts) p q.1
        | inr q ↦ made (λ xs s. actions_levels xs ≤ b) [] ts p no_actions_shallow q
      ]

  conditional_shallow : (ts : Tokens) (p : Statement × Tokens) → read.conditional rds b ts ≡ Some p → statement_levels p.0 ≤ b
  unfolding read.conditional
  conditional_shallow ts p h =
      let a = bound (rds b f.Expr ts) _ p h in
      let t = expected w.Then a.1 _ p a.3 in
      let first = bound (read.actions_at rds b t.0) _ p t.2 in
      let second = bound (read.otherwise rds b first.1) _ p first.3 in
      let e = expected w.End second.1 _ p second.3 in
      let i = expected w.If e.0 _ p e.2 in
      let c = expected w.Semicolon i.0 _ p i.2 in
      let lists = both_shallow (actions_levels first.0) (actions_levels second.0) (list_shallow t.0 (first.0, first.1) first.2) (otherwise_shallow first.1 (second.0, second.1) second.2) in
      made (λ s r. statement_levels s ≤ b) (statement.Conditional a.0 first.0 second.0) c.0 p (both_shallow (levels a.0) (max (actions_levels first.0) (actions_levels second.0)) (shallow ts (a.0, a.1) a.2) lists) c.2

  assignment_shallow : (ts : Tokens) (p : Statement × Tokens) → and_then (read.actions_at rds b ts) (λ xs. pure (statement.Assignment xs)) ≡ Some p → statement_levels p.0 ≤ b
  assignment_shallow ts p h =
      let l = bound (read.actions_at rds b ts) _ p h in
      made (λ s r. statement_levels s ≤ b) (statement.Assignment l.0) l.1 p (list_shallow ts (l.0, l.1) l.2) l.3

  pub statement_shallow : (ts : Tokens) (p : Statement × Tokens) → read.statement_at rds b ts ≡ Some p → statement_levels p.0 ≤ b
  unfolding read.statement_at
  statement_shallow ts p h =
      elim (tested (at w.If ts) _ _ p h) [
        | inl q ↦ conditional_shallow (tail ts) p q.1
        | inr q ↦ assignment_shallow ts p q.1
      ]

  -- ---- definitions

  bracketed_shallow : (ts : Tokens) (p : Expr × Tokens) → read.bracketed rds b ts ≡ Some p → levels p.0 ≤ b
  unfolding read.bracketed
  bracketed_shallow ts p h =
      let o = expected w.OpenParenthesis ts _ p h in
      let a = bound (rds b f.Expr o.0) _ p o.2 in
      let c = expected w.CloseParenthesis a.1 _ p a.3 in
      made (λ x s. levels x ≤ b) a.0 c.0 p (shallow o.0 (a.0, a.1) a.2) c.2

  empty_shallow : (h : List (Named TypeExpr)) → opening_levels (opening.Empty h) ≤ b
  empty_shallow h = omega arith

  opening_shallow : (ts : Tokens) (p : Opening × Tokens) → read.opening_at rds b ts ≡ Some p → opening_levels p.0 ≤ b
  unfolding read.opening_at
  opening_shallow ts p h =
      elim (eaten w.Relation ts _ p h) [
        | inl q ↦ (let d = bound (heading_at (tail ts)) _ p q.1 in
            elim (eaten w.Init d.1 _ p d.3) [
              | inl k ↦ (let a = bound (read.bracketed rds b (tail d.1)) _ p k.1 in made (λ x s. opening_levels x ≤ b) (opening.Init (Some d.0) a.0) a.1 p (bracketed_shallow (tail d.1) (a.0, a.1) a.2) a.3)
              | inr k ↦ made (λ x s. opening_levels x ≤ b) (opening.Empty d.0) d.1 p (empty_shallow d.0) k
            ])
        | inr q ↦ (let i = expected w.Init ts _ p q in
            let a = bound (read.bracketed rds b i.0) _ p i.2 in
            made (λ x s. opening_levels x ≤ b) (opening.Init None a.0) a.1 p (bracketed_shallow i.0 (a.0, a.1) a.2) a.3)
      ]

  type_shallow : (ts : Tokens) (p : Definition × Tokens) → read.type_definition rds b ts ≡ Some p → definition_levels p.0 ≤ b
  unfolding read.type_definition
  type_shallow ts p h =
      let x = a_name_read ts _ p h in
      let s = expected w.Possrep x.1 _ p x.3 in
      let y = bound (read.maybe_name s.0) _ p s.2 in
      let o = expected w.OpenBrace y.1 _ p y.3 in
      let d = bound (read.components_at o.0) _ p o.2 in
      let c = bound (read.behind rds b w.Constraint d.1) _ p d.3 in
      let z = expected w.CloseBrace c.1 _ p c.3 in
      let k = expected w.Semicolon z.0 _ p z.2 in
      made (λ u r. definition_levels u ≤ b) (definition.Type x.0 y.0 d.0 c.0) k.0 p (behind_shallow w.Constraint d.1 (c.0, c.1) c.2) k.2

  base_shallow : (x : Text) (ts : Tokens) (p : Definition × Tokens) → read.base_definition rds b x ts ≡ Some p → definition_levels p.0 ≤ b
  unfolding read.base_definition
  base_shallow x ts p h =
      let o = bound (read.opening_at rds b ts) _ p h in
      let k = bound (read.keys_at o.1) _ p o.3 in
      let z = expected w.Semicolon k.1 _ p k.3 in
      made (λ u r. definition_levels u ≤ b) (definition.Base x o.0 k.0) z.0 p (opening_shallow ts (o.0, o.1) o.2) z.2

  virtual_shallow : (x : Text) (ts : Tokens) (p : Definition × Tokens) → read.virtual_definition rds b x ts ≡ Some p → definition_levels p.0 ≤ b
  unfolding read.virtual_definition
  virtual_shallow x ts p h =
      let a = bound (read.bracketed rds b ts) _ p h in
      let z = expected w.Semicolon a.1 _ p a.3 in
      made (λ u r. definition_levels u ≤ b) (definition.Virtual x a.0) z.0 p (bracketed_shallow ts (a.0, a.1) a.2) z.2

  relvar_shallow : (ts : Tokens) (p : Definition × Tokens) → read.relvar_definition rds b ts ≡ Some p → definition_levels p.0 ≤ b
  unfolding read.relvar_definition
  relvar_shallow ts p h =
      let x = a_name_read ts _ p h in
      elim (tested (at w.Base x.1) _ _ p x.3) [
        | inl q ↦ base_shallow x.0 (tail x.1) p q.1
        | inr q ↦ elim (tested (at w.Real x.1) _ _ p q.1) [
          | inl k ↦ base_shallow x.0 (tail x.1) p k.1
          | inr k ↦ (let v = expected w.Virtual x.1 _ p k.1 in virtual_shallow x.0 v.0 p v.2)
        ]
      ]

  constraint_shallow : (ts : Tokens) (p : Definition × Tokens) → read.constraint_definition rds b ts ≡ Some p → definition_levels p.0 ≤ b
  unfolding read.constraint_definition
  constraint_shallow ts p h =
      let x = a_name_read ts _ p h in
      let a = bound (rds b f.Expr x.1) _ p x.3 in
      let z = expected w.Semicolon a.1 _ p a.3 in
      made (λ u r. definition_levels u ≤ b) (definition.Constraint x.0 a.0) z.0 p (shallow x.1 (a.0, a.1) a.2) z.2

  definition_shallow : (ts : Tokens) (p : Definition × Tokens) → read.definition_at rds b ts ≡ Some p → definition_levels p.0 ≤ b
  unfolding read.definition_at
  definition_shallow ts p h =
      elim (tested (at w.Type ts) _ _ p h) [
        | inl q ↦ type_shallow (tail ts) p q.1
        | inr q ↦ elim (tested (at w.Var ts) _ _ p q.1) [
          | inl k ↦ relvar_shallow (tail ts) p k.1
          | inr k ↦ (let c = expected w.Constraint ts _ p k.1 in constraint_shallow c.0 p c.2)
        ]
      ]

  chosen : {A B : Type 0} (o : Option A) (g : A → Option B) (x : B) → option_and_then g o ≡ Some x → (a : A) × (o ≡ Some a) × (g a ≡ Some x)
  chosen None g x h = absurd (none_some h)
  chosen (Some a) g x h = (a, refl, h)

  joined : (ds es : List Definition) → definitions_levels ds ≤ b → definitions_levels es ≤ b → definitions_levels (ds ++ es) ≤ b
  joined [] es h k = k
  joined (d ∷ ds) es h k = both_shallow (definition_levels d) (definitions_levels (ds ++ es)) (omega arith) (joined ds es (omega arith) k)

  found_all : (found all : List Definition) → definitions_levels found ≤ b → Some found ≡ Some all → definitions_levels all ≤ b
  found_all found all h k = let z : found ≡ all = cc in subst (λ ds. definitions_levels ds ≤ b) z h

  script_from : (n : ℕ) (found : List Definition) (ts : Tokens) (all : List Definition) → definitions_levels found ≤ b → read.definitions_from rds b n found ts ≡ Some all → definitions_levels all ≤ b
  unfolding read.definitions_from
  script_from zero found [] all k h = found_all found all k h
  script_from (suc n) found [] all k h = found_all found all k h
  script_from zero found (t ∷ ts) all k h = absurd (none_some h)
  script_from (suc n) found (t ∷ ts) all k h =
      let c = chosen (read.definition_at rds b (t ∷ ts)) (λ (p : Definition × Tokens). read.definitions_from rds b n (found ++ p.0 ∷ []) p.1) all h in
      script_from n (found ++ c.0.0 ∷ []) c.0.1 all (joined found (c.0.0 ∷ []) k (both_shallow (definition_levels c.0.0) 0 (definition_shallow (t ∷ ts) c.0 c.1) (omega arith))) c.2

  pub script_shallow : (n : ℕ) (ts : Tokens) (ds : List Definition) → read.definitions_from rds b n [] ts ≡ Some ds → definitions_levels ds ≤ b
  script_shallow n ts ds h = script_from n [] ts ds (omega arith) h
