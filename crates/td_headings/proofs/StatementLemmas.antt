-- An assignment that is found is one of the statement's, and one of the statement's is found.
use Rattle.std.proofs.Common.{◌≡◌, ℕ, suc, ◌+◌, ◌<◌, ◌++◌, length, get_or, drop, drop-cons, add-one, Bool, true, false, List, [], ◌∷◌, Option, Some, None, Result, Err, slice_get, append_assoc, append-nil, refl, sym, ap, subst, ◌∙◌}
use Rattle.td_values.specs.Headings.{Header}
use Rattle.td_values.specs.declared.TypeKind.TheVariants as kind
use Rattle.td_syntax.specs.declared.tree.Named.{Named}
use Rattle.td_syntax.specs.declared.script.Action.{Action}
use Rattle.td_schema.specs.Kinds.{Name, same_kind}
use Rattle.td_schema.specs.declared.error.TypeError.{TypeError}
use Rattle.td_schema.specs.declared.error.TypeError.TheVariants.{IllTyped, OutOfMemory}
use Rattle.td_schema.specs.Results.{Fails, where_some, where_true}
use Rattle.td_schema.specs.Schemas.{SchemaData, relvar_named}
use Rattle.td_schema.specs.Scopes.{relvars_of}
use Rattle.td_typing.specs.Trees.{typing}
use Rattle.td_typing.specs.Types.{Types}
use Rattle.td_typing.specs.ForProofs.Infer.{infer}
use Rattle.td_typing.proofs.Complete.{complete}
use Rattle.td_typing.proofs.Sound.{sound}
use Rattle.td_typing.proofs.KindLemmas.{same, same_itself}
use Rattle.td_typed_trees.specs.declared.expression.Expression.{Expression}
use Rattle.td_typed_trees.specs.declared.tree.Typed.{Typed}
use Rattle.td_typed_trees.specs.declared.tree.Typing.{Typing}
use Rattle.td_headings.specs.Catalogues.{CatalogueData}
use Rattle.td_headings.specs.Expressions.{IsTree, IsClosedExpression, no_tuple}
use Rattle.td_headings.specs.ForProofs.Sources.{real, assigned}
use Rattle.td_headings.specs.Reached.{is_base}
use Rattle.td_headings.specs.Statements.{target_of, source_of, IsAssignment, AreAssignments, no_assignments, next_assignment}
use Rattle.td_headings.proofs.NoTuple.{in_no_tuple, at_relvars}
use Rattle.td_headings.specs.declared.defined.Origin.{Origin}
use Rattle.td_headings.specs.declared.defined.Origin.TheVariants as origin
use Rattle.td_headings.specs.declared.statement.TypedAssignment.{TypedAssignment}

some_same : {A : Type 0} (a b : A) → Some a ≡ Some b → a ≡ b
some_same a b h = cc

some_none : {A : Type 0} (a : A) → Some a ≡ None → ⊥
some_none a h = cc

goes : {A B : Type 0} (o : Option A) (a : A) (f : A → Option B) → o ≡ Some a → where_some o f ≡ f a
goes o a f h = ap (λ x. where_some x f) h

inverted : {A B : Type 0} (o : Option A) (f : A → Option B) (y : B) → where_some o f ≡ Some y → (a : A) × (o ≡ Some a) × (f a ≡ Some y)
inverted None f y h = cc
inverted (Some a) f y h = (a, refl, h)

tested : {A : Type 0} (b : Bool) (a y : A) → where_true b a ≡ Some y → (b ≡ true) × (a ≡ y)
tested true a y h = (refl, some_same a y h)
tested false a y h = cc

passes : {A : Type 0} (b : Bool) (a : A) → b ≡ true → where_true b a ≡ Some a
passes b a h = ap (λ c. where_true c a) h

base_is : (o : Option Origin) → is_base o ≡ true → (ks : List (List Name)) × (u : Option Typed) × (o ≡ Some (origin.Base ks u))
base_is None h = cc
base_is (Some (origin.Base ks u)) h = (ks, u, refl)
base_is (Some (origin.Virtual u)) h = cc

pub same_error : {A B : Type 0} (e : TypeError) → ◌≡◌ {A = Result A TypeError} (Err e) (Err IllTyped) → ◌≡◌ {A = Result B TypeError} (Err e) (Err IllTyped)
same_error OutOfMemory h = cc
same_error IllTyped h = refl

other_error : {P : Type 0} → ◌≡◌ {A = Result TypedAssignment TypeError} (Err OutOfMemory) (Err IllTyped) → P
other_error h = cc

module _ (c : CatalogueData) (a : Action) where
  pub same_assigned : (s : SchemaData) (os : List Origin) (x : Name) → s ≡ c.schema → os ≡ c.origins → x ≡ target_of a → assigned s os x a ≡ assigned c.schema c.origins (target_of a) a
  same_assigned s os x p q r = λ i. assigned (p i) (q i) (r i) a

  -- what was found
  pub source_types : (p : ℕ × Typing) → assigned c.schema c.origins (target_of a) a ≡ Some p → Types c.schema (relvars_of c.schema) (source_of a) p.1.tree p.1.kind
  unfolding assigned
  source_types p h =
      let r = inverted (real c.schema c.origins (target_of a)) (λ r. where_some (infer c.schema (source_of a) (relvars_of c.schema)) (λ t. where_true (same_kind (kind.Relation r.1) t.kind) (r.0, t))) p h in
      let t = inverted (infer c.schema (source_of a) (relvars_of c.schema)) (λ t. where_true (same_kind (kind.Relation r.0.1) t.kind) (r.0.0, t)) p r.2 in
      let k = tested (same_kind (kind.Relation r.0.1) t.0.kind) (r.0.0, t.0) p t.2 in
      subst (λ (y : Typing). Types c.schema (relvars_of c.schema) (source_of a) y.tree y.kind) (ap (λ (z : ℕ × Typing). z.1) k.1) (sound c.schema (source_of a) (relvars_of c.schema) t.0 t.1)

  pub source_tree : (p : ℕ × Typing) → assigned c.schema c.origins (target_of a) a ≡ Some p → IsTree c no_tuple p.1.tree p.1.kind
  source_tree p h = record { expr = source_of a; types = in_no_tuple c (source_of a) p.1.tree p.1.kind (source_types p h) }

  pub found_one : (p : ℕ × Typing) (x : Expression) → assigned c.schema c.origins (target_of a) a ≡ Some p → IsClosedExpression c p.1.tree p.1.kind x → IsAssignment c a (record { target = p.0; source = x })
  unfolding assigned real
  found_one p x h w =
      let r = inverted (real c.schema c.origins (target_of a)) (λ r. where_some (infer c.schema (source_of a) (relvars_of c.schema)) (λ t. where_true (same_kind (kind.Relation r.1) t.kind) (r.0, t))) p h in
      let n = inverted (relvar_named c.schema (target_of a)) (λ (r : ℕ × Named Header). where_true (is_base (slice_get c.origins r.0)) (r.0, r.1.value)) r.0 r.1 in
      let b = tested (is_base (slice_get c.origins n.0.0)) (n.0.0, n.0.1.value) r.0 n.2 in
      let t = inverted (infer c.schema (source_of a) (relvars_of c.schema)) (λ t. where_true (same_kind (kind.Relation r.0.1) t.kind) (r.0.0, t)) p r.2 in
      let k = tested (same_kind (kind.Relation r.0.1) t.0.kind) (r.0.0, t.0) p t.2 in
      let place : n.0.0 ≡ p.0 = ap (λ (z : ℕ × Header). z.0) b.1 ∙ ap (λ (z : ℕ × Typing). z.0) k.1 in
      let base = base_is (slice_get c.origins n.0.0) b.0 in
      record {
        relvar = n.0.1;
        keys = base.0;
        opening = base.1;
        names = n.1 ∙ ap (λ m. Some (m, n.0.1)) place;
        is_real = subst (λ m. slice_get c.origins m ≡ Some (origin.Base base.0 base.1)) place base.2;
        source = record {
          types = in_no_tuple c (source_of a) x.tree x.kind (subst (λ j. Types c.schema (relvars_of c.schema) (source_of a) x.tree j) (sym w.kind_) (subst (λ u. Types c.schema (relvars_of c.schema) (source_of a) u p.1.kind) (sym w.tree) (source_types p h)));
          attributes = w.attributes;
          under = w.under;
        };
        kind_ = w.kind_ ∙ sym (ap (λ (z : ℕ × Typing). z.1.kind) k.1) ∙ sym (same (kind.Relation r.0.1) t.0.kind k.0) ∙ ap kind.Relation (sym (ap (λ (z : ℕ × Header). z.1) b.1));
      }

  -- what is found
  is_real : (x : TypedAssignment) (i : IsAssignment c a x) → real c.schema c.origins (target_of a) ≡ Some (x.target, i.relvar.value)
  unfolding real
  is_real x i =
      goes (relvar_named c.schema (target_of a)) (x.target, i.relvar) (λ (r : ℕ × Named Header). where_true (is_base (slice_get c.origins r.0)) (r.0, r.1.value)) i.names
      ∙ passes (is_base (slice_get c.origins x.target)) (x.target, i.relvar.value) (ap is_base i.is_real)

  pub is_found : (x : TypedAssignment) → IsAssignment c a x → assigned c.schema c.origins (target_of a) a ≡ Some (x.target, typing x.source.tree x.source.kind)
  unfolding assigned
  is_found x i =
      goes (real c.schema c.origins (target_of a)) (x.target, i.relvar.value) (λ r. where_some (infer c.schema (source_of a) (relvars_of c.schema)) (λ t. where_true (same_kind (kind.Relation r.1) t.kind) (r.0, t))) (is_real x i)
      ∙ goes (infer c.schema (source_of a) (relvars_of c.schema)) (typing x.source.tree x.source.kind) (λ t. where_true (same_kind (kind.Relation i.relvar.value) t.kind) (x.target, t)) (complete c.schema (at_relvars c (source_of a) x.source.tree x.source.kind i.source.types))
      ∙ passes (same_kind (kind.Relation i.relvar.value) x.source.kind) (x.target, typing x.source.tree x.source.kind) (ap (same_kind (kind.Relation i.relvar.value)) i.kind_ ∙ same_itself (kind.Relation i.relvar.value))

  pub none_found : assigned c.schema c.origins (target_of a) a ≡ None → (x : TypedAssignment) → IsAssignment c a x → ⊥
  none_found h x i = some_none (x.target, typing x.source.tree x.source.kind) (sym (is_found x i) ∙ h)

  pub refused_by : (e : TypeError) → Fails e (assigned c.schema c.origins (target_of a) a) → ◌≡◌ {A = Result TypedAssignment TypeError} (Err e) (Err IllTyped) → (x : TypedAssignment) → IsAssignment c a x → ⊥
  refused_by OutOfMemory h e = other_error e
  refused_by IllTyped h e = none_found h

-- ---- what is done of a list, and what is left
pub left_at : (all : List Action) (i : ℕ) (a : Action) → i < length all → a ≡ get_or all i a → drop i all ≡ a ∷ drop (i + 1) all
left_at all i a within at = drop-cons all i a within ∙ ap (λ (x : Action). x ∷ drop (suc i) all) (sym at) ∙ ap (λ (n : ℕ). a ∷ drop n all) (sym (add-one i))

module _ (c : CatalogueData) where
  abbrev pub Walked : List Action → List Action → List TypedAssignment → Type 0
  Walked all rest found = ((xs : List TypedAssignment) → AreAssignments c rest xs → AreAssignments c all (found ++ xs)) × ((ys : List TypedAssignment) → AreAssignments c all ys → (xs : List TypedAssignment) × AreAssignments c rest xs)

  pub begun : (all : List Action) → Walked all all []
  begun all = ((λ xs h. h), (λ ys h. (ys, h)))

  behind : (a : Action) (rest : List Action) (xs : List TypedAssignment) → AreAssignments c (a ∷ rest) xs → (ys : List TypedAssignment) × AreAssignments c rest ys
  behind a rest [] h = elim h [ ]
  behind a rest (x ∷ xs) (next_assignment i r) = (xs, r)

  first : (a : Action) (rest : List Action) (xs : List TypedAssignment) → AreAssignments c (a ∷ rest) xs → (x : TypedAssignment) × IsAssignment c a x
  first a rest [] h = elim h [ ]
  first a rest (x ∷ xs) (next_assignment i r) = (x, i)

  pub one_more : (all rest : List Action) (found : List TypedAssignment) (a : Action) (x : TypedAssignment) → Walked all (a ∷ rest) found → IsAssignment c a x → Walked all rest (found ++ x ∷ [])
  one_more all rest found a x w i = (
    (λ xs h. subst (AreAssignments c all) (sym (append_assoc found (x ∷ []) xs)) (w.0 (x ∷ xs) (next_assignment i h))),
    (λ ys h. let l = w.1 ys h in behind a rest l.0 l.1),
  )

  pub ended : (all : List Action) (found : List TypedAssignment) → Walked all [] found → AreAssignments c all found
  ended all found w = subst (AreAssignments c all) (append-nil found) (w.0 [] no_assignments)

  pub stopped : (all rest : List Action) (found : List TypedAssignment) (a : Action) → Walked all (a ∷ rest) found → ((x : TypedAssignment) → IsAssignment c a x → ⊥) → (ys : List TypedAssignment) → AreAssignments c all ys → ⊥
  stopped all rest found a w never ys h = let l = w.1 ys h in let f = first a rest l.0 l.1 in never f.0 f.1
