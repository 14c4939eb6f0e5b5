-- The function `after` decides `Defines`.
use Rattle.std.proofs.Common.{◌≡◌, Bool, true, false, not, ◌&&◌, List, [], ◌∷◌, ◌++◌, append_assoc, Option, Some, None, unwrap_or, is_none, refl, sym, ap, subst, ◌∙◌}
use Rattle.std.specs.List.{list_any}
use Rattle.std.proofs.lemmas.List.{append-nil}
use Rattle.td_values.specs.Headings.{Header}
use Rattle.td_values.specs.declared.TypeKind.{TypeKind}
use Rattle.td_values.specs.declared.TypeKind.TheVariants as kind
use Rattle.td_syntax.specs.declared.tree.Attributes.{Attributes}
use Rattle.td_syntax.specs.declared.tree.Expr.{Expr}
use Rattle.td_syntax.specs.declared.tree.Named.{Named}
use Rattle.td_syntax.specs.declared.tree.TypeExpr.{TypeExpr}
use Rattle.td_syntax.specs.declared.script.Opening.{Opening}
use Rattle.td_syntax.specs.declared.script.Opening.TheVariants as opening
use Rattle.td_syntax.specs.declared.script.Definition.{Definition}
use Rattle.td_syntax.specs.declared.script.Definition.TheVariants as definition
use Rattle.td_schema.specs.Kinds.{Name, is_boolean, relation_heading, same_heading}
use Rattle.td_schema.specs.Lists.{attributes_of}
use Rattle.td_schema.specs.Results.{where_some, where_true}
use Rattle.td_schema.specs.Schemas.{SchemaData, relvar_named, type_named, possrep_named, begins_with_the}
use Rattle.td_schema.specs.ForProofs.Additions.{may_add}
use Rattle.td_schema.specs.Scopes.{Scope, nothing, within_tuple}
use Rattle.td_schema.specs.Written.{components_written, heading_written, kind_columns}
use Rattle.td_typed_trees.specs.declared.tree.Typed.{Typed}
use Rattle.td_typed_trees.specs.declared.tree.Typing.{Typing}
use Rattle.td_typing.specs.Trees.{typing}
use Rattle.td_typing.specs.Types.{Types}
use Rattle.td_typing.specs.ForProofs.Infer.{each, infer}
use Rattle.td_typing.proofs.KindLemmas.{boolean, relation, same, same_itself}
use Rattle.td_typing.proofs.Sound.{sound}
use Rattle.td_typing.proofs.Complete.{complete}
use Rattle.td_headings.specs.Catalogues.{CatalogueData}
use Rattle.td_headings.specs.Definitions.{names_of_relvars, represented, with_type, with_relvar, key_tests, is_constraint, with_constraint, TypesLimit, no_limit, limit, TypesOpening, empty, init, headed_init, AreKeys, no_keys, next_key, Defines, type_, base, virtual, constraint}
use Rattle.td_headings.specs.ForProofs.After.{Value, truth_of, value_of, limit_after, limits_after, value_after, condition_after, beside, opening_after, keys_after, relvar_after, possrep_after, type_after, base_after, virtual_after, named_after, constraint_after, after}
use Rattle.td_headings.specs.declared.defined.Origin.TheVariants as origin

-- ---- steps
some_same : {A : Type 0} (a b : A) → Some a ≡ Some b → a ≡ b
some_same a b h = cc

goes : {A B : Type 0} (o : Option A) (a : A) (f : A → Option B) → o ≡ Some a → where_some o f ≡ f a
goes o a f h = ap (λ x. where_some x f) h

inverted : {A B : Type 0} (o : Option A) (f : A → Option B) (y : B) → where_some o f ≡ Some y → (a : A) × (o ≡ Some a) × (f a ≡ Some y)
inverted None f y h = cc
inverted (Some a) f y h = (a, refl, h)

tested : {A : Type 0} (b : Bool) (a y : A) → where_true b a ≡ Some y → (b ≡ true) × (a ≡ y)
tested true a y h = (refl, some_same a y h)
tested false a y h = cc

passes : {A : Type 0} (b : Bool) (a : A) → b ≡ true → where_true b a ≡ Some a
passes b a h = ap (λ c. where_true c a) h

there_is_none : {A : Type 0} (o : Option A) → is_none o ≡ true → o ≡ None
there_is_none None h = refl
there_is_none (Some a) h = cc

is_false : (b : Bool) → not b ≡ true → b ≡ false
is_false true h = cc
is_false false h = refl

-- ---- conditions and values
truth : (t : Typing) (u : Typed) → truth_of t ≡ Some u → t ≡ typing u kind.Boolean
unfolding truth_of
truth t u h = let p = tested (is_boolean t.kind) t.tree u h in λ i. record { tree = p.1 i; kind = boolean t.kind p.0 i }

truth_made : (u : Typed) → truth_of (typing u kind.Boolean) ≡ Some u
unfolding truth_of
truth_made u = refl

value : (t : Typing) (v : Value) → value_of t ≡ Some v → t ≡ typing v.0 (kind.Relation v.1)
unfolding value_of
value t v h =
    let p = inverted (relation_heading t.kind) (λ g. Some (t.tree, g)) v h in
    let same_value : (t.tree, p.0) ≡ v = some_same (t.tree, p.0) v p.2 in
    (λ i. record { tree = t.tree; kind = relation t.kind p.0 p.1 i }) ∙ ap (λ (w : Value). typing w.0 (kind.Relation w.1)) same_value

value_made : (u : Typed) (h : Header) → value_of (typing u (kind.Relation h)) ≡ Some (u, h)
unfolding value_of
value_made u h = refl

module _ (cat : SchemaData) (s : Scope) (a : Expr) where
  truth_types : (u : Typed) → where_some (infer cat a s) truth_of ≡ Some u → Types cat s a u kind.Boolean
  truth_types u h =
      let p = inverted (infer cat a s) truth_of u h in
      sound cat a s (typing u kind.Boolean) (p.1 ∙ ap Some (truth p.0 u p.2))

  types_truth : (u : Typed) → Types cat s a u kind.Boolean → where_some (infer cat a s) truth_of ≡ Some u
  types_truth u d = goes (infer cat a s) (typing u kind.Boolean) truth_of (complete cat d) ∙ truth_made u

  value_types : (v : Value) → where_some (infer cat a s) value_of ≡ Some v → Types cat s a v.0 (kind.Relation v.1)
  value_types v h =
      let p = inverted (infer cat a s) value_of v h in
      sound cat a s (typing v.0 (kind.Relation v.1)) (p.1 ∙ ap Some (value p.0 v p.2))

  types_value : (u : Typed) (h : Header) → Types cat s a u (kind.Relation h) → where_some (infer cat a s) value_of ≡ Some (u, h)
  types_value u h d = goes (infer cat a s) (typing u (kind.Relation h)) value_of (complete cat d) ∙ value_made u h

-- ---- the parts of definitions
module _ (c : CatalogueData) where
  limit_is : (ks : List (Named TypeKind)) (a : Option Expr) (u : Option Typed) → limits_after c.schema ks a ≡ Some u → TypesLimit c ks a u
  unfolding limit_after
  limit_is ks None u h = subst (TypesLimit c ks None) (some_same None u h) no_limit
  limit_is ks (Some a) u h =
      let p = inverted (limit_after c.schema ks a) (λ v. Some (Some v)) u h in
      subst (TypesLimit c ks (Some a)) (some_same (Some p.0) u p.2) (limit (truth_types c.schema (within_tuple (kind_columns ks) nothing) a p.0 p.1))

  is_limit : (ks : List (Named TypeKind)) (a : Option Expr) (u : Option Typed) → TypesLimit c ks a u → limits_after c.schema ks a ≡ Some u
  unfolding limit_after
  is_limit ks None u no_limit = refl
  is_limit ks (Some a) None x = elim x [ ]
  is_limit ks (Some a) (Some u) (limit d) = goes (limit_after c.schema ks a) u (λ v. Some (Some v)) (types_truth c.schema (within_tuple (kind_columns ks) nothing) a u d)

  value_is : (a : Expr) (v : Value) → value_after c.schema a ≡ Some v → Types c.schema (names_of_relvars c) a v.0 (kind.Relation v.1)
  unfolding value_after
  value_is a v h = value_types c.schema (names_of_relvars c) a v h

  is_value : (a : Expr) (u : Typed) (h : Header) → Types c.schema (names_of_relvars c) a u (kind.Relation h) → value_after c.schema a ≡ Some (u, h)
  unfolding value_after
  is_value a u h d = types_value c.schema (names_of_relvars c) a u h d

  pub condition_is : (a : Expr) (u : Typed) → condition_after c.schema a ≡ Some u → Types c.schema (names_of_relvars c) a u kind.Boolean
  unfolding condition_after
  condition_is a u h = truth_types c.schema (names_of_relvars c) a u h

  pub is_condition : (a : Expr) (u : Typed) → Types c.schema (names_of_relvars c) a u kind.Boolean → condition_after c.schema a ≡ Some u
  unfolding condition_after
  is_condition a u d = types_truth c.schema (names_of_relvars c) a u d

  opening_is : (o : Opening) (p : Header × Option Typed) → opening_after c.schema o ≡ Some p → TypesOpening c o p.0 p.1
  opening_is (opening.Empty fs) p h =
      let q = inverted (heading_written c.schema fs) (λ g. Some (g, None)) p h in
      subst (λ (r : Header × Option Typed). TypesOpening c (opening.Empty fs) r.0 r.1) (some_same (q.0, None) p q.2) (empty q.1)
  opening_is (opening.Init None a) p h =
      let q = inverted (value_after c.schema a) (λ v. Some (v.1, Some v.0)) p h in
      subst (λ (r : Header × Option Typed). TypesOpening c (opening.Init None a) r.0 r.1) (some_same (q.0.1, Some q.0.0) p q.2) (init (value_is a q.0 q.1))
  opening_is (opening.Init (Some fs) a) p h =
      let q = inverted (heading_written c.schema fs) (λ g. where_some (value_after c.schema a) (beside g)) p h in
      let r = inverted (value_after c.schema a) (beside q.0) p q.2 in
      let t = tested (same_heading q.0 r.0.1) (r.0.1, Some r.0.0) p r.2 in
      let one : q.0 ≡ r.0.1 = (let e : kind.Relation q.0 ≡ kind.Relation r.0.1 = same (kind.Relation q.0) (kind.Relation r.0.1) t.0 in cc) in
      subst (λ (r : Header × Option Typed). TypesOpening c (opening.Init (Some fs) a) r.0 r.1) t.1
      (headed_init (q.1 ∙ ap Some one) (value_is a r.0 r.1))

  is_opening : (o : Opening) (h : Header) (u : Option Typed) → TypesOpening c o h u → opening_after c.schema o ≡ Some (h, u)
  is_opening (opening.Empty fs) h None (empty e) = goes (heading_written c.schema fs) h (λ g. Some (g, None)) e
  is_opening (opening.Empty fs) h (Some u) x = elim x [ ]
  is_opening (opening.Init None a) h None x = elim x [ ]
  is_opening (opening.Init (Some fs) a) h None x = elim x [ ]
  is_opening (opening.Init None a) h (Some u) (init d) = goes (value_after c.schema a) (u, h) (λ v. Some (v.1, Some v.0)) (is_value a u h d)
  is_opening (opening.Init (Some fs) a) h (Some u) (headed_init e d) =
      goes (heading_written c.schema fs) h (λ g. where_some (value_after c.schema a) (beside g)) e
      ∙ goes (value_after c.schema a) (u, h) (beside h) (is_value a u h d)
      ∙ passes (same_heading h h) (h, Some u) (same_itself (kind.Relation h))

keys_are : (h : Header) (as' : List Attributes) (done ks : List (List Name)) → each (λ a. attributes_of a h) done as' ≡ Some ks → (rest : List (List Name)) × (ks ≡ done ++ rest) × AreKeys h as' rest
keys_are h [] done ks e = ([], sym (some_same done ks e) ∙ sym (append-nil done), no_keys)
keys_are h (a ∷ as') done ks e =
    let p = inverted (attributes_of a h) (λ ns. each (λ b. attributes_of b h) (done ++ ns ∷ []) as') ks e in
    let r = keys_are h as' (done ++ p.0 ∷ []) ks p.2 in
    (p.0 ∷ r.0, r.1 ∙ append_assoc done (p.0 ∷ []) r.0, next_key p.1 r.2)

all_keys : (h : Header) (as' : List Attributes) (ks : List (List Name)) → keys_after h as' ≡ Some ks → AreKeys h as' ks
all_keys h as' ks e = let r = keys_are h as' [] ks e in subst (AreKeys h as') (sym r.1) r.2

are_keys : {h : Header} {as' : List Attributes} {ks : List (List Name)} → AreKeys h as' ks → (done : List (List Name)) → each (λ a. attributes_of a h) done as' ≡ Some (done ++ ks)
are_keys no_keys done = ap Some (sym (append-nil done))
are_keys {h} (next_key {a} {ns} {as'} {ks} e d) done =
    goes (attributes_of a h) ns (λ ms. each (λ b. attributes_of b h) (done ++ ms ∷ []) as') e
    ∙ are_keys d (done ++ ns ∷ []) ∙ ap Some (append_assoc done (ns ∷ []) ks)

three : (a b d : Bool) → a && (b && d) ≡ true → (a ≡ true) × (b ≡ true) × (d ≡ true)
three true true true h = (refl, refl, refl)
three true true false h = cc
three true false d h = cc
three false b d h = cc

all_three : (a b d : Bool) → a ≡ true → b ≡ true → d ≡ true → a && (b && d) ≡ true
all_three true true true p q r = refl
all_three true true false p q r = cc
all_three true false d p q r = cc
all_three false b d p q r = cc

-- ---- definitions
module _ (c d : CatalogueData) where
  type_is : (n : Name) (m : Option Name) (xs : List (Named TypeExpr)) (a : Option Expr) → type_after c n (unwrap_or m n) xs a ≡ Some d → Defines c (definition.Type n m xs a) d
  unfolding type_after possrep_after
  type_is n m xs a h =
      let l = unwrap_or m n in
      let p = inverted (components_written c.schema xs) (λ ks. where_some (limits_after c.schema ks a) (λ u. possrep_after c (represented n l ks) u)) d h in
      let q = inverted (limits_after c.schema p.0 a) (λ u. possrep_after c (represented n l p.0) u) d p.2 in
      let t = tested (may_add c.schema (represented n l p.0)) (with_type c (represented n l p.0) q.0) d q.2 in
      let b = three (not (begins_with_the l)) (is_none (type_named c.schema n)) (is_none (possrep_named c.schema l)) t.0 in
      subst (Defines c (definition.Type n m xs a)) t.1
      (type_ (there_is_none (type_named c.schema n) b.1) (there_is_none (possrep_named c.schema l) b.2) (is_false (begins_with_the l) b.0) p.1 (limit_is c p.0 a q.0 q.1))

  base_is : (n : Name) (o : Opening) (as' : List Attributes) → base_after c n o as' ≡ Some d → Defines c (definition.Base n o as') d
  unfolding base_after relvar_after
  base_is n o as' h =
      let p = inverted (opening_after c.schema o) (λ p. where_some (keys_after p.0 as') (λ ks. relvar_after c n p.0 (origin.Base ks p.1) (key_tests c ks))) d h in
      let q = inverted (keys_after p.0.0 as') (λ ks. relvar_after c n p.0.0 (origin.Base ks p.0.1) (key_tests c ks)) d p.2 in
      let t = tested (is_none (relvar_named c.schema n)) (with_relvar c n p.0.0 (origin.Base q.0 p.0.1) (key_tests c q.0)) d q.2 in
      subst (Defines c (definition.Base n o as')) t.1
      (base (there_is_none (relvar_named c.schema n) t.0) (opening_is c o p.0 p.1) (all_keys p.0.0 as' q.0 q.1))

  virtual_is : (n : Name) (a : Expr) → virtual_after c n a ≡ Some d → Defines c (definition.Virtual n a) d
  unfolding virtual_after relvar_after
  virtual_is n a h =
      let p = inverted (value_after c.schema a) (λ v. relvar_after c n v.1 (origin.Virtual v.0) []) d h in
      let t = tested (is_none (relvar_named c.schema n)) (with_relvar c n p.0.1 (origin.Virtual p.0.0) []) d p.2 in
      subst (Defines c (definition.Virtual n a)) t.1
      (virtual (there_is_none (relvar_named c.schema n) t.0) (value_is c a p.0 p.1))

  constraint_is : (n : Name) (a : Expr) → constraint_after c n a ≡ Some d → Defines c (definition.Constraint n a) d
  unfolding constraint_after named_after
  constraint_is n a h =
      let p = inverted (condition_after c.schema a) (λ u. where_true (not (list_any (is_constraint n) c.tests)) (with_constraint c n u)) d h in
      let t = tested (not (list_any (is_constraint n) c.tests)) (with_constraint c n p.0) d p.2 in
      subst (Defines c (definition.Constraint n a)) t.1
      (constraint (is_false (list_any (is_constraint n) c.tests) t.0) (condition_is c a p.0 p.1))

pub after_is : (c d : CatalogueData) (x : Definition) → after c x ≡ Some d → Defines c x d
after_is c d (definition.Type n m xs a) h = type_is c d n m xs a h
after_is c d (definition.Base n o as') h = base_is c d n o as' h
after_is c d (definition.Virtual n a) h = virtual_is c d n a h
after_is c d (definition.Constraint n a) h = constraint_is c d n a h

none_is : {A : Type 0} (o : Option A) → o ≡ None → is_none o ≡ true
none_is o h = ap is_none h

pub is_after : {c d : CatalogueData} {x : Definition} → Defines c x d → after c x ≡ Some d
unfolding type_after possrep_after base_after virtual_after constraint_after named_after relvar_after
is_after {c} (type_ {n} {m} {xs} {a} {ks} {u} t p b e l) =
    let o = unwrap_or m n in
    goes (components_written c.schema xs) ks (λ ls. where_some (limits_after c.schema ls a) (λ v. possrep_after c (represented n o ls) v)) e
    ∙ goes (limits_after c.schema ks a) u (λ v. possrep_after c (represented n o ks) v) (is_limit c ks a u l)
    ∙ passes (may_add c.schema (represented n o ks)) (with_type c (represented n o ks) u)
    (all_three (not (begins_with_the o)) (is_none (type_named c.schema n)) (is_none (possrep_named c.schema o)) (ap not b) (none_is (type_named c.schema n) t) (none_is (possrep_named c.schema o) p))
is_after {c} (base {n} {o} {as'} {h} {u} {ks} e t k) =
    goes (opening_after c.schema o) (h, u) (λ p. where_some (keys_after p.0 as') (λ ls. relvar_after c n p.0 (origin.Base ls p.1) (key_tests c ls))) (is_opening c o h u t)
    ∙ goes (keys_after h as') ks (λ ls. relvar_after c n h (origin.Base ls u) (key_tests c ls)) (are_keys k [])
    ∙ passes (is_none (relvar_named c.schema n)) (with_relvar c n h (origin.Base ks u) (key_tests c ks)) (none_is (relvar_named c.schema n) e)
is_after {c} (virtual {n} {a} {u} {h} e t) =
    goes (value_after c.schema a) (u, h) (λ v. relvar_after c n v.1 (origin.Virtual v.0) []) (is_value c a u h t)
    ∙ passes (is_none (relvar_named c.schema n)) (with_relvar c n h (origin.Virtual u) []) (none_is (relvar_named c.schema n) e)
is_after {c} (constraint {n} {a} {u} e t) =
    goes (condition_after c.schema a) u (λ v. where_true (not (list_any (is_constraint n) c.tests)) (with_constraint c n v)) (is_condition c a u t)
    ∙ passes (not (list_any (is_constraint n) c.tests)) (with_constraint c n u) (ap not e)
