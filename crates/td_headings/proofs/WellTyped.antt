-- What definitions leave is typed by all that is defined.
use Rattle.std.proofs.Common.{◌≡◌, ℕ, zero, suc, pred, ◌++◌, List, [], ◌∷◌, map, length, Option, Some, None, unwrap_or, Result, Ok, Err, slice_get, append-nil, refl, sym, ap, subst, ◌∙◌}
use Rattle.td_values.specs.Headings.{Header}
use Rattle.td_values.specs.declared.TypeKind.{TypeKind}
use Rattle.td_values.specs.declared.TypeKind.TheVariants as kind
use Rattle.td_syntax.specs.declared.tree.Expr.{Expr}
use Rattle.td_syntax.specs.declared.tree.Named.{Named}
use Rattle.td_syntax.specs.declared.script.Definition.{Definition}
use Rattle.td_syntax.specs.declared.script.Opening.{Opening}
use Rattle.td_schema.specs.declared.error.TypeError.{TypeError}
use Rattle.td_schema.specs.declared.schema.Representation.{Representation}
use Rattle.td_schema.specs.Kinds.{Name}
use Rattle.td_schema.specs.Scopes.{nothing, within_tuple, relvars_of}
use Rattle.td_schema.specs.Written.{kind_columns}
use Rattle.td_typing.specs.ForProofs.Growth.{IsEarlier}
use Rattle.td_typing.specs.Types.{Types}
use Rattle.td_typing.proofs.Staying.{stays, within_stays, relvars_stay}
use Rattle.td_typed_trees.specs.declared.tree.Typed.{Typed}
use Rattle.td_headings.specs.Catalogues.{CatalogueData, nothing_defined}
use Rattle.td_headings.specs.Definitions.{names_of_relvars, represented, with_type, with_relvar, with_constraint, key_tests, TypesLimit, no_limit, limit, TypesOpening, empty, init, headed_init, Defines, type_, base, virtual, constraint, Defined, nothing_yet, next_definition}
use Rattle.td_headings.specs.Expressions.{IsTree, no_tuple, constraint_of, constraint_at, init_of, init_at}
use Rattle.td_headings.specs.ForProofs.After.{after}
use Rattle.td_headings.specs.ForProofs.Changes.{Changes}
use Rattle.td_headings.specs.ForProofs.WellTyped.{HasHeading, IsLimit, AllTyped}
use Rattle.td_headings.specs.declared.defined.Origin.{Origin}
use Rattle.td_headings.specs.declared.defined.Origin.TheVariants as origin
use Rattle.td_headings.specs.declared.defined.Test.{Test}
use Rattle.td_headings.specs.declared.defined.Test.TheVariants as test
use Rattle.td_headings.proofs.Deciding.{after_is}
use Rattle.td_headings.proofs.NoTuple.{in_no_tuple}

-- ---- places in lists
some_same : {A : Type 0} (a b : A) → Some a ≡ Some b → a ≡ b
some_same a b h = cc

one_there : {A : Type 0} (x : A) (n : ℕ) (z : A) → slice_get (x ∷ []) n ≡ Some z → x ≡ z
one_there x zero z h = some_same x z h
one_there x (suc n) z h = cc

-- what stands at a place stands in the front, or behind it
either : {A P : Type 0} (xs ys : List A) (n : ℕ) (z : A) → slice_get (xs ++ ys) n ≡ Some z → (slice_get xs n ≡ Some z → P) → ((m : ℕ) → slice_get ys m ≡ Some z → P) → P
either [] ys n z h front behind = behind n h
either (x ∷ xs) ys zero z h front behind = front h
either (x ∷ xs) ys (suc n) z h front behind = either xs ys n z h front behind

-- what stands at one place of two lists of one length stands there before the last ones, or is the last ones
both : {A B P : Type 0} (xs : List A) (ys : List B) (x : A) (y : B) (n : ℕ) (a : A) (b : B) → length xs ≡ length ys → slice_get (xs ++ x ∷ []) n ≡ Some a → slice_get (ys ++ y ∷ []) n ≡ Some b → (slice_get xs n ≡ Some a → slice_get ys n ≡ Some b → P) → (x ≡ a → y ≡ b → P) → P
both [] [] x y n a b e p q front last = last (one_there x n a p) (one_there y n b q)
both [] (z ∷ ys) x y n a b e p q front last = cc
both (w ∷ xs) [] x y n a b e p q front last = cc
both (w ∷ xs) (z ∷ ys) x y zero a b e p q front last = front p q
both (w ∷ xs) (z ∷ ys) x y (suc n) a b e p q front last = both xs ys x y n a b (ap pred e) p q front last

one_longer : {A B : Type 0} (xs : List A) (ys : List B) (x : A) (y : B) → length xs ≡ length ys → length (xs ++ x ∷ []) ≡ length (ys ++ y ∷ [])
one_longer [] [] x y e = refl
one_longer [] (z ∷ ys) x y e = cc
one_longer (w ∷ xs) [] x y e = cc
one_longer (w ∷ xs) (z ∷ ys) x y e = ap suc (one_longer xs ys x y (ap pred e))

-- no key is a constraint
keys_only : {P : Type 0} (r : ℕ) (ks : List (List Name)) (n : ℕ) (x : Name) (u : Typed) → slice_get (map (test.Key r) ks) n ≡ Some (test.Constraint x u) → P
keys_only r [] n x u h = cc
keys_only r (k ∷ ks) zero x u h = cc
keys_only r (k ∷ ks) (suc n) x u h = keys_only r ks n x u h

abbrev tree_in : Typed → Test → Typed
tree_in v (test.Constraint x u) = u
tree_in v (test.Key r ns) = v

-- ---- what is typed stays typed
of_types : (c : CatalogueData) (a : Expr) (u : Typed) (k : TypeKind) → Types c.schema (names_of_relvars c) a u k → IsTree c no_tuple u k
of_types c a u k d = record { expr = a; types = in_no_tuple c a u k d }

module _ (c d : CatalogueData) (front : IsEarlier c.schema d.schema) where
  tree_stays : (u : Typed) (k : TypeKind) → IsTree c no_tuple u k → IsTree d no_tuple u k
  tree_stays u k t = record {
    expr = t.expr;
    types = stays c.schema d.schema front (within_tuple no_tuple (relvars_of c.schema)) (within_tuple no_tuple (relvars_of d.schema)) (within_stays no_tuple (relvars_of c.schema) (relvars_of d.schema) (relvars_stay c.schema d.schema front)) t.types;
  }

  heading_stays : (o : Origin) (h : Header) → HasHeading c o h → HasHeading d o h
  heading_stays (origin.Base ks None) h t = t
  heading_stays (origin.Base ks (Some u)) h t = tree_stays u (kind.Relation h) t
  heading_stays (origin.Virtual u) h t = tree_stays u (kind.Relation h) t

  limit_stays : (r : Representation) (u : Typed) → IsLimit c r u → IsLimit d r u
  limit_stays r u l = record {
    expr = l.expr;
    types = stays c.schema d.schema front (within_tuple (kind_columns r.components) nothing) (within_tuple (kind_columns r.components) nothing) (λ x m h. h) l.types;
  }

opened : (c : CatalogueData) (o : Opening) (h : Header) (u : Option Typed) (ks : List (List Name)) → TypesOpening c o h u → HasHeading c (origin.Base ks u) h
opened c o h u ks (empty is) = tt
opened c o h u ks (init {a} {u = v} d) = of_types c a v (kind.Relation h) d
opened c o h u ks (headed_init {a} {u = v} is d) = of_types c a v (kind.Relation h) d

limited : (c : CatalogueData) (r : Representation) (a : Option Expr) (u : Option Typed) (v : Typed) → TypesLimit c r.components a u → u ≡ Some v → IsLimit c r v
limited c r a u v no_limit h = cc
limited c r a u v (limit {a = b} {u = w} d) h = record { expr = b; types = subst (λ z. Types c.schema (within_tuple (kind_columns r.components) nothing) b z kind.Boolean) (some_same w v h) d }

-- ---- what each definition adds
itself : (c d : CatalogueData) → d.schema ≡ c.schema → IsEarlier c.schema d.schema
itself c d e = record {
  possreps = [];
  relvars = [];
  later_possreps = ap (λ s. s.possreps) e ∙ sym (append-nil c.schema.possreps);
  later_relvars = ap (λ s. s.relvars) e ∙ sym (append-nil c.schema.relvars);
}

module _ (c : CatalogueData) (w : AllTyped c) where
  after_constraint : (n : Name) (a : Expr) (u : Typed) → Types c.schema (names_of_relvars c) a u kind.Boolean → AllTyped (with_constraint c n u)
  after_constraint n a u d =
      let e = with_constraint c n u in
      let front = itself c e refl in
      record {
        origin_each = w.origin_each;
        limit_each = w.limit_each;
        relvars = λ m o r p q. heading_stays c e front o r.value (w.relvars m o r p q);
        limits = λ m v r p q. limit_stays c e front r v (w.limits m v r p q);
        constraints = λ m x v p.
            either c.tests (test.Constraint n u ∷ []) m (test.Constraint x v) p
            (λ old. tree_stays c e front v kind.Boolean (w.constraints m x v old))
            (λ j new. subst (λ z. IsTree e no_tuple z kind.Boolean) (ap (tree_in u) (one_there (test.Constraint n u) j (test.Constraint x v) new)) (tree_stays c e front u kind.Boolean (of_types c a u kind.Boolean d)));
      }

  after_relvar : (n : Name) (h : Header) (o : Origin) (ts : List Test) → HasHeading c o h → ((m : ℕ) (x : Name) (u : Typed) → slice_get ts m ≡ Some (test.Constraint x u) → ⊥) → AllTyped (with_relvar c n h o ts)
  after_relvar n h o ts has keys =
      let e = with_relvar c n h o ts in
      let r : Named Header = record { name = n; value = h } in
      let front : IsEarlier c.schema e.schema = record { possreps = []; relvars = r ∷ []; later_possreps = sym (append-nil c.schema.possreps); later_relvars = refl } in
      record {
        origin_each = one_longer c.origins c.schema.relvars o r w.origin_each;
        limit_each = w.limit_each;
        relvars = λ m o2 r2 p q.
            both c.origins c.schema.relvars o r m o2 r2 w.origin_each p q
            (λ a b. heading_stays c e front o2 r2.value (w.relvars m o2 r2 a b))
            (λ a b. subst (λ z. HasHeading e o2 z) (ap (λ z. z.value) b) (subst (λ z. HasHeading e z h) a (heading_stays c e front o h has)));
        limits = λ m v r p q. limit_stays c e front r v (w.limits m v r p q);
        constraints = λ m x v p.
            either c.tests ts m (test.Constraint x v) p
            (λ old. tree_stays c e front v kind.Boolean (w.constraints m x v old))
            (λ j new. absurd (keys j x v new));
      }

  after_type : (r : Representation) (a : Option Expr) (u : Option Typed) → TypesLimit c r.components a u → AllTyped (with_type c r u)
  after_type r a u d =
      let e = with_type c r u in
      let front : IsEarlier c.schema e.schema = record { possreps = r ∷ []; relvars = []; later_possreps = refl; later_relvars = sym (append-nil c.schema.relvars) } in
      record {
        origin_each = w.origin_each;
        limit_each = one_longer c.limits c.schema.possreps u r w.limit_each;
        relvars = λ m o r p q. heading_stays c e front o r.value (w.relvars m o r p q);
        limits = λ m v r2 p q.
            both c.limits c.schema.possreps u r m (Some v) r2 w.limit_each p q
            (λ x y. limit_stays c e front r2 v (w.limits m v r2 x y))
            (λ x y. subst (λ z. IsLimit e z v) y (limit_stays c e front r v (limited c r a u v d x)));
        constraints = λ m x v p. tree_stays c e front v kind.Boolean (w.constraints m x v p);
      }

defines_typed : (c : CatalogueData) (x : Definition) (d : CatalogueData) → AllTyped c → Defines c x d → AllTyped d
defines_typed c x d w (type_ {n} {m} {xs} {a} {ks} {u} new_type new_possrep plain are is) = after_type c w (represented n (unwrap_or m n) ks) a u is
defines_typed c x d w (base {n} {o} {as'} {h} {u} {ks} new is are) = after_relvar c w n h (origin.Base ks u) (key_tests c ks) (opened c o h u ks is) (λ m y v. keys_only (length c.origins) ks m y v)
defines_typed c x d w (virtual {n} {a} {u} {h} new is) = after_relvar c w n h (origin.Virtual u) [] (of_types c a u (kind.Relation h) is) (λ m y v p. cc)
defines_typed c x d w (constraint {n} {a} {u} new is) = after_constraint c w n a u is

nothing_typed : AllTyped nothing_defined
nothing_typed = record {
  origin_each = refl;
  limit_each = refl;
  relvars = λ m o r p q. cc;
  limits = λ m v r p q. cc;
  constraints = λ m x v p. cc;
}

pub all_typed : (c : CatalogueData) → Defined c → AllTyped c
all_typed c nothing_yet = nothing_typed
all_typed c (next_definition {c = old} {x} before is) = defines_typed old x c (all_typed old before) is

-- ---- what a call leaves
pub still_defined : (c d : CatalogueData) (x : Definition) (r : Result (Unit {0}) TypeError) → Defined c → Changes c (after c x) r d → Defined d
still_defined c d x (Ok u) before h = next_definition before (after_is c d x h)
still_defined c d x (Err e) before h = subst Defined (sym h.1) before

-- ---- what a catalogue hands out
pub constraint_tree : (c : CatalogueData) → Defined c → (n : ℕ) (u : Typed) → constraint_at c n ≡ Some u → IsTree c no_tuple u kind.Boolean
constraint_tree c before n u h = by (slice_get c.tests n) refl h
  where
    by : (o : Option Test) → slice_get c.tests n ≡ o → constraint_of o ≡ Some u → IsTree c no_tuple u kind.Boolean
    by None p q = cc
    by (Some (test.Key r ns)) p q = cc
    by (Some (test.Constraint x v)) p q = subst (λ z. IsTree c no_tuple z kind.Boolean) (some_same v u q) ((all_typed c before).constraints n x v p)

pub init_tree : (c : CatalogueData) → Defined c → (n : ℕ) (v : Typed × Header) → init_at c n ≡ Some v → IsTree c no_tuple v.0 (kind.Relation v.1)
init_tree c before n v h = by (slice_get c.origins n) (slice_get c.schema.relvars n) refl refl h
  where
    by : (o : Option Origin) (r : Option (Named Header)) → slice_get c.origins n ≡ o → slice_get c.schema.relvars n ≡ r → init_of o r ≡ Some v → IsTree c no_tuple v.0 (kind.Relation v.1)
    by None r p q e = cc
    by (Some (origin.Virtual u)) r p q e = cc
    by (Some (origin.Base ks None)) r p q e = cc
    by (Some (origin.Base ks (Some u))) None p q e = cc
    by (Some (origin.Base ks (Some u))) (Some r) p q e = subst (λ (z : Typed × Header). IsTree c no_tuple z.0 (kind.Relation z.1)) (some_same (u, r.value) v e) ((all_typed c before).relvars n (origin.Base ks (Some u)) r p q)
