-- What a relvar has, by its name.
use Rattle.std.proofs.Common.{◌≡◌, ℕ, suc, ◌+◌, Bool, true, false, List, [], ◌∷◌, Option, Some, None, Result, Ok, Err, slice_get, if◌then◌else◌, refl, sym, ap, subst, ◌∙◌, true≢false, ne_eqb, arith}
use Rattle.std.specs.List.{filter_map, cons_option}
use Rattle.td_values.specs.Data.{no_attrs}
use Rattle.td_values.specs.Headings.{Header}
use Rattle.td_values.specs.Rows.{RowsData}
use Rattle.td_values.specs.declared.TypeKind.{TypeKind}
use Rattle.td_values.specs.declared.TypeKind.TheVariants as kind
use Rattle.td_syntax.specs.declared.tree.Expr.TheVariants as e
use Rattle.td_syntax.specs.declared.tree.Named.{Named}
use Rattle.td_schema.specs.Kinds.{Name}
use Rattle.td_schema.specs.Schemas.{first_from, is_named, relvar_named}
use Rattle.td_schema.specs.Scopes.{as_relvar, relvars_of, within_tuple}
use Rattle.td_typed_trees.specs.declared.expression.Expression.{Expression}
use Rattle.td_typed_trees.specs.declared.tree.Typed.{Typed}
use Rattle.td_typed_trees.specs.declared.tree.Typed.TheVariants as t
use Rattle.td_typed_trees.specs.declared.tree.Typing.{Typing}
use Rattle.td_typing.specs.ForProofs.Infer.{Inferred, infer_name, meant_by}
use Rattle.td_typing.specs.Trees.{typing}
use Rattle.td_typing.specs.Types.{Types, IsIllTyped, relvar_name}
use Rattle.td_typing.proofs.Complete.{complete}
use Rattle.td_typing.proofs.Equations.{of_name}
use Rattle.td_typing.proofs.KindLemmas.{some_same}
use Rattle.td_algebra.specs.declared.errors.Stop.{Stop}
use Rattle.td_algebra.specs.Nested.{relation_value}
use Rattle.td_algebra.specs.Raising.{and_then}
use Rattle.td_headings.specs.Catalogues.{CatalogueData}
use Rattle.td_headings.specs.Definitions.{names_of_relvars}
use Rattle.td_headings.specs.Expressions.{IsExpression, no_tuple, virtual_of, virtual_at}
use Rattle.td_headings.specs.Reached.{is_base}
use Rattle.td_headings.specs.declared.defined.Origin.{Origin}
use Rattle.td_headings.specs.declared.defined.Origin.TheVariants as origin
use Rattle.td_headings.proofs.NoTuple.{at_relvars}
use Rattle.td_meaning.specs.Mean.{Meaning, Relvars, Selection, mean, mean_relvar, rows_in, within as names_within}
use Rattle.td_operators.specs.Operators.{as_value}
use Rattle.td_operators.specs.Values.{rows_of}
use Rattle.td_meaning.proofs.Forms as meant
use Rattle.td_operators.proofs.KindLemmas.{rows_back}
use Rattle.td_semantics.specs.Meanings.{no_names, with_virtual, with_virtuals}
use Rattle.td_semantics.specs.Trees.{all_relvars, places, selection_of, tree_means}
use Rattle.td_semantics.specs.Answers.{TellsRelvar}
use Rattle.td_semantics.specs.Databases.{DatabaseData, IsDatabase}
use Rattle.td_relvars.specs.ForProofs.Asked.{IsNameOf, IsRelvar, IsStoredAt, TellsAt}
use Rattle.td_semantics.specs.declared.answer.Answer.{Answer}
use Rattle.td_semantics.specs.declared.error.RelvarError.{RelvarError}
use Rattle.td_semantics.specs.declared.error.RelvarError.TheVariants.{Unknown, OutOfMemory}

-- ---- the place of a name
first_there : {A : Type 0} (m : ℕ) (test : A → Bool) (xs : List A) (r : ℕ × A) → first_from m test xs ≡ Some r → (k : ℕ) × (r.0 ≡ m + k) × (slice_get xs k ≡ Some r.1)
first_there m test [] r h = cc
first_there {A} m test (x ∷ xs) r h = by (test x) (first_there (m + 1) test xs r) h
  where
    by : (b : Bool) → (first_from (m + 1) test xs ≡ Some r → (k : ℕ) × (r.0 ≡ m + 1 + k) × (slice_get xs k ≡ Some r.1)) → (if b then Some (m, x) else first_from (m + 1) test xs) ≡ Some r → (k : ℕ) × (r.0 ≡ m + k) × (slice_get (x ∷ xs) k ≡ Some r.1)
    by true later e = let same = some_same (m, x) r e in (0, sym (ap (λ (p : ℕ × A). p.0) same) ∙ (let z : m ≡ m + 0 = omega arith in z), ap (λ (p : ℕ × A). Some p.1) same)
    by false later e = let k = later e in (suc k.0, (let z : r.0 ≡ m + suc k.0 = omega (arith, k.1) in z), k.2)

pub relvar_there : (c : CatalogueData) (x : Name) (n : ℕ) (v : Named Header) → relvar_named c.schema x ≡ Some (n, v) → slice_get c.schema.relvars n ≡ Some v
relvar_there c x n v h =
    let k = first_there 0 (is_named x) c.schema.relvars (n, v) h in
    let same : k.0 ≡ n = omega (arith, k.1) in
    subst (λ m. slice_get c.schema.relvars m ≡ Some v) same k.2

-- ---- a name as an expression
module _ (c : CatalogueData) (x : Name) (n : ℕ) (h : Header) (is : IsRelvar c x n h) where
  pub is_typed : {P : Type 0} → IsIllTyped c.schema (names_of_relvars c) (e.Name x) → P
  is_typed never = absurd (never (t.Relvar n) (kind.Relation h) (relvar_name (ap as_relvar is)))

  named : (u : Typed) (k : TypeKind) → Types c.schema (within_tuple no_tuple (relvars_of c.schema)) (e.Name x) u k → typing u k ≡ typing (t.Relvar n) (kind.Relation h)
  unfolding infer_name
  named u k d = some_same (typing u k) (typing (t.Relvar n) (kind.Relation h))
      (sym (complete c.schema (at_relvars c (e.Name x) u k d)) ∙ ap (λ (f : Inferred). f (relvars_of c.schema)) (of_name c.schema x) ∙ ap (λ o. meant_by x (as_relvar o)) is)

  pub name_is : (y : Expression) → IsExpression c no_tuple (e.Name x) y → IsNameOf c n h y
  name_is y d = record {
    tree = ap (λ (p : Typing). p.tree) (named y.tree y.kind d.types);
    kind_ = ap (λ (p : Typing). p.kind) (named y.tree y.kind d.types);
    within = record {
      tree = record { expr = e.Name x; types = d.types };
      attributes = d.attributes;
      under = d.under;
    };
  }

-- ---- what the name means
back : (m : Result RowsData Stop) → and_then (and_then m as_value) rows_of ≡ m
back (Ok r) = rows_back (relation_value r) r refl
back (Err s) = refl

pub name_means : (c : CatalogueData) (r : Relvars) (n : ℕ) (u : Typed) → u ≡ t.Relvar n → and_then (tree_means c r u no_attrs) rows_of ≡ all_relvars c r n
unfolding mean_relvar
name_means c r n u is =
    ap (λ v. and_then (tree_means c r v no_attrs) rows_of) is
    ∙ ap (λ (f : Meaning). and_then (f (names_within no_attrs no_names)) rows_of) (meant.of_relvar (all_relvars c r) (selection_of c) n)
    ∙ back (all_relvars c r n)

-- ---- a base relvar has what is stored
module _ (c : CatalogueData) (selected : Selection) (n : ℕ) (stored : is_base (slice_get c.origins n) ≡ true) where
  other_stays : (m : ℕ) (u : Typed) (r : Relvars) → (m ≡ n → ⊥) → with_virtual selected r (record { place = m; tree = u }) n ≡ r n
  other_stays m u r apart = ap (λ b. if b then rows_in (mean r selected u) no_names else r n) (ne_eqb m n apart)

  not_here : (m : ℕ) (u : Typed) → slice_get c.origins m ≡ Some (origin.Virtual u) → m ≡ n → ⊥
  not_here m u is same = absurd (true≢false (sym stored ∙ ap (λ k. is_base (slice_get c.origins k)) (sym same) ∙ ap is_base is))

  one_stays : (m : ℕ) (ms : List ℕ) → ((r : Relvars) → with_virtuals selected (filter_map (virtual_at c) ms) r n ≡ r n) → (r : Relvars) (o : Option Origin) → slice_get c.origins m ≡ o → with_virtuals selected (cons_option (virtual_of m o) (filter_map (virtual_at c) ms)) r n ≡ r n
  one_stays m ms rest r None is = rest r
  one_stays m ms rest r (Some (origin.Base ks u)) is = rest r
  one_stays m ms rest r (Some (origin.Virtual u)) is = rest (with_virtual selected r (record { place = m; tree = u })) ∙ other_stays m u r (not_here m u is)

  stays : (ms : List ℕ) (r : Relvars) → with_virtuals selected (filter_map (virtual_at c) ms) r n ≡ r n
  stays [] r = refl
  stays (m ∷ ms) r = one_stays m ms (stays ms) r (slice_get c.origins m) refl

pub base_stays : (c : CatalogueData) (r : Relvars) (n : ℕ) → is_base (slice_get c.origins n) ≡ true → all_relvars c r n ≡ r n
base_stays c r n stored = stays c (selection_of c) n stored (places c.origins) r

pub is_stored : (d : DatabaseData) (x : Name) (n : ℕ) (h : Header) → IsDatabase d → IsRelvar d.catalogue x n h → is_base (slice_get d.catalogue.origins n) ≡ true → IsStoredAt d n
is_stored d x n h is at real =
    let v : Named Header = record { name = x; value = h } in
    let k = is.stored n v real (relvar_there d.catalogue x n v at) in
    record { is_real = real; relation = k.0; has = k.1 }

pub tells : (d : DatabaseData) (x : Name) (n : ℕ) (h : Header) (a : Result (Answer RowsData) RelvarError) → IsRelvar d.catalogue x n h → TellsAt d n a → TellsRelvar d x a
tells d x n h (Ok a) at told = (n, record { name = x; value = h }, at, told)
tells d x n h (Err Unknown) at told = absurd told
tells d x n h (Err OutOfMemory) at told = tt
