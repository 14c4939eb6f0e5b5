-- Relvars of a catalogue by their places and by their names.
use Rattle.std.proofs.Common.{◌≡◌, ◌<◌, ℕ, zero, suc, ◌+◌, Bool, true, false, if◌then◌else◌, List, [], ◌∷◌, ◌++◌, length, drop, Option, None, Some, slice_get, refl, sym, ap, subst, ◌∙◌, arith, ◌⊎◌, inl, inr, add-one}
use Rattle.td_values.specs.Headings.{Header}
use Rattle.td_values.specs.TextOrder.{text_equivalence}
use Rattle.td_syntax.specs.declared.tree.Named.{Named}
use Rattle.td_schema.specs.Kinds.{Name}
use Rattle.td_schema.specs.Schemas.{first_with_place, first_from, is_named, relvar_named, same_text}
use Rattle.td_headings.specs.Catalogues.{CatalogueData}
use Rattle.td_headings.specs.Definitions.{Defined, Defines, nothing_yet, next_definition, type_, base, virtual, constraint}
use Rattle.td_syntax.specs.declared.script.Definition.{Definition}
use Rattle.td_listings.specs.ForProofs.Asked.{IsRelvarAt}

pub some_same : {A : Type 0} (a b : A) → Some a ≡ Some b → a ≡ b
some_same a b e = cc

-- ---- lists
-- what stands at a place of a list with one more stands there before it, or is the last
at_end : {A : Type 0} (xs : List A) (x : A) (n : ℕ) (z : A) → slice_get (xs ++ x ∷ []) n ≡ Some z → (slice_get xs n ≡ Some z) ⊎ ((n ≡ length xs) × (x ≡ z))
at_end [] x zero z h = inr (refl, some_same x z h)
at_end [] x (suc n) z h = cc
at_end (y ∷ xs) x zero z h = inl h
at_end (y ∷ xs) x (suc n) z h = elim (at_end xs x n z h) [
  | inl front ↦ inl front
  | inr last ↦ inr (ap suc last.0, last.1)
]

begun : {A : Type 0} (xs : List A) (n : ℕ) (z : A) → slice_get xs n ≡ Some z → drop n xs ≡ z ∷ drop (suc n) xs
begun [] n z h = cc
begun (x ∷ xs) zero z h = ap (λ y. y ∷ xs) (some_same x z h)
begun (x ∷ xs) (suc n) z h = begun xs n z h

pub opened : {A : Type 0} (xs : List A) (n : ℕ) (z : A) → slice_get xs n ≡ Some z → drop n xs ≡ z ∷ drop (n + 1) xs
opened xs n z h = begun xs n z h ∙ ap (λ m. z ∷ drop m xs) (sym (add-one n))

-- ---- the first that passes a test
kept : {A : Type 0} (m : ℕ) (test : A → Bool) (xs ys : List A) (r : ℕ × A) → first_from m test xs ≡ Some r → first_from m test (xs ++ ys) ≡ Some r
kept m test [] ys r h = cc
kept {A} m test (x ∷ xs) ys r h = by (test x) (kept (m + 1) test xs ys r) h
  where
    by : (b : Bool) → (first_from (m + 1) test xs ≡ Some r → first_from (m + 1) test (xs ++ ys) ≡ Some r) → (if b then Some (m, x) else first_from (m + 1) test xs) ≡ Some r → (if b then Some (m, x) else first_from (m + 1) test (xs ++ ys)) ≡ Some r
    by true later e = e
    by false later e = later e

last : {A : Type 0} (m : ℕ) (test : A → Bool) (xs : List A) (x : A) → first_from m test xs ≡ None → test x ≡ true → first_from m test (xs ++ x ∷ []) ≡ Some (m + length xs, x)
last {A} m test [] x h passes = ap (λ b. if b then Some (m, x) else None) passes ∙ ap (λ (k : ℕ). Some (k, x)) (let e : m ≡ m + 0 = omega arith in e)
last {A} m test (y ∷ xs) x h passes = by (test y) (λ e. last (m + 1) test xs x e passes) h
  where
    by : (b : Bool) → (first_from (m + 1) test xs ≡ None → first_from (m + 1) test (xs ++ x ∷ []) ≡ Some (m + 1 + length xs, x)) → (if b then Some (m, y) else first_from (m + 1) test xs) ≡ None → (if b then Some (m, y) else first_from (m + 1) test (xs ++ x ∷ [])) ≡ Some (m + suc (length xs), x)
    by true later e = cc
    by false later e = later e ∙ ap (λ (k : ℕ). Some (k, x)) (let s : m + 1 + length xs ≡ m + suc (length xs) = omega arith in s)

-- ---- each relvar is the first of its name
abbrev AreFirst : List (Named Header) → Type 0
AreFirst vs = (n : ℕ) (v : Named Header) → slice_get vs n ≡ Some v → first_with_place (is_named v.name) vs ≡ Some (n, v)

one_first : (vs : List (Named Header)) (x : Name) (h : Header) → AreFirst vs → first_with_place (is_named x) vs ≡ None → AreFirst (vs ++ record { name = x; value = h } ∷ [])
one_first vs x h each new n v at = elim (at_end vs (record { name = x; value = h }) n v at) [
  | inl front ↦ kept 0 (is_named v.name) vs (record { name = x; value = h } ∷ []) (n, v) (each n v front)
  | inr end ↦
      subst (λ (w : Named Header). first_with_place (is_named w.name) (vs ++ record { name = x; value = h } ∷ []) ≡ Some (n, w)) end.1
      (last 0 (is_named x) vs (record { name = x; value = h }) new (text_equivalence.refl x) ∙ ap (λ (k : ℕ). Some (k, record { name = x; value = h })) (let k : 0 + length vs ≡ n = omega (arith, end.0) in k))
]

after : (c d : CatalogueData) (x : Definition) → AreFirst c.schema.relvars → Defines c x d → AreFirst d.schema.relvars
after c d x each (type_ a b e f g) = each
after c d x each (base {n} {o} {as'} {h} new o' k) = one_first c.schema.relvars n h each new
after c d x each (virtual {n} {a} {u} {h} new t) = one_first c.schema.relvars n h each new
after c d x each (constraint a b) = each

are_first : (c : CatalogueData) → Defined c → AreFirst c.schema.relvars
are_first c nothing_yet = λ n v h. cc
are_first c (next_definition {c = b} {x = x} before adds) = after b c x (are_first b before) adds

-- the relvar at a place, by its name
pub at_place : (c : CatalogueData) (n : ℕ) (v : Named Header) → Defined c → slice_get c.schema.relvars n ≡ Some v → IsRelvarAt c v.name n
at_place c n v d h = record { relvar = v; there = h; name = refl; named = are_first c d n v h }
