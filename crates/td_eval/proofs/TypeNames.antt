-- The types that a catalogue defines have distinct names: each is found by its own.
use Rattle.std.proofs.Common.{◌≡◌, ℕ, suc, ◌+◌, Bool, true, false, List, [], ◌∷◌, ◌++◌, length, Some, None, if◌then◌else◌, unwrap_or, ap, ◌∙◌, subst, arith}
use Rattle.std.specs.Prelude.{slice_get}
use Rattle.td_values.specs.TextOrder.{text_equivalence}
use Rattle.td_syntax.specs.declared.script.Definition.{Definition}
use Rattle.td_schema.specs.Schemas.{first_from, has_type_name, type_named}
use Rattle.td_schema.specs.declared.schema.Representation.{Representation}
use Rattle.td_headings.specs.Catalogues.{CatalogueData}
use Rattle.td_headings.specs.Definitions.{Defines, type_, base, virtual, constraint, Defined, nothing_yet, next_definition, represented}
use Rattle.td_headings.proofs.Placed.{front_or_last}

-- ---- the first that passes stays the first, and where none does the next is it
module _ {A : Type 0} (test : A → Bool) where
  kept : (n : ℕ) (xs ys : List A) (r : ℕ × A) → first_from n test xs ≡ Some r → first_from n test (xs ++ ys) ≡ Some r
  kept n [] ys r is = cc
  kept n (x ∷ xs) ys r is = by (test x) is (kept (n + 1) xs ys r)
    where
      by : (b : Bool) → (if b then Some (n, x) else first_from (n + 1) test xs) ≡ Some r → (first_from (n + 1) test xs ≡ Some r → first_from (n + 1) test (xs ++ ys) ≡ Some r) → (if b then Some (n, x) else first_from (n + 1) test (xs ++ ys)) ≡ Some r
      by true h rest = h
      by false h rest = rest h

  next : (n : ℕ) (xs : List A) (y : A) → first_from n test xs ≡ None → test y ≡ true → first_from n test (xs ++ y ∷ []) ≡ Some (n + length xs, y)
  next n [] y none passes =
      let same : n ≡ n + 0 = omega arith in
      ap (λ b. if b then Some (n, y) else None) passes ∙ ap (λ m. Some (m, y)) same
  next n (x ∷ xs) y none passes = by (test x) none (λ h. next (n + 1) xs y h passes)
    where
      same : n + 1 + length xs ≡ n + suc (length xs)
      same = omega arith

      by : (b : Bool) → (if b then Some (n, x) else first_from (n + 1) test xs) ≡ None → (first_from (n + 1) test xs ≡ None → first_from (n + 1) test (xs ++ y ∷ []) ≡ Some (n + 1 + length xs, y)) → (if b then Some (n, x) else first_from (n + 1) test (xs ++ y ∷ [])) ≡ Some (n + suc (length xs), y)
      by true h rest = cc
      by false h rest = rest h ∙ ap (λ m. Some (m, y)) same

-- ---- types by their names
abbrev AreNamed : List Representation → Type 0
AreNamed rs = (n : ℕ) (r : Representation) → slice_get rs n ≡ Some r → first_from 0 (has_type_name r.possrep.ty) rs ≡ Some (n, r)

one_named : (rs : List Representation) (q : Representation) → first_from 0 (has_type_name q.possrep.ty) rs ≡ None → AreNamed rs → AreNamed (rs ++ q ∷ [])
one_named rs q new named n r is =
    front_or_last rs q n r is
    (λ old. kept (has_type_name r.possrep.ty) 0 rs (q ∷ []) (n, r) (named n r old))
    (λ at same.
    let place : 0 + length rs ≡ n = omega (arith, at) in
    subst (λ (p : Representation). first_from 0 (has_type_name p.possrep.ty) (rs ++ q ∷ []) ≡ Some (n, p)) same
    (next (has_type_name q.possrep.ty) 0 rs q new (text_equivalence.refl q.possrep.ty) ∙ ap (λ m. Some (m, q)) place))

defines_named : (c : CatalogueData) (x : Definition) (d : CatalogueData) → AreNamed c.schema.possreps → Defines c x d → AreNamed d.schema.possreps
defines_named c x d named (type_ {n} {m} {ks} new_type new_possrep plain are is) = one_named c.schema.possreps (represented n (unwrap_or m n) ks) new_type named
defines_named c x d named (base new is are) = named
defines_named c x d named (virtual new is) = named
defines_named c x d named (constraint new is) = named

pub types_named : (c : CatalogueData) → Defined c → (n : ℕ) (r : Representation) → slice_get c.schema.possreps n ≡ Some r → type_named c.schema r.possrep.ty ≡ Some (n, r)
types_named c nothing_yet n r is = cc
types_named c (next_definition {c = old} {x} before defines) n r is = defines_named old x c (types_named old before) defines n r is
