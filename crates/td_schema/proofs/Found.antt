-- What a search by a name finds, by its place among the names.
use Rattle.std.proofs.Common.{◌≡◌, ℕ, suc, ◌+◌, arith, Bool, true, false, not, cond, ◌&&◌, ◌||◌, List, [], ◌∷◌, ◌++◌, map, Option, None, Some, is_some, is_none, slice_get, position, refl, sym, ap, ◌∙◌}
use Rattle.std.specs.List.{position_from, list_any}
use Rattle.std.specs.Map.{lookup, keys_of}
use Rattle.std.specs.declared.cmp.Ordering.{Ordering}
use Rattle.std.specs.declared.cmp.Ordering.TheVariants.{Less, Equal, Greater}
use Rattle.std.specs.Ordering.{is_eq}
use Rattle.std.specs.Option.{option_map}
use Rattle.std.proofs.lemmas.Iterator.Adapters.{position_from-zero}
use Rattle.std.proofs.lemmas.List.{map-append}
use Rattle.std.proofs.lemmas.Map.Lookups.{exact_bytes}
use Rattle.std.proofs.lemmas.Option.{slice_get-map}
use Rattle.td_values.specs.Headings.{Header}
use Rattle.td_syntax.specs.declared.tree.Named.{Named}
use Rattle.td_schema.specs.declared.schema.Representation.{Representation}
use Rattle.td_schema.specs.Kinds.{Name}
use Rattle.td_schema.specs.Results.{where_true}
use Rattle.td_schema.specs.Schemas.{SchemaData, first_with_place, first_from, same_text, relvar_named, possrep_named, type_named, is_named}
use Rattle.td_schema.specs.ForProofs.Additions.{relvar_added, may_add, possrep_names, type_names}

module _ {A B : Type 0} (test : B → Bool) (g : A → B) where
  places : (n : ℕ) (xs : List A) → option_map (λ r. r.0) (first_from n (λ x. test (g x)) xs) ≡ position_from test n (map g xs)
  places n [] = refl
  places n (x ∷ xs) = elim (test (g x)) as (λ b. option_map (λ r. r.0) (cond b (Some (n, x)) (first_from (n + 1) (λ y. test (g y)) xs)) ≡ cond b (Some n) (position_from test (n + 1) (map g xs))) [
    | true ↦ refl
    | false ↦ places (n + 1) xs
  ]

  place : (ks : List B) (xs : List A) → ks ≡ map g xs → option_map (λ r. r.0) (first_with_place (λ x. test (g x)) xs) ≡ position test ks
  place ks xs e = places 0 xs ∙ ap (position_from test 0) (sym e) ∙ sym (position_from-zero test ks)

  -- what is found stands at its place
  stands : (n : ℕ) (xs : List A) (r : ℕ × A) → first_from n (λ x. test (g x)) xs ≡ Some r → (j : ℕ) × (r.0 ≡ n + j) × (slice_get xs j ≡ Some r.1)
  stands n [] r e = cc
  stands n (x ∷ xs) r e =
      elim (test (g x)) as (λ b. cond b (Some (n, x)) (first_from (n + 1) (λ y. test (g y)) xs) ≡ Some r → (j : ℕ) × (r.0 ≡ n + j) × (slice_get (x ∷ xs) j ≡ Some r.1)) [
        | true ↦ λ t. (0, (let p : r.0 ≡ n = cc in omega (arith, p)), cc)
        | false ↦ λ t. let s = stands (n + 1) xs r t in (suc s.0, omega (arith, s.1), s.2)
      ] e

  -- and passes
  passes : (n : ℕ) (xs : List A) (r : ℕ × A) → first_from n (λ x. test (g x)) xs ≡ Some r → test (g r.1) ≡ true
  passes n [] r e = cc
  passes n (x ∷ xs) r e = by (test (g x)) refl (passes (n + 1) xs r)
    where
      at : (b : Bool) → test (g x) ≡ b → cond b (Some (n, x)) (first_from (n + 1) (λ y. test (g y)) xs) ≡ Some r
      at b t = sym (ap (λ c. cond c (Some (n, x)) (first_from (n + 1) (λ y. test (g y)) xs)) t) ∙ e

      by : (b : Bool) → test (g x) ≡ b → (first_from (n + 1) (λ y. test (g y)) xs ≡ Some r → test (g r.1) ≡ true) → test (g r.1) ≡ true
      by true t rest = let p : Some (n, x) ≡ Some r = at true t in let q : x ≡ r.1 = cc in ap (λ y. test (g y)) (sym q) ∙ t
      by false t rest = rest (at false t)

  settled : (xs : List A) (i : ℕ) (x : A) (o : Option (ℕ × A)) → slice_get xs i ≡ Some x → first_with_place (λ y. test (g y)) xs ≡ o → option_map (λ r. r.0) o ≡ Some i → o ≡ Some (i, x)
  settled xs i x None at e p = cc
  settled xs i x (Some r) at e p =
      let s = stands 0 xs r e in
      let here : r.0 ≡ i = cc in
      let there : s.0 ≡ i = omega (arith, s.1, here) in
      let same : Some r.1 ≡ Some x = sym s.2 ∙ ap (slice_get xs) there ∙ at in
      let value : r.1 ≡ x = cc in
      λ k. Some (here k, value k)

  pub found : (ks : List B) (xs : List A) → ks ≡ map g xs → (i : ℕ) (x : A) → position test ks ≡ Some i → slice_get xs i ≡ Some x → first_with_place (λ y. test (g y)) xs ≡ Some (i, x)
  found ks xs e i x p at = settled xs i x (first_with_place (λ y. test (g y)) xs) at refl (place ks xs e ∙ p)

  pub missing : (ks : List B) (xs : List A) → ks ≡ map g xs → position test ks ≡ None → first_with_place (λ y. test (g y)) xs ≡ None
  missing ks xs e p = settle (first_with_place (λ y. test (g y)) xs) (place ks xs e ∙ p)
    where
      settle : (o : Option (ℕ × A)) → option_map (λ r. r.0) o ≡ None → o ≡ None
      settle None q = refl
      settle (Some r) q = cc

equal : (o : Ordering) → is_eq o ≡ true → o ≡ Equal
equal Less e = cc
equal Equal e = refl
equal Greater e = cc

-- nothing is found where no name is the one
unfound : {A B : Type 0} (test : B → Bool) (g : A → B) (n : ℕ) (xs : List A) → is_none (first_from n (λ x. test (g x)) xs) ≡ not (list_any test (map g xs))
unfound test g n [] = refl
unfound test g n (x ∷ xs) = elim (test (g x)) as (λ b. is_none (cond b (Some (n, x)) (first_from (n + 1) (λ y. test (g y)) xs)) ≡ not (b || list_any test (map g xs))) [
  | true ↦ refl
  | false ↦ unfound test g (n + 1) xs
]

absent : {X : Type 0} (test : Name → Bool) (es : List (Name × X)) → list_any test (keys_of es) ≡ false → lookup test es ≡ None
absent test [] e = refl
absent test (x ∷ es) e = by (test x.0) refl (absent test es)
  where
    by : (b : Bool) → test x.0 ≡ b → (list_any test (keys_of es) ≡ false → lookup test es ≡ None) → lookup test (x ∷ es) ≡ None
    by true t rest = let p : true ≡ false = sym (ap (λ c. c || list_any test (keys_of es)) t) ∙ e in cc
    by false t rest = ap (λ c. cond c (Some x.1) (lookup test es)) t ∙ rest (sym (ap (λ c. c || list_any test (keys_of es)) t) ∙ e)

none_of : (a b : Bool) → a ≡ not b → a ≡ true → b ≡ false
none_of a true e t = cc
none_of a false e t = refl

-- ---- possreps, and their types
module _ (rs : List Representation) (rels : List (Named Header)) (cat : SchemaData) (seen : record { possreps = rs; relvars = rels } ≡ cat) (n : Name) (ks : List Name) where
  pub possrep_found : ks ≡ possrep_names rs → (i : ℕ) (r : Representation) → position (same_text n) ks ≡ Some i → slice_get rs i ≡ Some r → possrep_named cat n ≡ Some (i, r)
  possrep_found e i r p at = ap (λ (c : SchemaData). possrep_named c n) (sym seen) ∙ found (same_text n) (λ (q : Representation). q.possrep.name) ks rs e i r p at

  pub possrep_missing : ks ≡ possrep_names rs → position (same_text n) ks ≡ None → possrep_named cat n ≡ None
  possrep_missing e p = ap (λ (c : SchemaData). possrep_named c n) (sym seen) ∙ missing (same_text n) (λ (q : Representation). q.possrep.name) ks rs e p

  pub type_found : ks ≡ type_names rs → (i : ℕ) (r : Representation) → position (same_text n) ks ≡ Some i → slice_get rs i ≡ Some r → type_named cat n ≡ Some (i, r)
  type_found e i r p at = ap (λ (c : SchemaData). type_named c n) (sym seen) ∙ found (same_text n) (λ (q : Representation). q.possrep.ty) ks rs e i r p at

  pub type_missing : ks ≡ type_names rs → position (same_text n) ks ≡ None → type_named cat n ≡ None
  type_missing e p = ap (λ (c : SchemaData). type_named c n) (sym seen) ∙ missing (same_text n) (λ (q : Representation). q.possrep.ty) ks rs e p

both : (a b c : Bool) → a && (b && c) ≡ true → (b ≡ true) × (c ≡ true)
both true true true e = (refl, refl)
both true true false e = cc
both true false c e = cc
both false b c e = cc

-- a type that may be added has new names
module _ (rs : List Representation) (rels : List (Named Header)) (cat : SchemaData) (seen : record { possreps = rs; relvars = rels } ≡ cat) (r : Representation) (may : may_add cat r ≡ true) where
  pub type_is_new : (ks : List Name) → ks ≡ type_names rs → (n : Name) → n ≡ r.possrep.ty → list_any (same_text n) ks ≡ false
  type_is_new ks e n is =
      ap (λ m. list_any (same_text m) ks) is
      ∙ none_of _ _ (ap (λ (c : SchemaData). is_none (type_named c r.possrep.ty)) (sym seen) ∙ unfound (same_text r.possrep.ty) (λ (q : Representation). q.possrep.ty) 0 rs ∙ ap (λ ns. not (list_any (same_text r.possrep.ty) ns)) (sym e)) (both _ _ _ may).0

  pub possrep_is_new : (es : List (Name × Representation)) → keys_of es ≡ possrep_names rs → (n : Name) → n ≡ r.possrep.name → lookup (same_text n) es ≡ None
  possrep_is_new es e n is =
      ap (λ m. lookup (same_text m) es) is
      ∙ absent (same_text r.possrep.name) es (none_of _ _ (ap (λ (c : SchemaData). is_none (possrep_named c r.possrep.name)) (sym seen) ∙ unfound (same_text r.possrep.name) (λ (q : Representation). q.possrep.name) 0 rs ∙ ap (λ ns. not (list_any (same_text r.possrep.name) ns)) (sym e)) (both _ _ _ may).1)

-- the value of an entry
pub value_at : {X : Type 0} (es : List (Name × X)) (i : ℕ) (k : Name) (x : X) → slice_get es i ≡ Some (k, x) → slice_get (map (λ e. e.1) es) i ≡ Some x
value_at es i k x at = slice_get-map (λ e. e.1) es i ∙ ap (option_map (λ e. e.1)) at

-- ---- relvars by their entries
abbrev pub named : Name × Header → Named Header
named e = record { name = e.0; value = e.1 }

pub names_named : (es : List (Name × Header)) → keys_of es ≡ map (λ (a : Named Header). a.name) (map named es)
names_named [] = refl
names_named (e ∷ es) = ap (λ ns. e.0 ∷ ns) (names_named es)

unknown : (test : Name → Bool) (n : ℕ) (es : List (Name × Header)) → is_none (first_from n (λ (a : Named Header). test a.name) (map named es)) ≡ not (is_some (lookup test es))
unknown test n [] = refl
unknown test n (e ∷ es) = elim (test e.0) as (λ b. is_none (cond b (Some (n, named e)) (first_from (n + 1) (λ (a : Named Header). test a.name) (map named es))) ≡ not (is_some (cond b (Some e.1) (lookup test es)))) [
  | true ↦ refl
  | false ↦ unknown test (n + 1) es
]

module _ (rs : List Representation) (es : List (Name × Header)) (cat : SchemaData) (seen : record { possreps = rs; relvars = map named es } ≡ cat) (n : Name) where
  is_new_relvar : is_none (relvar_named cat n) ≡ not (is_some (lookup (same_text n) es))
  is_new_relvar = ap (λ (c : SchemaData). is_none (relvar_named c n)) (sym seen) ∙ unknown (same_text n) 0 es

  pub relvar_found : (i : ℕ) (k : Name) (g : Header) → position (same_text n) (keys_of es) ≡ Some i → slice_get es i ≡ Some (k, g) → relvar_named cat n ≡ Some (i, record { name = n; value = g })
  relvar_found i k g p at =
      let by_name : first_with_place (is_named n) (map named es) ≡ Some (i, named (k, g)) = found (same_text n) (λ (a : Named Header). a.name) (keys_of es) (map named es) (names_named es) i (named (k, g)) p (slice_get-map named es i ∙ ap (option_map named) at) in
      let same : n ≡ k = exact_bytes n k (equal _ (passes (same_text n) (λ (a : Named Header). a.name) 0 (map named es) (i, named (k, g)) by_name)) in
      ap (λ (c : SchemaData). relvar_named c n) (sym seen) ∙ by_name ∙ ap (λ m. Some (i, named (m, g))) (sym same)

  pub relvar_missing : position (same_text n) (keys_of es) ≡ None → relvar_named cat n ≡ None
  relvar_missing p = ap (λ (c : SchemaData). relvar_named c n) (sym seen) ∙ missing (same_text n) (λ (a : Named Header). a.name) (keys_of es) (map named es) (names_named es) p

  pub relvar_refused : (h : Header) (b : Bool) → b ≡ is_some (lookup (same_text n) es) → b ≡ true → relvar_added cat n h ≡ None
  relvar_refused h b e t = ap (λ c. where_true c (record cat { relvars = cat.relvars ++ named (n, h) ∷ [] })) (is_new_relvar ∙ ap not (sym e ∙ t))

  pub relvar_taken : (h : Header) (b : Bool) → b ≡ is_some (lookup (same_text n) es) → b ≡ false → (fs : List (Name × Header)) → fs ≡ es ++ (n, h) ∷ [] → relvar_added cat n h ≡ Some (record { possreps = rs; relvars = map named fs })
  relvar_taken h b e f fs is =
      ap (λ c. where_true c (record cat { relvars = cat.relvars ++ named (n, h) ∷ [] })) (is_new_relvar ∙ ap not (sym e ∙ f))
      ∙ ap (λ (c : SchemaData). Some (record c { relvars = c.relvars ++ named (n, h) ∷ [] })) (sym seen)
      ∙ ap (λ rels. Some (record { possreps = rs; relvars = rels })) (sym (ap (map named) is ∙ map-append named es ((n, h) ∷ [])))
