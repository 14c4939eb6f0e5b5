-- What is stored with the keys by which it is kept, place by place.
use Rattle.std.proofs.Common.{◌≡◌, ◌==◌, ℕ, true, false, cond, zero, suc, ◌+◌, ◌<◌, ◌≤◌, ◌⊎◌, List, [], ◌∷◌, ◌++◌, length, map, get_or, Option, None, Some, IfOk, IfSome, inl, inr, Result, Ok, Err, OnOk, OnErr, slice_get, refl, ap, sym, ◌∙◌, subst, arith}
use Rattle.std.specs.Prelude.{option_map, slice_set}
use Rattle.std.specs.List.{find}
use Rattle.std.specs.Option.{option_flatten}
use Rattle.std.proofs.Math.ListN.{get_or-map}
use Rattle.std.proofs.Math.Seq.{map-set_same}
use Rattle.std.proofs.lemmas.List.{length-map, map-append, map-set}
use Rattle.std.proofs.lemmas.Option.{slice_get-map}
use Rattle.td_values.specs.Rows.{RowsData}
use Rattle.td_relations.specs.Deltas.{DeltaData}
use Rattle.td_bases.specs.Bases.{BaseData, changed_base}
use Rattle.td_headings.specs.Catalogues.{CatalogueData}
use Rattle.td_semantics.specs.Databases.{stored_relvars}
use Rattle.td_relvars.specs.Changed.{change}
use Rattle.td_relvars.specs.Keys.{key_at}
use Rattle.td_relvars.specs.ForProofs.Kept.{AreFirst, copies_of, keys_of, rows_copied, rows_of}
use Rattle.td_relvars.specs.Parts.{copy_at}
use Rattle.td_relvars.proofs.Places.{set_changed, stands}

abbrev row : BaseData → RowsData
row b = b.rows

abbrev key : BaseData → List (List ℕ)
key b = b.key

-- ---- one base in place of another
pub rows_set : (xs : List (Option BaseData)) (n : ℕ) (b : BaseData) → rows_of (slice_set xs n (Some b)) ≡ slice_set (rows_of xs) n (Some b.rows)
rows_set xs n b = map-set (option_map row) xs n (Some b)

pub keys_set : (xs : List (Option BaseData)) (n : ℕ) (b : BaseData) → keys_of (slice_set xs n (Some b)) ≡ slice_set (keys_of xs) n (Some b.key)
keys_set xs n b = map-set (option_map key) xs n (Some b)

module _ (n : ℕ) (xs : List (Option BaseData)) (x : Option BaseData) (b : BaseData) (at : x ≡ get_or xs n x) (is : x ≡ Some b) where
  pub stands_kept : (r : RowsData) → stored_relvars (rows_of xs) n ≡ Ok r → stored_relvars (rows_of xs) n ≡ Ok b.rows
  stands_kept r has = stands n (rows_of xs) (option_map row x) b.rows r (ap (option_map row) at ∙ sym (get_or-map (option_map row) xs n x)) (ap (option_map row) is) has

  -- the same key
  pub keys_stay : (c : BaseData) → c.key ≡ b.key → keys_of (slice_set xs n (Some c)) ≡ keys_of xs
  keys_stay c same = map-set_same (option_map key) xs n (Some c) x (ap Some same ∙ ap (option_map key) (sym is ∙ at))

  pub keys_stay_on : {E : Type 0} (a : Result (Unit {0}) E) (c : BaseData) (d : DeltaData) → OnOk a (c ≡ changed_base b d) → OnOk a (keys_of (slice_set xs n (Some c)) ≡ keys_of xs)
  keys_stay_on (Ok u) c d same = keys_stay c (ap key same)
  keys_stay_on (Err e) c d same = tt

pub base_changed : {E : Type 0} (a : Result (Unit {0}) E) (n : ℕ) (xs : List (Option BaseData)) (b c : BaseData) (d : DeltaData) → stored_relvars (rows_of xs) n ≡ Ok b.rows → OnOk a (c ≡ changed_base b d)
    → OnOk a (rows_of (slice_set xs n (Some c)) ≡ change n d (rows_of xs))
base_changed {E} (Ok u) n xs b c d has is = rows_set xs n c ∙ set_changed {E = E} (Ok u) n (rows_of xs) b.rows c.rows d has (ap row is)
base_changed (Err e) n xs b c d has is = tt

-- ---- first keys
first_put : (n m : ℕ) (k w : List (List ℕ)) (ks : List (Option (List (List ℕ)))) → slice_get (slice_set ks n (Some k)) m ≡ Some (Some w) → ((n ≡ m) × (w ≡ k)) ⊎ (slice_get ks m ≡ Some (Some w))
first_put n m k w [] h = inr h
first_put zero zero k w (x ∷ ks) h = inl (refl, cc)
first_put zero (suc m) k w (x ∷ ks) h = inr h
first_put (suc n) zero k w (x ∷ ks) h = inr h
first_put (suc n) (suc m) k w (x ∷ ks) h = elim (first_put n m k w ks h) [ inl s ↦ inl (ap suc s.0, s.1) | inr there ↦ inr there ]

pub first_set : (c : CatalogueData) (xs : List (Option BaseData)) (n : ℕ) (b : BaseData) → AreFirst c (keys_of xs) → b.key ≡ key_at c n → AreFirst c (keys_of (slice_set xs n (Some b)))
first_set c xs n b are is m w h = elim (first_put n m b.key w (keys_of xs) (ap (λ ks. slice_get ks m) (sym (keys_set xs n b)) ∙ h)) [
  | inl s ↦ s.1 ∙ is ∙ ap (key_at c) s.0
  | inr there ↦ are m w there
]

pub first_stay : (c : CatalogueData) (xs ys : List (Option BaseData)) → keys_of ys ≡ keys_of xs → AreFirst c (keys_of xs) → AreFirst c (keys_of ys)
first_stay c xs ys same are = subst (AreFirst c) (sym same) are

-- where it was changed, or memory was wanting
pub first_after : {E : Type 0} (c : CatalogueData) (xs ys : List (Option BaseData)) (a : Result (Unit {0}) E) → OnOk a (keys_of ys ≡ keys_of xs) → OnErr a (ys ≡ xs) → AreFirst c (keys_of xs) → AreFirst c (keys_of ys)
first_after c xs ys (Ok u) same err are = first_stay c xs ys same are
first_after c xs ys (Err e) same err are = first_stay c xs ys (ap keys_of err) are

pub rows_kept : {E : Type 0} (a : Result (Unit {0}) E) (xs ys : List (Option BaseData)) → OnErr a (ys ≡ xs) → OnErr a (rows_of ys ≡ rows_of xs)
rows_kept (Ok u) xs ys err = tt
rows_kept (Err e) xs ys err = ap rows_of err

-- the key of the one that is there
pub first_there : (c : CatalogueData) (xs : List (Option BaseData)) (n : ℕ) (b : BaseData) → AreFirst c (keys_of xs) → slice_get xs n ≡ Some (Some b) → b.key ≡ key_at c n
first_there c xs n b are there = are n b.key (slice_get-map (option_map key) xs n ∙ ap (option_map (option_map key)) there)

-- one more at the end
pushed : (m : ℕ) (w : List (List ℕ)) (o : Option (List (List ℕ))) (ks : List (Option (List (List ℕ)))) → slice_get (ks ++ o ∷ []) m ≡ Some (Some w) → (slice_get ks m ≡ Some (Some w)) ⊎ ((m ≡ length ks) × (o ≡ Some w))
pushed zero w o [] h = inr (refl, cc)
pushed (suc m) w o [] h = cc
pushed zero w o (x ∷ ks) h = inl h
pushed (suc m) w o (x ∷ ks) h = elim (pushed m w o ks h) [ inl there ↦ inl there | inr s ↦ inr (ap suc s.0, s.1) ]

pub first_pushed : (c : CatalogueData) (xs ys : List (Option BaseData)) (n : ℕ) (o : Option BaseData) → n ≡ length xs → ys ≡ xs ++ o ∷ [] → IfSome o (λ b. b.key ≡ key_at c n) → AreFirst c (keys_of xs) → AreFirst c (keys_of ys)
first_pushed c xs ys n o many is of are m w h =
    elim (pushed m w (option_map key o) (keys_of xs) (ap (λ ks. slice_get ks m) (sym (ap keys_of is ∙ map-append (option_map key) xs (o ∷ []))) ∙ h)) [
      | inl there ↦ are m w there
      | inr s ↦ by o s.1 of ∙ ap (key_at c) (many ∙ sym (length-map xs (option_map key)) ∙ sym s.0)
    ]
  where
    by : (o : Option BaseData) → option_map key o ≡ Some w → IfSome o (λ b. b.key ≡ key_at c n) → w ≡ key_at c n
    by None e of = cc
    by (Some b) e of = let same : b.key ≡ w = cc in sym same ∙ of

pub none_first : (c : CatalogueData) → AreFirst c []
none_first c n k h = cc

-- ---- what is stored at a place
pub stored_rows : (xs : List (Option BaseData)) (n : ℕ) (o : Option (Option BaseData)) → slice_get xs n ≡ o → option_flatten (slice_get (rows_of xs) n) ≡ option_map row (option_flatten o)
stored_rows xs n o e = ap option_flatten (slice_get-map (option_map row) xs n ∙ ap (option_map (option_map row)) e) ∙ by o
  where
    by : (o : Option (Option BaseData)) → option_flatten (option_map (option_map row) o) ≡ option_map row (option_flatten o)
    by None = refl
    by (Some x) = refl

pub flat : (o : Option (Option BaseData)) (b : BaseData) → option_flatten o ≡ Some b → o ≡ Some (Some b)
flat None b e = cc
flat (Some x) b e = ap Some e

-- ---- the copy of a place
pub copied_row : (ps : List (ℕ × BaseData)) (n : ℕ) → copy_at (copies_of ps) n ≡ option_map (λ (p : ℕ × BaseData). p.1.rows) (find (λ (p : ℕ × BaseData). p.0 == n) ps)
copied_row [] n = refl
copied_row (p ∷ ps) n = elim (p.0 == n) as (λ b. option_map (λ (q : ℕ × RowsData). q.1) (cond b (Some (rows_copied p)) (find (λ (q : ℕ × RowsData). q.0 == n) (copies_of ps))) ≡ option_map (λ (q : ℕ × BaseData). q.1.rows) (cond b (Some p) (find (λ (q : ℕ × BaseData). q.0 == n) ps))) [
  | true ↦ refl
  | false ↦ copied_row ps n
]

-- ---- a base that is made of a relation
pub keyed_on : {E : Type 0} (a : Result BaseData E) (r s : RowsData) (k : List (List ℕ)) → r ≡ s → IfOk a (λ b. b ≡ record { rows = r; key = k }) → IfOk a (λ b. b ≡ record { rows = s; key = k })
keyed_on (Ok b) r s k same is = is ∙ ap (λ (q : RowsData). record { rows = q; key = k }) same
keyed_on (Err e) r s k same is = tt
