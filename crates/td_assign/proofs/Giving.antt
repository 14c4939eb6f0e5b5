-- What targets are given.
use Rattle.std.proofs.Common.{◌≡◌, ℕ, suc, ◌+◌, ◌==◌, Option, Bool, true, false, cond, if◌then◌else◌, eqb-true, ne_eqb, List, [], ◌∷◌, ◌++◌, None, Some, position, slice_set, refl, ap, sym, ◌∙◌, subst, arith}
use Rattle.std.specs.List.{All, position_from}
use Rattle.std.proofs.lemmas.Bool.{eqb-false}
use Rattle.std.proofs.lemmas.Iterator.Adapters.{position_from-zero}
use Rattle.std.proofs.lemmas.List.Elements.{All-cons, All-head, All-nil, All-tail}
use Rattle.td_values.specs.Rows.{RowsData}
use Rattle.td_headings.specs.Catalogues.{CatalogueData}
use Rattle.td_typing.proofs.KindLemmas.{some_same}
use Rattle.td_semantics.specs.Databases.{Belongs}
use Rattle.td_semantics.specs.Given.{gives}
use Rattle.td_assign.specs.ForProofs.Lists.{given, given_to}
use Rattle.td_assign.specs.ForProofs.Given.{AreChanges, AreDistinct, IsChange, is_target}
use Rattle.td_assign.specs.declared.changes.Change.{Change}

-- ---- where the target stands
module _ (n : ℕ) (r : RowsData) where
  abbrev new : Change
  new = record { target = n; relation = r }

  put_from : (m : ℕ) (xs : List Change) (k : ℕ) → position_from (is_target n) m xs ≡ Some k → (j : ℕ) × (k ≡ m + j) × (slice_set xs j new ≡ given n r xs)
  put_from m [] k h = cc
  put_from m (x ∷ xs) k h = by (is_target n x) h (put_from (m + 1) xs k)
    where
      by : (b : Bool) → cond b (Some m) (position_from (is_target n) (m + 1) xs) ≡ Some k → (position_from (is_target n) (m + 1) xs ≡ Some k → (j : ℕ) × (k ≡ m + 1 + j) × (slice_set xs j new ≡ given n r xs)) → (j : ℕ) × (k ≡ m + j) × (slice_set (x ∷ xs) j new ≡ (if b then new ∷ xs else x ∷ given n r xs))
      by true e later = let same = some_same m k e in (0, (let z : k ≡ m + 0 = omega (arith, same) in z), refl)
      by false e later = let l = later e in let at = l.1 in (suc l.0, (let z : k ≡ m + suc l.0 = omega (arith, at) in z), ap (λ ys. x ∷ ys) l.2)

  pub put_found : (xs : List Change) (k : ℕ) → position (is_target n) xs ≡ Some k → slice_set xs k new ≡ given n r xs
  put_found xs k h =
      let l = put_from 0 xs k (sym (position_from-zero (is_target n) xs) ∙ h) in
      let at = l.1 in
      let same : k ≡ l.0 = omega (arith, at) in
      ap (λ j. slice_set xs j new) same ∙ l.2

  behind_from : (m : ℕ) (xs : List Change) → position_from (is_target n) m xs ≡ None → xs ++ new ∷ [] ≡ given n r xs
  behind_from m [] h = refl
  behind_from m (x ∷ xs) h = by (is_target n x) h (behind_from (m + 1) xs)
    where
      by : (b : Bool) → cond b (Some m) (position_from (is_target n) (m + 1) xs) ≡ None → (position_from (is_target n) (m + 1) xs ≡ None → xs ++ new ∷ [] ≡ given n r xs) → x ∷ xs ++ new ∷ [] ≡ (if b then new ∷ xs else x ∷ given n r xs)
      by true e later = cc
      by false e later = ap (λ ys. x ∷ ys) (later e)

  pub put_behind : (xs : List Change) → position (is_target n) xs ≡ None → xs ++ new ∷ [] ≡ given n r xs
  put_behind xs h = behind_from 0 xs (sym (position_from-zero (is_target n) xs) ∙ h)

  -- ---- what is given stays changes
  module _ (c : CatalogueData) (belongs : Belongs c n r) where
    each_given : (xs : List Change) → All (IsChange c) xs → All (IsChange c) (given n r xs)
    each_given [] each = All-cons (IsChange c) new [] belongs each
    each_given (x ∷ xs) each = by (is_target n x) (each_given xs (All-tail (IsChange c) x xs each))
      where
        by : (b : Bool) → All (IsChange c) (given n r xs) → All (IsChange c) (if b then new ∷ xs else x ∷ given n r xs)
        by true later = All-cons (IsChange c) new xs belongs (All-tail (IsChange c) x xs each)
        by false later = All-cons (IsChange c) x (given n r xs) (All-head (IsChange c) x xs each) later

  others_stay : (m : ℕ) → (n ≡ m → ⊥) → (xs : List Change) → given_to (given n r xs) m ≡ given_to xs m
  others_stay m apart [] = ap (λ b. if b then Some r else None) (ne_eqb n m apart)
  others_stay m apart (x ∷ xs) = by (x.target == n) refl (others_stay m apart xs)
    where
      by : (b : Bool) → x.target == n ≡ b → given_to (given n r xs) m ≡ given_to xs m → given_to (if b then new ∷ xs else x ∷ given n r xs) m ≡ (if x.target == m then Some x.relation else given_to xs m)
      by true e later =
          let same = eqb-true x.target n e in
          ap (λ b. if b then Some r else given_to xs m) (ne_eqb n m apart) ∙ sym (ap (λ b. if b then Some x.relation else given_to xs m) (ne_eqb x.target m (λ f. apart (sym same ∙ f))))
      by false e later = ap (λ o. if x.target == m then Some x.relation else o) later

  distinct_given : (xs : List Change) → AreDistinct xs → AreDistinct (given n r xs)
  distinct_given [] distinct = (refl, tt)
  distinct_given (x ∷ xs) distinct = by (x.target == n) refl (distinct_given xs distinct.1)
    where
      by : (b : Bool) → x.target == n ≡ b → AreDistinct (given n r xs) → AreDistinct (if b then new ∷ xs else x ∷ given n r xs)
      by true e later = (subst (λ m. given_to xs m ≡ None) (eqb-true x.target n e) distinct.0, distinct.1)
      by false e later = (others_stay x.target (λ same. eqb-false x.target n e (sym same)) xs ∙ distinct.0, later)

  pub are_given : (c : CatalogueData) → Belongs c n r → (xs : List Change) → AreChanges c xs → AreChanges c (given n r xs)
  are_given c belongs xs are = record { each = each_given c belongs xs are.each; distinct = distinct_given xs are.distinct }

-- ---- the list gives what is meant
same_test : (k n m : ℕ) (q r : RowsData) (o : Option RowsData) → k == n ≡ true → (if n == m then Some r else o) ≡ (if n == m then Some r else (if k == m then Some q else o))
same_test k n m q r o e = by (n == m) refl
  where
    by : (b : Bool) → n == m ≡ b → (if b then Some r else o) ≡ (if b then Some r else (if k == m then Some q else o))
    by true f = refl
    by false f = sym (ap (λ (t : Bool). if t then Some q else o) (ap (λ j. j == m) (eqb-true k n e) ∙ f))

other_test : (k n m : ℕ) (q r : RowsData) (o : Option RowsData) → k == n ≡ false → (if k == m then Some q else (if n == m then Some r else o)) ≡ (if n == m then Some r else (if k == m then Some q else o))
other_test k n m q r o e = by (k == m) (n == m) refl refl
  where
    by : (a b : Bool) → k == m ≡ a → n == m ≡ b → (if a then Some q else (if b then Some r else o)) ≡ (if b then Some r else (if a then Some q else o))
    by true true f g = absurd (eqb-false k n e (eqb-true k m f ∙ sym (eqb-true n m g)))
    by true false f g = refl
    by false true f g = refl
    by false false f g = refl

given_at : (n : ℕ) (r : RowsData) (xs : List Change) (m : ℕ) → given_to (given n r xs) m ≡ gives n r (given_to xs) m
given_at n r [] m = refl
given_at n r (x ∷ xs) m = by (x.target == n) refl (given_at n r xs m)
  where
    by : (b : Bool) → x.target == n ≡ b → given_to (given n r xs) m ≡ gives n r (given_to xs) m → given_to (if b then record { target = n; relation = r } ∷ xs else x ∷ given n r xs) m ≡ gives n r (given_to (x ∷ xs)) m
    by true e later = same_test x.target n m x.relation r (given_to xs m) e
    by false e later = ap (λ o. if x.target == m then Some x.relation else o) later ∙ other_test x.target n m x.relation r (given_to xs m) e

pub given_gives : (n : ℕ) (r : RowsData) (xs : List Change) → given_to (given n r xs) ≡ gives n r (given_to xs)
given_gives n r xs = λ i m. given_at n r xs m i

pub none_given : (c : CatalogueData) → AreChanges c []
none_given c = record { each = All-nil (IsChange c); distinct = tt }
