-- The relvars with all targets replaced are those of a database.
use Rattle.std.proofs.Common.{◌≡◌, ℕ, zero, suc, pred, ◌<◌, ◌==◌, Bool, true, false, if◌then◌else◌, eqb-true, eq-eqb, ne_eqb, true≢false, List, [], ◌∷◌, length, slice_get, Option, None, Some, Ok, refl, ap, sym, ◌∙◌, subst, arith}
use Rattle.std.specs.List.{All}
use Rattle.std.specs.Option.{option_flatten}
use Rattle.std.proofs.lemmas.Bool.{eqb-false}
use Rattle.std.proofs.lemmas.List.Elements.{All-head, All-tail}
use Rattle.td_values.specs.Headings.{Header}
use Rattle.td_values.specs.Rows.{RowsData}
use Rattle.td_syntax.specs.declared.tree.Named.{Named}
use Rattle.td_typing.proofs.KindLemmas.{some_same}
use Rattle.td_headings.specs.Catalogues.{CatalogueData}
use Rattle.td_headings.specs.Reached.{is_base}
use Rattle.td_type_soundness.specs.Meanings.{GivesRelation, IsRelationOver}
use Rattle.td_semantics.specs.Trees.{AreBases}
use Rattle.td_semantics.specs.Stored.{AreStored}
use Rattle.td_integrity.proofs.Judged.{are_bases}
use Rattle.td_semantics.specs.Databases.{Belongs, IsDatabase, Stored, at_place, with_relation, stored_relvars}
use Rattle.td_relvars.proofs.Stores.{base_within}
use Rattle.td_semantics.specs.Given.{Given, nothing_given, or_old, or_stored, replaced, seen, with_given}
use Rattle.td_assign.specs.ForProofs.Given.{AreChanges, IsChange}
use Rattle.td_assign.specs.ForProofs.Lists.{given_to}
use Rattle.td_assign.specs.declared.changes.Change.{Change}

-- ---- the places of a store
pub given_length : (g : Given) (xs : Stored) → length (with_given g xs) ≡ length xs
given_length g [] = refl
given_length g (x ∷ xs) = ap suc (given_length (λ n. g (suc n)) xs)

-- a place that is given nothing keeps what it has
pub given_none : (g : Given) (xs : Stored) (n : ℕ) → g n ≡ None → slice_get (with_given g xs) n ≡ slice_get xs n
given_none g [] n h = refl
given_none g (x ∷ xs) zero h = ap (λ o. Some (or_stored o x)) h
given_none g (x ∷ xs) (suc n) h = given_none (λ m. g (suc m)) xs n h

given_some : (g : Given) (xs : Stored) (n : ℕ) (r : RowsData) → n < length xs → g n ≡ Some r → slice_get (with_given g xs) n ≡ Some (Some r)
given_some g [] n r lt h = absurd (omega arith)
given_some g (x ∷ xs) zero r lt h = ap (λ o. Some (or_stored o x)) h
given_some g (x ∷ xs) (suc n) r lt h = given_some (λ m. g (suc m)) xs n r (omega arith) h

-- ---- what a list of changes gives belongs to the places
module _ (c : CatalogueData) where
  abbrev IsOf : Stored → Type 0
  IsOf stored = IsDatabase (record { catalogue = c; stored = stored })

  given_belongs : (cs : List Change) → All (IsChange c) cs → (n : ℕ) (r : RowsData) → given_to cs n ≡ Some r → Belongs c n r
  given_belongs [] each n r h = cc
  given_belongs (x ∷ cs) each n r h = by (x.target == n) refl h (given_belongs cs (All-tail (IsChange c) x cs each) n r) (All-head (IsChange c) x cs each)
    where
      by : (b : Bool) → x.target == n ≡ b → (if b then Some x.relation else given_to cs n) ≡ Some r → (given_to cs n ≡ Some r → Belongs c n r) → IsChange c x → Belongs c n r
      by true e is later here = subst (Belongs c n) (one x.relation is) (subst (λ m. Belongs c m x.relation) (eqb-true x.target n e) here)
        where
          one : (q : RowsData) → Some q ≡ Some r → q ≡ r
          one q same = cc
      by false e is later here = later is

  module _ (g : Given) (each : (n : ℕ) (r : RowsData) → g n ≡ Some r → Belongs c n r) (stored : Stored) (is : IsOf stored) where
    within : (n : ℕ) → is_base (slice_get c.origins n) ≡ true → n < length stored
    within n base = let lt = base_within c.origins n base in let count = is.each in omega (arith, lt, count)

    replaced_at : (n : ℕ) → stored_relvars (with_given g stored) n ≡ replaced g (stored_relvars stored) n
    replaced_at n = by (g n) refl
      where
        by : (o : Option RowsData) → g n ≡ o → stored_relvars (with_given g stored) n ≡ or_old o (stored_relvars stored n)
        by None h = ap at_place (given_none g stored n h)
        by (Some r) h = ap at_place (given_some g stored n r (within n (each n r h).stored) h)

    pub given_replaced : replaced g (stored_relvars stored) ≡ stored_relvars (with_given g stored)
    given_replaced = λ i n. sym (replaced_at n) i

    given_stored : AreStored c (stored_relvars (with_given g stored))
    given_stored n v base at = by (g n) refl
      where
        by : (o : Option RowsData) → g n ≡ o → (r : RowsData) × (stored_relvars (with_given g stored) n ≡ Ok r) × IsRelationOver c.schema v.value r
        by None h = let k = is.stored n v base at in (k.0, ap at_place (given_none g stored n h) ∙ k.1, k.2)
        by (Some r) h =
            let b = each n r h in
            (r, ap at_place (given_some g stored n r (within n base) h), subst (λ (w : Named Header). IsRelationOver c.schema w.value r) (some_same b.relvar v (sym b.there ∙ at)) b.relation)

    nothing_given_of_virtual : (n : ℕ) → is_base (slice_get c.origins n) ≡ false → option_flatten (slice_get (with_given g stored) n) ≡ None
    nothing_given_of_virtual n virtual = by (g n) refl
      where
        by : (o : Option RowsData) → g n ≡ o → option_flatten (slice_get (with_given g stored) n) ≡ None
        by None h = ap option_flatten (given_none g stored n h) ∙ is.nothing_else n virtual
        by (Some r) h = absurd (true≢false (sym (each n r h).stored ∙ virtual))

    pub given_is : IsOf (with_given g stored)
    given_is = record {
      defined = is.defined;
      each = given_length g stored ∙ is.each;
      stored = given_stored;
      nothing_else = nothing_given_of_virtual;
    }

    pub bases_seen : (t : ℕ) → AreBases c (seen g t (stored_relvars stored))
    bases_seen t n v base at = by (t == n)
      where
        by : (b : Bool) → GivesRelation c.schema v.value (if b then or_old (g n) (stored_relvars stored n) else stored_relvars stored n)
        by true = are_bases c (replaced g (stored_relvars stored)) (subst (AreStored c) (sym given_replaced) given_stored) n v base at
        by false = are_bases c (stored_relvars stored) is.stored n v base at

  module _ (cs : List Change) (are : AreChanges c cs) (stored : Stored) (is : IsOf stored) where
    pub is_after : IsOf (with_given (given_to cs) stored)
    is_after = given_is (given_to cs) (given_belongs cs are.each) stored is

    pub all_replaced : replaced (given_to cs) (stored_relvars stored) ≡ stored_relvars (with_given (given_to cs) stored)
    all_replaced = given_replaced (given_to cs) (given_belongs cs are.each) stored is

    pub replaced_stored : AreStored c (replaced (given_to cs) (stored_relvars stored))
    replaced_stored = subst (AreStored c) (sym all_replaced) is_after.stored

    pub seen_bases : (t : ℕ) → AreBases c (seen (given_to cs) t (stored_relvars stored))
    seen_bases = bases_seen (given_to cs) (given_belongs cs are.each) stored is

-- ---- one target after the other
pub given_nothing : (xs : Stored) → with_given nothing_given xs ≡ xs
given_nothing [] = refl
given_nothing (x ∷ xs) = ap (λ ys. x ∷ ys) (given_nothing xs)

zero_suc : (n : ℕ) → zero == suc n ≡ false
zero_suc n = ne_eqb zero (suc n) (λ e. let no : zero ≡ suc n = e in omega (arith, no))

suc_suc : (t n : ℕ) → suc t == suc n ≡ t == n
suc_suc t n = by (t == n) refl
  where
    by : (b : Bool) → t == n ≡ b → suc t == suc n ≡ b
    by true e = eq-eqb (suc t) (suc n) (ap suc (eqb-true t n e))
    by false e = ne_eqb (suc t) (suc n) (λ h. eqb-false t n e (ap pred h))

abbrev first : ℕ → RowsData → Given → Given
first t r g n = if t == n then Some r else g n

behind_zero : (r : RowsData) (g : Given) → ◌≡◌ {A = Given} (λ n. first zero r g (suc n)) (λ n. g (suc n))
behind_zero r g = λ i n. ap (λ b. if b then Some r else g (suc n)) (zero_suc n) i

behind_suc : (t : ℕ) (r : RowsData) (g : Given) → ◌≡◌ {A = Given} (λ n. first (suc t) r g (suc n)) (first t r (λ n. g (suc n)))
behind_suc t r g = λ i n. ap (λ b. if b then Some r else g (suc n)) (suc_suc t n) i

pub put_first : (t : ℕ) (r : RowsData) (g : Given) (xs : Stored) → g t ≡ None → with_given (first t r g) xs ≡ with_given g (with_relation t r xs)
put_first t r g [] h = refl
put_first zero r g (x ∷ xs) h =
    ap (λ o. or_stored o x ∷ with_given (λ n. first zero r g (suc n)) xs) (ap (λ b. if b then Some r else g zero) (eq-eqb zero zero refl))
    ∙ ap (λ (f : Given). Some r ∷ with_given f xs) (behind_zero r g)
    ∙ ap (λ o. o ∷ with_given (λ n. g (suc n)) xs) (sym (ap (λ o. or_stored o (Some r)) h))
put_first (suc t) r g (x ∷ xs) h =
    ap (λ o. or_stored o x ∷ with_given (λ n. first (suc t) r g (suc n)) xs) (ap (λ b. if b then Some r else g zero) (ne_eqb (suc t) zero (λ e. let no : suc t ≡ zero = e in omega (arith, no))))
    ∙ ap (λ (f : Given). or_stored (g zero) x ∷ with_given f xs) (behind_suc t r g)
    ∙ ap (λ ys. or_stored (g zero) x ∷ ys) (put_first t r (λ n. g (suc n)) xs h)
