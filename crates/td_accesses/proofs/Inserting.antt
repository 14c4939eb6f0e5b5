-- Two insertions into one relvar may be exchanged.
use Rattle.std.proofs.Common.{◌≡◌, ◌⊎◌, ⊎_elim, inl, inr, if◌then◌else◌, ℕ, zero, suc, Bool, true, false, List, [], ◌∷◌, None, Some, slice_get, Ok, refl, ap, sym, ◌∙◌, subst, eq-eqb, ne_eqb, not, ◌&&◌, ◌||◌, arith}
use Rattle.std.specs.FinSet as set
use Rattle.std.specs.List.{Contains}
use Rattle.std.specs.List.Sorted.{IsStrictlySortedBy}
use Rattle.std.proofs.lemmas.Bool.{cases_eq}
use Rattle.std.proofs.lemmas.List.Elements.{Contains-append_right}
use Rattle.td_values.specs.Data.{Attrs}
use Rattle.td_values.specs.Order.{attrs_order}
use Rattle.td_values.specs.Proving.Total.{attrs_order_total, attrs_tied}
use Rattle.td_values.specs.Rows.{AreRows, RowsData}
use Rattle.td_tuples.specs.Parts.{Fits}
use Rattle.td_relations.specs.Deltas.{DeltaData, IsDifference}
use Rattle.td_relations.specs.Sets.{Has, IsRelationOf, body}
use Rattle.td_relations.proofs.Members.{relation_of_is}
use Rattle.td_relations.proofs.Predicates.{by_predicate, one_relation}
use Rattle.td_algebra.specs.Functions.{union_of}
use Rattle.td_algebra.specs.Keys.{TellApart}
use Rattle.td_algebra.specs.Raising.{and_then}
use Rattle.td_algebra.proofs.Bridges.{union_is}
use Rattle.td_algebra.proofs.Lists.{all_in, in_all}
use Rattle.td_algebra.proofs.Made.{has_in, in_has}
use Rattle.td_headings.specs.Catalogues.{CatalogueData}
use Rattle.td_headings.specs.Reached.{is_base}
use Rattle.td_headings.specs.declared.defined.Test.{Test}
use Rattle.td_headings.specs.declared.defined.Test.TheVariants as test
use Rattle.td_type_soundness.specs.Meanings.{IsTupleOver}
use Rattle.td_typed_trees.specs.declared.tree.Typed.{Typed}
use Rattle.td_meaning.specs.Mean.{Relvars}
use Rattle.td_incremental.specs.Growth.{AgreeBeside, AgreeOn, Gains, Grows, IsWatched, narrowed}
use Rattle.td_incremental.specs.Safety.{IsSafe}
use Rattle.td_incremental.proofs.Narrowing.{growth_keeps_safe, judged_by_reads, watched_by_inserts}
use Rattle.td_integrity.proofs.Apart.{keys_apart}
use Rattle.td_semantics.specs.Databases.{DatabaseData, IsDatabase, IsLegal, Stored, at_place, stored_relvars}
use Rattle.td_semantics.specs.Differences.{AreDifferences, Differs}
use Rattle.td_semantics.specs.Given.{Given, gives, nothing_given, or_old, or_stored, with_given}
use Rattle.td_semantics.specs.Tests.{AreLegal, failing, is_key, judgement, or_behind}
use Rattle.td_semantics.specs.declared.outcome.Outcome.{Outcome}
use Rattle.td_accesses.specs.Commuting.{AllJudgeGrowth, DifferByKeys, InsertApart, JudgesGrowth}
use Rattle.td_insertions.proofs.Putting.{looked_up}
use Rattle.td_accesses.specs.Laws.{Goes}
use Rattle.td_accesses.proofs.Exchanging.{Exchange, LeadsTo, exchanged, fails, insertion_leads, ok_same}

-- ---- unions
module _ (r s : RowsData) where
  pub of_first : (a : Attrs) → Has r a → Has (union_of r s) a
  of_first a h = (union_is r s).all a (inl h)

  pub of_second : (a : Attrs) → Has s a → Has (union_of r s) a
  of_second a h = (union_is r s).all a (inr h)

  -- with nothing new it is the first
  nothing_new : IsStrictlySortedBy attrs_order r.tuples → ((a : Attrs) → Has s a → Has r a) → union_of r s ≡ r
  nothing_new up within =
      one_relation r.heading (λ a. Has r a) (union_of r s) r
      (by_predicate r.heading (λ a. Has r a ⊎ Has s a) (λ a. Has r a) (union_of r s) (union_is r s) (λ a. (λ e. ⊎_elim (λ h. h) (within a) e, inl)))
      (record { heading = refl; only = λ a h. h; all = λ a h. h; ascending = up })

  pub fits_both : ((a : Attrs) → Has r a → Fits r.heading a) → ((a : Attrs) → Has s a → Fits r.heading a) → AreRows (union_of r s).heading (union_of r s).tuples
  fits_both first second =
      let is = union_is r s in
      record {
        fit = in_all (Fits (union_of r s).heading) (union_of r s).tuples (λ a m. subst (λ h. Fits h a) (sym is.heading) (⊎_elim (first a) (second a) (is.only a (in_has (union_of r s) a m))));
        ascending = is.ascending;
      }

module _ (r s t : RowsData) where
  three : IsRelationOf r.heading (λ a. Has r a ⊎ (Has s a ⊎ Has t a)) (union_of (union_of r s) t)
  three =
      let inner = union_is r s in
      let outer = union_is (union_of r s) t in
      record {
        heading = outer.heading ∙ inner.heading;
        only = λ a h. ⊎_elim (λ p. ⊎_elim (λ q. inl q) (λ q. inr (inl q)) (inner.only a p)) (λ q. inr (inr q)) (outer.only a h);
        all = λ a h. outer.all a (⊎_elim (λ p. inl (inner.all a (inl p))) (λ q. ⊎_elim (λ p. inl (inner.all a (inr p))) (λ p. inr p) q) h);
        ascending = outer.ascending;
      }

either_way : (r s t : RowsData) → union_of (union_of r s) t ≡ union_of (union_of r t) s
either_way r s t =
    one_relation r.heading (λ a. Has r a ⊎ (Has s a ⊎ Has t a)) (union_of (union_of r s) t) (union_of (union_of r t) s) (three r s t)
    (by_predicate r.heading (λ a. Has r a ⊎ (Has t a ⊎ Has s a)) (λ a. Has r a ⊎ (Has s a ⊎ Has t a)) (union_of (union_of r t) s) (three r t s)
    (λ a. (turn (Has r a) (Has t a) (Has s a), turn (Has r a) (Has s a) (Has t a))))
  where
    turn : (A B C : Type 0) → A ⊎ (B ⊎ C) → A ⊎ (C ⊎ B)
    turn A B C (inl a) = inl a
    turn A B C (inr (inl b)) = inr (inr b)
    turn A B C (inr (inr c)) = inr (inl c)

-- ---- one relvar is given a relation
abbrev pub put : ℕ → RowsData → Stored → Stored
put n r xs = with_given (gives n r nothing_given) xs

left_alone : (g : Given) (xs : Stored) (m : ℕ) → g m ≡ None → stored_relvars (with_given g xs) m ≡ stored_relvars xs m
left_alone g [] m h = refl
left_alone g (x ∷ xs) zero h = ap (λ o. at_place (Some (or_stored o x))) h
left_alone g (x ∷ xs) (suc m) h = left_alone (λ k. g (suc k)) xs m h

-- what is given in place of what was given is all that counts
overwritten : (g h : Given) (xs : Stored) → ((m : ℕ) → (h m ≡ None) ⊎ ((r : RowsData) × (g m ≡ Some r))) → with_given g (with_given h xs) ≡ with_given g xs
overwritten g h [] over = refl
overwritten g h (x ∷ xs) over = λ i. by (over zero) i ∷ overwritten (λ k. g (suc k)) (λ k. h (suc k)) xs (λ m. over (suc m)) i
  where
    by : (h zero ≡ None) ⊎ ((r : RowsData) × (g zero ≡ Some r)) → or_stored (g zero) (or_stored (h zero) x) ≡ or_stored (g zero) x
    by (inl none) = ap (λ o. or_stored (g zero) (or_stored o x)) none
    by (inr (r, some)) = ap (λ o. or_stored o (or_stored (h zero) x)) some ∙ ap (λ o. or_stored o x) (sym some)

given_it : (n : ℕ) (r : RowsData) → gives n r nothing_given n ≡ Some r
given_it n r = ap (λ b. if b then Some r else None) (eq-eqb n n refl)

pub given_not : (n : ℕ) (r : RowsData) (m : ℕ) → (m ≡ n → ⊥) → gives n r nothing_given m ≡ None
given_not n r m apart = ap (λ b. if b then Some r else None) (ne_eqb n m (λ e. apart (sym e)))

module _ (n : ℕ) (xs : Stored) (r : RowsData) (is : stored_relvars xs n ≡ Ok r) where
  pub put_there : (q : RowsData) → stored_relvars (put n q xs) n ≡ Ok q
  put_there q = looked_up (gives n q nothing_given) xs n r is ∙ ap (λ o. or_old o (Ok r)) (given_it n q)

pub put_elsewhere : (n : ℕ) (q : RowsData) (xs : Stored) (m : ℕ) → (m ≡ n → ⊥) → stored_relvars (put n q xs) m ≡ stored_relvars xs m
put_elsewhere n q xs m apart = left_alone (gives n q nothing_given) xs m (given_not n q m apart)

put_again : (n : ℕ) (p q : RowsData) (xs : Stored) → put n p (put n q xs) ≡ put n p xs
put_again n p q xs = overwritten (gives n p nothing_given) (gives n q nothing_given) xs (λ m. ⊎_elim (λ (same : m ≡ n). inr (p, ap (gives n p nothing_given) same ∙ given_it n p)) (λ apart. inl (given_not n q m apart)) (cases_eq m n))

-- ---- what a constraint says of more tuples
module _ (c : CatalogueData) (n : ℕ) (s : RowsData) (base : is_base (slice_get c.origins n) ≡ true) (ys : Stored) (q : RowsData) (there : stored_relvars ys n ≡ Ok q) (same_heading : q.heading ≡ s.heading) (held : AreLegal c (stored_relvars ys)) where
  abbrev pub grown : Stored
  grown = put n (union_of q s) ys

  grown_is : stored_relvars grown n ≡ Ok (union_of q s)
  grown_is = put_there n ys q there (union_of q s)

  beside : (u : Typed) → AgreeBeside c u n (stored_relvars ys) (stored_relvars grown)
  beside u m apart read = sym (put_elsewhere n (union_of q s) ys m apart)

  gains : Gains (stored_relvars ys) (stored_relvars grown) n s
  gains = record {
    before = q;
    after = union_of q s;
    was = there;
    is = grown_is;
    old_heading = sym (union_is q s).heading;
    new_heading = sym same_heading ∙ sym (union_is q s).heading;
    either = λ a h. (union_is q s).only a h;
    new = λ a h. of_second q s a h;
  }

  grows : Grows (stored_relvars ys) (stored_relvars grown) n
  grows = record {
    before = q;
    after = union_of q s;
    was = there;
    is = grown_is;
    one_heading = sym (union_is q s).heading;
    kept = λ a h. of_first q s a h;
  }

  pub over_new : (x : List ℕ) (u : Typed) → Contains c.tests (test.Constraint x u) → IsWatched c n u → judgement c (stored_relvars grown) (test.Constraint x u) ≡ judgement c (narrowed n s (stored_relvars grown)) (test.Constraint x u)
  over_new x u in_tests watched = watched_by_inserts c (stored_relvars ys) (stored_relvars grown) n s x u base (beside u) gains watched (held (test.Constraint x u) in_tests)

  pub stays_true : (x : List ℕ) (u : Typed) → Contains c.tests (test.Constraint x u) → IsSafe c n u → judgement c (stored_relvars grown) (test.Constraint x u) ≡ Ok true
  stays_true x u in_tests safe = growth_keeps_safe c (stored_relvars ys) (stored_relvars grown) n x u base (beside u) grows safe (held (test.Constraint x u) in_tests)

-- ---- what the tests say of an insertion
first : {A : Type 0} (y : A) (ys : List A) → Contains (y ∷ ys) y
first y ys = (0, omega arith, refl)

pub fail_alike : (c : CatalogueData) (r s : Relvars) (ts : List Test) → ((u : Test) → Contains ts u → judgement c r u ≡ judgement c s u) → failing c r ts ≡ failing c s ts
fail_alike c r s [] same = refl
fail_alike c r s (u ∷ ts) same = λ i. or_behind u (same u (first u ts) i) (fail_alike c r s ts (λ v h. same v (Contains-append_right (u ∷ []) ts v h)) i)

bools_same : (a b : Bool) → (a ≡ true → b ≡ true) → (b ≡ true → a ≡ true) → a ≡ b
bools_same true b f g = sym (f refl)
bools_same false true f g = g refl
bools_same false false f g = refl

module _ (c : CatalogueData) (n : ℕ) (r s t : RowsData) (xs : Stored) (is : stored_relvars xs n ≡ Ok r) (base : is_base (slice_get c.origins n) ≡ true) (heads : r.heading ≡ s.heading) (judge : AllJudgeGrowth c n) (differ : DifferByKeys c n s t)
    (legal : AreLegal c (stored_relvars xs)) (still : AreLegal c (stored_relvars (put n (union_of r t) xs))) where
  abbrev more : Stored
  more = put n (union_of r t) xs

  abbrev one : Stored
  one = put n (union_of r s) xs

  abbrev both : Stored
  both = put n (union_of (union_of r t) s) more

  more_is : stored_relvars more n ≡ Ok (union_of r t)
  more_is = put_there n xs r is (union_of r t)

  one_is : stored_relvars one n ≡ Ok (union_of r s)
  one_is = put_there n xs r is (union_of r s)

  both_is : stored_relvars both n ≡ Ok (union_of (union_of r t) s)
  both_is = put_there n more (union_of r t) more_is (union_of (union_of r t) s)

  others : (m : ℕ) → (m ≡ n → ⊥) → stored_relvars one m ≡ stored_relvars both m
  others m apart =
      put_elsewhere n (union_of r s) xs m apart
      ∙ sym (put_elsewhere n (union_of r t) xs m apart)
      ∙ sym (put_elsewhere n (union_of (union_of r t) s) more m apart)

  -- ---- keys
  tells_one : (ks : List (List ℕ)) → TellApart ks (union_of (union_of r t) s) → TellApart ks (union_of r s)
  tells_one ks told a b p q same = told a b (within a p) (within b q) same
    where
      within : (a : Attrs) → Has (union_of r s) a → Has (union_of (union_of r t) s) a
      within a h = ⊎_elim (λ p. of_first (union_of r t) s a (of_first r t a p)) (λ p. of_second (union_of r t) s a p) ((union_is r s).only a h)

  tells_both : (ks : List (List ℕ)) → Contains c.tests (test.Key n ks) → TellApart ks (union_of r t) → TellApart ks (union_of r s) → TellApart ks (union_of (union_of r t) s)
  tells_both ks there old new a b p q same = by ((three r t s).only a p) ((three r t s).only b q)
    where
      by : Has r a ⊎ (Has t a ⊎ Has s a) → Has r b ⊎ (Has t b ⊎ Has s b) → a ≡ b
      by (inl x) (inl y) = old a b (of_first r t a x) (of_first r t b y) same
      by (inl x) (inr (inl y)) = old a b (of_first r t a x) (of_second r t b y) same
      by (inl x) (inr (inr y)) = new a b (of_first r s a x) (of_second r s b y) same
      by (inr (inl x)) (inl y) = old a b (of_second r t a x) (of_first r t b y) same
      by (inr (inl x)) (inr (inl y)) = old a b (of_second r t a x) (of_second r t b y) same
      by (inr (inl x)) (inr (inr y)) = absurd (differ.differ ks b a there y x (sym same))
      by (inr (inr x)) (inl y) = new a b (of_second r s a x) (of_first r s b y) same
      by (inr (inr x)) (inr (inl y)) = absurd (differ.differ ks a b there x y same)
      by (inr (inr x)) (inr (inr y)) = new a b (of_second r s a x) (of_second r s b y) same

  key_held : (ks : List (List ℕ)) → Contains c.tests (test.Key n ks) → is_key ks (union_of r t).tuples ≡ true
  key_held ks there = ok_same (is_key ks (union_of r t).tuples) true (ap (λ o. and_then o (λ (q : RowsData). Ok (is_key ks q.tuples))) (sym more_is) ∙ still (test.Key n ks) there)

  same_key : (ks : List (List ℕ)) → Contains c.tests (test.Key n ks) → is_key ks (union_of r s).tuples ≡ is_key ks (union_of (union_of r t) s).tuples
  same_key ks there =
      let at_one = keys_apart ks (union_of r s) (union_is r s).ascending in
      let at_both = keys_apart ks (union_of (union_of r t) s) (three r t s).ascending in
      let at_more = keys_apart ks (union_of r t) (union_is r t).ascending in
      bools_same (is_key ks (union_of r s).tuples) (is_key ks (union_of (union_of r t) s).tuples)
      (λ h. at_both.1 (tells_both ks there (at_more.0 (key_held ks there)) (at_one.0 h)))
      (λ h. at_one.1 (tells_one ks (at_both.0 h)))

  -- ---- constraints
  heads_more : (union_of r t).heading ≡ s.heading
  heads_more = (union_is r t).heading ∙ heads

  narrowed_same : (u : Typed) → AgreeOn c u (narrowed n s (stored_relvars one)) (narrowed n s (stored_relvars both))
  narrowed_same u m read =
      ⊎_elim
      (λ (same : m ≡ n). ap (λ b. if b then Ok s else stored_relvars one m) (eq-eqb m n same) ∙ sym (ap (λ b. if b then Ok s else stored_relvars both m) (eq-eqb m n same)))
      (λ apart. ap (λ b. if b then Ok s else stored_relvars one m) (ne_eqb m n apart) ∙ others m apart ∙ sym (ap (λ b. if b then Ok s else stored_relvars both m) (ne_eqb m n apart)))
      (cases_eq m n)

  same_constraint : (x : List ℕ) (u : Typed) → Contains c.tests (test.Constraint x u) → IsWatched c n u ⊎ IsSafe c n u → judgement c (stored_relvars one) (test.Constraint x u) ≡ judgement c (stored_relvars both) (test.Constraint x u)
  same_constraint x u there (inl watched) =
      over_new c n s base xs r is heads legal x u there watched
      ∙ judged_by_reads c (narrowed n s (stored_relvars one)) (narrowed n s (stored_relvars both)) x u (narrowed_same u)
      ∙ sym (over_new c n s base more (union_of r t) more_is heads_more still x u there watched)
  same_constraint x u there (inr safe) =
      stays_true c n s base xs r is heads legal x u there safe ∙ sym (stays_true c n s base more (union_of r t) more_is heads_more still x u there safe)

  same_judgement : (u : Test) → Contains c.tests u → JudgesGrowth c n u → judgement c (stored_relvars one) u ≡ judgement c (stored_relvars both) u
  same_judgement (test.Key m ks) there judges =
      ⊎_elim
      (λ (same : m ≡ n).
      let here = subst (λ k. Contains c.tests (test.Key k ks)) same there in
      ap (λ k. and_then (stored_relvars one k) (λ (q : RowsData). Ok (is_key ks q.tuples))) same
      ∙ ap (λ o. and_then o (λ (q : RowsData). Ok (is_key ks q.tuples))) one_is
      ∙ ap Ok (same_key ks here)
      ∙ sym (ap (λ o. and_then o (λ (q : RowsData). Ok (is_key ks q.tuples))) both_is)
      ∙ sym (ap (λ k. and_then (stored_relvars both k) (λ (q : RowsData). Ok (is_key ks q.tuples))) same))
      (λ apart. ap (λ o. and_then o (λ (q : RowsData). Ok (is_key ks q.tuples))) (others m apart))
      (cases_eq m n)
  same_judgement (test.Constraint x u) there judges = same_constraint x u there judges

  pub same_failing : failing c (stored_relvars one) c.tests ≡ failing c (stored_relvars both) c.tests
  same_failing = fail_alike c (stored_relvars one) (stored_relvars both) c.tests (λ u there. same_judgement u there (judge u there))

-- ---- the differences that an insertion makes
new_is : (b t s : Bool) → (s ≡ true → t ≡ true → ⊥) → (((b || t) || s) && not (b || t)) ≡ ((b || s) && not b)
new_is true t s apart = refl
new_is false true true apart = absurd (apart refl refl)
new_is false true false apart = refl
new_is false false s apart = refl

none_is : (b t s : Bool) → ((b || t) && not ((b || t) || s)) ≡ (b && not (b || s))
none_is true t s = refl
none_is false true s = refl
none_is false false s = refl

union_has : (r s : RowsData) (a : Attrs) → set.contains (body (union_of r s)) a ≡ (set.contains (body r) a || set.contains (body s) a)
unfolding union_of
union_has r s a = ap (λ w. set.contains w a) (relation_of_is r.heading (set.union (body r) (body s))).members ∙ set.contains-union attrs_order_total (body r) (body s) a

module _ (r s t : RowsData) (apart : (a : Attrs) → Has s a → Has t a → ⊥) where
  abbrev long : RowsData
  long = union_of (union_of r t) s

  long_has : (a : Attrs) → set.contains (body long) a ≡ ((set.contains (body r) a || set.contains (body t) a) || set.contains (body s) a)
  long_has a = union_has (union_of r t) s a ∙ ap (λ b. b || set.contains (body s) a) (union_has r t a)

  put_in : set.difference (body long) (body (union_of r t)) ≡ set.difference (body (union_of r s)) (body r)
  put_in = set.same_set attrs_order_total attrs_tied _ _ (λ a.
      set.contains-difference attrs_order_total (body long) (body (union_of r t)) a
      ∙ (λ i. long_has a i && not (union_has r t a i))
      ∙ new_is (set.contains (body r) a) (set.contains (body t) a) (set.contains (body s) a) (apart a)
      ∙ ap (λ b. b && not (set.contains (body r) a)) (sym (union_has r s a))
      ∙ sym (set.contains-difference attrs_order_total (body (union_of r s)) (body r) a))

  taken_out : set.difference (body (union_of r t)) (body long) ≡ set.difference (body r) (body (union_of r s))
  taken_out = set.same_set attrs_order_total attrs_tied _ _ (λ a.
      set.contains-difference attrs_order_total (body (union_of r t)) (body long) a
      ∙ (λ i. union_has r t a i && not (long_has a i))
      ∙ none_is (set.contains (body r) a) (set.contains (body t) a) (set.contains (body s) a)
      ∙ ap (λ b. set.contains (body r) a && not b) (sym (union_has r s a))
      ∙ sym (set.contains-difference attrs_order_total (body r) (body (union_of r s)) a))

  -- with t before it, and without
  longer : (x : DeltaData) → IsDifference r (union_of r s) x → IsDifference (union_of r t) long x
  longer x is = record {
    inserted = record { heading = is.inserted.heading ∙ sym (union_is r t).heading; members = is.inserted.members ∙ sym put_in; ascending = is.inserted.ascending };
    deleted = record { heading = is.deleted.heading ∙ sym (union_is r t).heading; members = is.deleted.members ∙ sym taken_out; ascending = is.deleted.ascending };
  }

  shorter : (x : DeltaData) → IsDifference (union_of r t) long x → IsDifference r (union_of r s) x
  shorter x is = record {
    inserted = record { heading = is.inserted.heading ∙ (union_is r t).heading; members = is.inserted.members ∙ put_in; ascending = is.inserted.ascending };
    deleted = record { heading = is.deleted.heading ∙ (union_is r t).heading; members = is.deleted.members ∙ taken_out; ascending = is.deleted.ascending };
  }

  -- where s brings nothing new with t before it, it brings nothing new
  new_alone : long ≡ union_of r t → (a : Attrs) → Has s a → Has r a
  new_alone same a h = ⊎_elim (λ p. p) (λ p. absurd (apart a h p)) ((union_is r t).only a (subst (λ q. Has q a) same (of_second (union_of r t) s a h)))

  old_alone : union_of r s ≡ r → (a : Attrs) → Has s a → Has (union_of r t) a
  old_alone same a h = of_first r t a (subst (λ q. Has q a) same (of_second r s a h))

changed_or_not : (n : ℕ) (ds : List (ℕ × DeltaData)) → ((x : DeltaData) × Contains ds (n, x)) ⊎ ((x : DeltaData) → Contains ds (n, x) → ⊥)
changed_or_not n [] = inr (λ x h. omega (arith, h.1))
changed_or_not n (p ∷ ds) = ⊎_elim
    (λ (same : p.0 ≡ n). inl (p.1, (0, omega arith, λ i. (same i, p.1))))
    (λ apart. ⊎_elim (λ h. inl (h.0, Contains-append_right (p ∷ []) ds (n, h.0) h.1)) (λ none. inr (λ x h. by x h apart (none x))) (changed_or_not n ds))
    (cases_eq p.0 n)
  where
    by : (x : DeltaData) → Contains (p ∷ ds) (n, x) → (p.0 ≡ n → ⊥) → (Contains ds (n, x) → ⊥) → ⊥
    by x (zero, lt, is) apart none = apart (ap (λ (q : ℕ × DeltaData). q.0) is)
    by x (suc i, lt, is) apart none = none (i, omega (arith, lt), is)

pub none_beside : {P : Type 0} (n m : ℕ) (x : DeltaData) (q : RowsData) (ys : Stored) → (m ≡ n → ⊥) → Differs (stored_relvars ys) (stored_relvars (put n q ys)) m x → P
none_beside n m x q ys off d = let o = d.change in absurd (d.apart (ok_same o.before o.after (sym o.was ∙ sym (put_elsewhere n q ys m off) ∙ o.is)))

module _ (n : ℕ) (r s t : RowsData) (xs : Stored) (is : stored_relvars xs n ≡ Ok r) (apart : (a : Attrs) → Has s a → Has t a → ⊥)
    (fit : (a : Attrs) → Has r a → Fits r.heading a) (new_fit : (a : Attrs) → Has s a → Fits r.heading a) (other_fit : (a : Attrs) → Has t a → Fits r.heading a) where
  abbrev with_t : Stored
  with_t = put n (union_of r t) xs

  abbrev with_s : Stored
  with_s = put n (union_of r s) xs

  abbrev with_both : Stored
  with_both = put n (union_of (union_of r t) s) with_t

  t_is : stored_relvars with_t n ≡ Ok (union_of r t)
  t_is = put_there n xs r is (union_of r t)

  s_is : stored_relvars with_s n ≡ Ok (union_of r s)
  s_is = put_there n xs r is (union_of r s)

  st_is : stored_relvars with_both n ≡ Ok (union_of (union_of r t) s)
  st_is = put_there n with_t (union_of r t) t_is (union_of (union_of r t) s)

  fit_t : (a : Attrs) → Has (union_of r t) a → Fits (union_of r t).heading a
  fit_t a h = subst (λ g. Fits g a) (sym (union_is r t).heading) (⊎_elim (fit a) (other_fit a) ((union_is r t).only a h))

  new_fit_t : (a : Attrs) → Has s a → Fits (union_of r t).heading a
  new_fit_t a h = subst (λ g. Fits g a) (sym (union_is r t).heading) (new_fit a h)

  -- ---- at the relvar
  at_more : (x : DeltaData) → Differs (stored_relvars xs) (stored_relvars with_s) n x → Differs (stored_relvars with_t) (stored_relvars with_both) n x
  at_more x d =
      let o = d.change in
      let was : o.before ≡ r = ok_same o.before r (sym o.was ∙ is) in
      let now : o.after ≡ union_of r s = ok_same o.after (union_of r s) (sym o.is ∙ s_is) in
      let difference : IsDifference r (union_of r s) x = subst (λ q. IsDifference q (union_of r s) x) was (subst (λ q. IsDifference o.before q x) now o.difference) in
      record {
        change = record {
          before = union_of r t;
          after = union_of (union_of r t) s;
          was = t_is;
          is = st_is;
          one_heading = sym (union_is (union_of r t) s).heading;
          was_rows = fits_both r t fit other_fit;
          is_rows = fits_both (union_of r t) s fit_t new_fit_t;
          difference = longer r s t apart x difference;
        };
        apart = λ same. d.apart (was ∙ sym (nothing_new r s (subst (λ (q : RowsData). IsStrictlySortedBy attrs_order q.tuples) was o.was_rows.ascending) (new_alone r s t apart (sym same))) ∙ sym now);
      }

  at_less : IsStrictlySortedBy attrs_order r.tuples → (x : DeltaData) → Differs (stored_relvars with_t) (stored_relvars with_both) n x → Differs (stored_relvars xs) (stored_relvars with_s) n x
  at_less up x d =
      let o = d.change in
      let was : o.before ≡ union_of r t = ok_same o.before (union_of r t) (sym o.was ∙ t_is) in
      let now : o.after ≡ union_of (union_of r t) s = ok_same o.after (union_of (union_of r t) s) (sym o.is ∙ st_is) in
      let difference : IsDifference (union_of r t) (union_of (union_of r t) s) x = subst (λ q. IsDifference q (union_of (union_of r t) s) x) was (subst (λ q. IsDifference o.before q x) now o.difference) in
      record {
        change = record {
          before = r;
          after = union_of r s;
          was = is;
          is = s_is;
          one_heading = sym (union_is r s).heading;
          was_rows = record { fit = in_all (Fits r.heading) r.tuples (λ a m. fit a (in_has r a m)); ascending = up };
          is_rows = fits_both r s fit new_fit;
          difference = shorter r s t apart x difference;
        };
        apart = λ same. d.apart (was ∙ sym (nothing_new (union_of r t) s (union_is r t).ascending (old_alone r s t apart (sym same))) ∙ sym now);
      }

  -- ---- at the others nothing differs
  pub differ_more : (ds : List (ℕ × DeltaData)) → AreDifferences (stored_relvars xs) (stored_relvars with_s) ds → AreDifferences (stored_relvars with_t) (stored_relvars with_both) ds
  differ_more ds l = record {
    once = l.once;
    only = λ p there. ⊎_elim
        (λ (same : p.0 ≡ n). subst (λ m. Differs (stored_relvars with_t) (stored_relvars with_both) m p.1) (sym same) (at_more p.1 (subst (λ m. Differs (stored_relvars xs) (stored_relvars with_s) m p.1) same (l.only p there))))
        (λ off. none_beside n p.0 p.1 (union_of r s) xs off (l.only p there))
        (cases_eq p.0 n);
    all = λ m never. ⊎_elim
        (λ (same : m ≡ n).
        let stays = ok_same (union_of r s) r (sym s_is ∙ ap (stored_relvars with_s) (sym same) ∙ l.all m never ∙ ap (stored_relvars xs) same ∙ is) in
        ap (stored_relvars with_both) same ∙ st_is ∙ ap Ok (nothing_new (union_of r t) s (union_is r t).ascending (old_alone r s t apart stays)) ∙ sym t_is ∙ ap (stored_relvars with_t) (sym same))
        (λ off. put_elsewhere n (union_of (union_of r t) s) with_t m off)
        (cases_eq m n);
  }

  pub differ_less : IsStrictlySortedBy attrs_order r.tuples → (ds : List (ℕ × DeltaData)) → AreDifferences (stored_relvars with_t) (stored_relvars with_both) ds → AreDifferences (stored_relvars xs) (stored_relvars with_s) ds
  differ_less up ds l = record {
    once = l.once;
    only = λ p there. ⊎_elim
        (λ (same : p.0 ≡ n). subst (λ m. Differs (stored_relvars xs) (stored_relvars with_s) m p.1) (sym same) (at_less up p.1 (subst (λ m. Differs (stored_relvars with_t) (stored_relvars with_both) m p.1) same (l.only p there))))
        (λ off. none_beside n p.0 p.1 (union_of (union_of r t) s) with_t off (l.only p there))
        (cases_eq p.0 n);
    all = λ m never. ⊎_elim
        (λ (same : m ≡ n).
        let stays = ok_same (union_of (union_of r t) s) (union_of r t) (sym st_is ∙ ap (stored_relvars with_both) (sym same) ∙ l.all m never ∙ ap (stored_relvars with_t) same ∙ t_is) in
        ap (stored_relvars with_s) same ∙ s_is ∙ ap Ok (nothing_new r s up (new_alone r s t apart stays)) ∙ sym is ∙ ap (stored_relvars xs) (sym same))
        (λ off. put_elsewhere n (union_of r s) xs m off)
        (cases_eq m n);
  }

  -- what a relvar has ascends, where it is told what an insertion makes of it
  pub had_ascended : (ds : List (ℕ × DeltaData)) → AreDifferences (stored_relvars xs) (stored_relvars with_s) ds → IsStrictlySortedBy attrs_order r.tuples
  had_ascended ds l = ⊎_elim
      (λ h. let o = (l.only (n, h.0) h.1).change in subst (λ (q : RowsData). IsStrictlySortedBy attrs_order q.tuples) (ok_same o.before r (sym o.was ∙ is)) o.was_rows.ascending)
      (λ never. subst (λ (q : RowsData). IsStrictlySortedBy attrs_order q.tuples) (ok_same (union_of r s) r (sym s_is ∙ l.all n never ∙ is)) (union_is r s).ascending)
      (changed_or_not n ds)

-- ---- two of them into one relvar
pub turned : (c : CatalogueData) (n : ℕ) (s t : RowsData) → DifferByKeys c n s t → DifferByKeys c n t s
turned c n s t x = record { key = x.key; has_key = x.has_key; differ = λ ks a b there p q e. x.differ ks b a there q p (sym e) }

module _ (d : DatabaseData) (k l : ℕ) (a b : List ℕ) (is : IsDatabase d) (legal : IsLegal d) (x : InsertApart d.catalogue k a l b) where
  abbrev c : CatalogueData
  c = d.catalogue

  abbrev n : ℕ
  n = x.relvar

  abbrev s : RowsData
  s = x.one

  abbrev t : RowsData
  t = x.other

  abbrev r : RowsData
  r = (is.stored n x.first.is.relvar x.first.is.base x.first.is.there).0

  there : stored_relvars d.stored n ≡ Ok r
  there = (is.stored n x.first.is.relvar x.first.is.base x.first.is.there).1

  heads : r.heading ≡ s.heading
  heads = (is.stored n x.first.is.relvar x.first.is.base x.first.is.there).2.heading ∙ sym x.first.is.heading

  some_same : {A : Type 0} (u v : A) → Some u ≡ Some v → u ≡ v
  some_same u v e = cc

  other_heads : r.heading ≡ t.heading
  other_heads =
      heads ∙ x.first.is.heading
      ∙ ap (λ v. v.value) (some_same x.first.is.relvar x.second.is.relvar (sym x.first.is.there ∙ x.second.is.there))
      ∙ sym x.second.is.heading

  common : (u : Attrs) → Has s u → Has t u → ⊥
  common u p q = x.differ.differ x.differ.key u u x.differ.has_key p q refl

  fits_r : (u : Attrs) → Has r u → Fits r.heading u
  fits_r u h =
      let over = (is.stored n x.first.is.relvar x.first.is.base x.first.is.there).2 in
      let whole : IsTupleOver c.schema x.first.is.relvar.value u = all_in (IsTupleOver c.schema x.first.is.relvar.value) r.tuples over.tuples u (has_in r u h) in
      subst (λ g. Fits g u) (sym over.heading) whole.0

  fits_of : (q : RowsData) → AreRows q.heading q.tuples → r.heading ≡ q.heading → (u : Attrs) → Has q u → Fits r.heading u
  fits_of q rows same u h = subst (λ g. Fits g u) (sym same) (all_in (Fits q.heading) q.tuples rows.fit u (has_in q u h))

  fits_s : (u : Attrs) → Has s u → Fits r.heading u
  fits_s = fits_of s x.first.is.rows heads

  fits_t : (u : Attrs) → Has t u → Fits r.heading u
  fits_t = fits_of t x.second.is.rows other_heads

  abbrev pub grown_s : Stored
  grown_s = put n (union_of r s) d.stored

  abbrev pub grown_t : Stored
  grown_t = put n (union_of r t) d.stored

  abbrev pub s_then_t : Stored
  s_then_t = put n (union_of (union_of r s) t) grown_s

  abbrev t_then_s : Stored
  t_then_s = put n (union_of (union_of r t) s) grown_t

  one_end : t_then_s ≡ s_then_t
  one_end =
      put_again n (union_of (union_of r t) s) (union_of r t) d.stored
      ∙ ap (λ q. put n q d.stored) (either_way r t s)
      ∙ sym (put_again n (union_of (union_of r s) t) (union_of r s) d.stored)

  first_alike : AreLegal c (stored_relvars grown_t) → failing c (stored_relvars grown_s) c.tests ≡ failing c (stored_relvars t_then_s) c.tests
  first_alike still = same_failing c n r s t d.stored there x.first.is.base heads x.judge x.differ legal still

  second_alike : AreLegal c (stored_relvars grown_s) → failing c (stored_relvars grown_t) c.tests ≡ failing c (stored_relvars s_then_t) c.tests
  second_alike still = same_failing c n r t s d.stored there x.first.is.base other_heads x.judge (turned c n s t x.differ) legal still

  heads_s : (union_of r s).heading ≡ t.heading
  heads_s = (union_is r s).heading ∙ other_heads

  heads_t : (union_of r t).heading ≡ s.heading
  heads_t = (union_is r t).heading ∙ heads

  grown_s_is : stored_relvars grown_s n ≡ Ok (union_of r s)
  grown_s_is = put_there n d.stored r there (union_of r s)

  grown_t_is : stored_relvars grown_t n ≡ Ok (union_of r t)
  grown_t_is = put_there n d.stored r there (union_of r t)

  pub one_relvar : Exchange c k a l b d.stored grown_s grown_t s_then_t
  one_relvar = record {
    first = insertion_leads c d.stored k a n s r x.first there heads;
    second = insertion_leads c grown_s l b n t (union_of r s) x.second grown_s_is heads_s;
    other_first = insertion_leads c d.stored l b n t r x.second there other_heads;
    other_second = subst (LeadsTo c grown_t k a) one_end (insertion_leads c grown_t k a n s (union_of r t) x.first grown_t_is heads_t);
    first_alike = λ still. first_alike still ∙ ap (fails c) one_end;
    second_alike = second_alike;
    first_differs = λ ds here. subst (λ ys. AreDifferences (stored_relvars grown_t) (stored_relvars ys) ds) one_end (differ_more n r s t d.stored there common fits_r fits_s fits_t ds here);
    second_differs = λ ds es here behind.
        let up = had_ascended n r s t d.stored there common fits_r fits_s fits_t ds here in
        differ_less n r t s d.stored there (λ u p q. common u q p) fits_r fits_t fits_s up es behind;
  }

pub apart_commute : (d : DatabaseData) (k l : ℕ) (a b : List ℕ) (e f : DatabaseData) (o p : Outcome) (ds es : List (ℕ × DeltaData)) → IsDatabase d → IsLegal d → InsertApart d.catalogue k a l b → Goes d k a o ds e → Goes e l b p es f
    → (g : DatabaseData) × Goes d l b p es g × Goes g k a o ds f
apart_commute d k l a b e f o p ds es is legal x one two =
    exchanged d.catalogue k l a b d.stored (grown_s d k l a b is legal x) (grown_t d k l a b is legal x) (s_then_t d k l a b is legal x) (one_relvar d k l a b is legal x) e f o p ds es one two
