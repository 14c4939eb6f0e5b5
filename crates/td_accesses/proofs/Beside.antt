-- Insertions into two relvars may be exchanged; and so the law of all insertions.
use Rattle.std.proofs.Common.{◌≡◌, ◌⊎◌, ⊎_elim, inl, inr, if◌then◌else◌, ℕ, zero, suc, true, List, [], ◌∷◌, None, Some, slice_get, Ok, refl, ap, sym, ◌∙◌, subst, eq-eqb, ne_eqb}
use Rattle.std.specs.List.{Contains}
use Rattle.std.proofs.lemmas.Bool.{cases_eq}
use Rattle.td_values.specs.Data.{Attrs}
use Rattle.td_values.specs.Headings.{Header}
use Rattle.td_values.specs.Rows.{RowsData}
use Rattle.td_syntax.specs.declared.tree.Named.{Named}
use Rattle.td_tuples.specs.Parts.{Fits}
use Rattle.td_relations.specs.Deltas.{DeltaData}
use Rattle.td_relations.specs.Sets.{Has}
use Rattle.td_algebra.specs.Functions.{union_of}
use Rattle.td_algebra.specs.Raising.{and_then}
use Rattle.td_algebra.proofs.Bridges.{union_is}
use Rattle.td_algebra.proofs.Lists.{all_in}
use Rattle.td_algebra.proofs.Made.{has_fits, has_in}
use Rattle.td_headings.specs.Catalogues.{CatalogueData}
use Rattle.td_headings.specs.Reached.{ReadsRelvar, is_base}
use Rattle.td_headings.specs.declared.defined.Test.{Test}
use Rattle.td_headings.specs.declared.defined.Test.TheVariants as test
use Rattle.td_type_soundness.specs.Meanings.{IsRelationOver, IsTupleOver}
use Rattle.td_typed_trees.specs.declared.tree.Typed.{Typed}
use Rattle.td_meaning.specs.Mean.{Relvars}
use Rattle.td_incremental.specs.Growth.{AgreeOn, IsUnread, narrowed}
use Rattle.td_incremental.specs.Safety.{IsSafe}
use Rattle.td_incremental.proofs.LostParts.{unmatched_gains_keep_references}
use Rattle.td_incremental.proofs.Narrowing.{judged_by_reads}
use Rattle.td_semantics.specs.Databases.{DatabaseData, IsDatabase, IsLegal, Stored, stored_relvars}
use Rattle.td_semantics.specs.Differences.{AreDifferences, Differs}
use Rattle.td_semantics.specs.Given.{Given, gives, nothing_given, or_stored, with_given}
use Rattle.td_semantics.specs.Tests.{AreLegal, is_key, judgement}
use Rattle.td_semantics.specs.declared.outcome.Outcome.{Outcome}
use Rattle.td_accesses.specs.Commuting.{AllJudgeBeside, Commute, InsertBeside, RefersElsewhere}
use Rattle.td_accesses.specs.Laws.{Goes, InsertionsCommute}
use Rattle.td_accesses.proofs.Exchanging.{Exchange, LeadsTo, exchanged, fails, insertion_leads}
use Rattle.td_accesses.proofs.Inserting.{apart_commute, fail_alike, given_not, none_beside, of_first, over_new, put, put_elsewhere, put_there, stays_true, turned}

-- ---- two relvars are given relations
exchanged_given : (g h : Given) (xs : Stored) → ((m : ℕ) → (g m ≡ None) ⊎ (h m ≡ None)) → with_given g (with_given h xs) ≡ with_given h (with_given g xs)
exchanged_given g h [] off = refl
exchanged_given g h (x ∷ xs) off = λ i. by (off zero) i ∷ exchanged_given (λ m. g (suc m)) (λ m. h (suc m)) xs (λ m. off (suc m)) i
  where
    by : (g zero ≡ None) ⊎ (h zero ≡ None) → or_stored (g zero) (or_stored (h zero) x) ≡ or_stored (h zero) (or_stored (g zero) x)
    by (inl none) = ap (λ o. or_stored o (or_stored (h zero) x)) none ∙ ap (λ o. or_stored (h zero) (or_stored o x)) (sym none)
    by (inr none) = ap (λ o. or_stored (g zero) (or_stored o x)) none ∙ ap (λ o. or_stored o (or_stored (g zero) x)) (sym none)

put_both : (m n : ℕ) (p q : RowsData) (xs : Stored) → (m ≡ n → ⊥) → put m p (put n q xs) ≡ put n q (put m p xs)
put_both m n p q xs apart = exchanged_given (gives m p nothing_given) (gives n q nothing_given) xs (λ k. ⊎_elim
    (λ (same : k ≡ m). inr (given_not n q k (λ e. apart (sym same ∙ e))))
    (λ off. inl (given_not m p k off))
    (cases_eq k m))

-- ---- what the tests say of an insertion into one of them
module _ (c : CatalogueData) (m n : ℕ) (apart : m ≡ n → ⊥) (r q s t : RowsData) (xs : Stored) (at_m : stored_relvars xs m ≡ Ok r) (at_n : stored_relvars xs n ≡ Ok q)
    (base_m : is_base (slice_get c.origins m) ≡ true) (base_n : is_base (slice_get c.origins n) ≡ true) (heads : r.heading ≡ s.heading)
    (judge : AllJudgeBeside c m n s t) (legal : AreLegal c (stored_relvars xs)) (still : AreLegal c (stored_relvars (put n (union_of q t) xs)))
    (over_m : (v : Named Header) → slice_get c.schema.relvars m ≡ Some v → s.heading ≡ v.value) (over_n : (v : Named Header) → slice_get c.schema.relvars n ≡ Some v → q.heading ≡ v.value)
    (fit_s : (a : Attrs) → Has s a → Fits s.heading a) (fit_q : (a : Attrs) → Has q a → Fits q.heading a) (fit_t : (a : Attrs) → Has t a → Fits q.heading a) where
  abbrev more : Stored
  more = put n (union_of q t) xs

  abbrev one : Stored
  one = put m (union_of r s) xs

  abbrev both : Stored
  both = put m (union_of r s) more

  apart_n : n ≡ m → ⊥
  apart_n e = apart (sym e)

  more_m : stored_relvars more m ≡ Ok r
  more_m = put_elsewhere n (union_of q t) xs m apart ∙ at_m

  one_n : stored_relvars one n ≡ Ok q
  one_n = put_elsewhere m (union_of r s) xs n apart_n ∙ at_n

  both_n : stored_relvars both n ≡ Ok (union_of q t)
  both_n = put_elsewhere m (union_of r s) more n apart_n ∙ put_there n xs q at_n (union_of q t)

  others : (k : ℕ) → (k ≡ n → ⊥) → stored_relvars one k ≡ stored_relvars both k
  others k off = ⊎_elim
      (λ (same : k ≡ m).
      ap (stored_relvars one) same ∙ put_there m xs r at_m (union_of r s) ∙ sym (put_there m more r more_m (union_of r s)) ∙ ap (stored_relvars both) (sym same))
      (λ beside.
      put_elsewhere m (union_of r s) xs k beside ∙ sym (put_elsewhere n (union_of q t) xs k off) ∙ sym (put_elsewhere m (union_of r s) more k beside))
      (cases_eq k m)

  -- ---- keys
  key_by : (ks : List (List ℕ)) (ys zs : Stored) (k : ℕ) → stored_relvars ys k ≡ stored_relvars zs k → judgement c (stored_relvars ys) (test.Key k ks) ≡ judgement c (stored_relvars zs) (test.Key k ks)
  key_by ks ys zs k same = ap (λ o. and_then o (λ (p : RowsData). Ok (is_key ks p.tuples))) same

  same_key : (k : ℕ) (ks : List (List ℕ)) → Contains c.tests (test.Key k ks) → judgement c (stored_relvars one) (test.Key k ks) ≡ judgement c (stored_relvars both) (test.Key k ks)
  same_key k ks there = ⊎_elim
      (λ (same : k ≡ n).
      key_by ks one xs k (put_elsewhere m (union_of r s) xs k (λ e. apart (sym e ∙ same)))
      ∙ legal (test.Key k ks) there
      ∙ sym (still (test.Key k ks) there)
      ∙ sym (key_by ks both more k (put_elsewhere m (union_of r s) more k (λ e. apart (sym e ∙ same)))))
      (λ off. key_by ks one both k (others k off))
      (cases_eq k n)

  -- ---- constraints
  unread_same : (u : Typed) → IsUnread c n u → AgreeOn c u (stored_relvars one) (stored_relvars both)
  unread_same u unread k read = ⊎_elim
      (λ (same : k ≡ n). absurd (unread (subst (ReadsRelvar c.origins u) same (read (subst (λ j. is_base (slice_get c.origins j) ≡ true) (sym same) base_n)))))
      (λ off. others k off)
      (cases_eq k n)

  abbrev over_new_one : Relvars
  over_new_one = narrowed m s (stored_relvars one)

  abbrev over_new_both : Relvars
  over_new_both = narrowed m s (stored_relvars both)

  narrowed_m : (ys : Stored) → narrowed m s (stored_relvars ys) m ≡ Ok s
  narrowed_m ys = ap (λ b. if b then Ok s else stored_relvars ys m) (eq-eqb m m refl)

  narrowed_else : (ys : Stored) (k : ℕ) → (k ≡ m → ⊥) → narrowed m s (stored_relvars ys) k ≡ stored_relvars ys k
  narrowed_else ys k off = ap (λ b. if b then Ok s else stored_relvars ys k) (ne_eqb k m off)

  narrowed_others : (k : ℕ) → (k ≡ n → ⊥) → over_new_one k ≡ over_new_both k
  narrowed_others k off = ⊎_elim
      (λ (same : k ≡ m). ap over_new_one same ∙ narrowed_m one ∙ sym (narrowed_m both) ∙ ap over_new_both (sym same))
      (λ beside. narrowed_else one k beside ∙ others k off ∙ sym (narrowed_else both k beside))
      (cases_eq k m)

  union_fits : (a : Attrs) → Has (union_of q t) a → Fits (union_of q t).heading a
  union_fits a h = subst (λ g. Fits g a) (sym (union_is q t).heading) (⊎_elim (fit_q a) (fit_t a) ((union_is q t).only a h))

  referred : (x : List ℕ) (u : Typed) → RefersElsewhere c m n s t u → judgement c over_new_both (test.Constraint x u) ≡ judgement c over_new_one (test.Constraint x u)
  referred x u e =
      unmatched_gains_keep_references c over_new_one over_new_both n m e.names s q (union_of q t) x u base_n (λ k off read. narrowed_others k off) e.refers
      (record { is = narrowed_m both; fit = fit_s; heading = over_m })
      (record { is = narrowed_else one n apart_n ∙ one_n; fit = fit_q; heading = over_n })
      (record { is = narrowed_else both n apart_n ∙ both_n; fit = union_fits; heading = λ v is. (union_is q t).heading ∙ over_n v is })
      (of_first q t)
      (λ a b p h same. ⊎_elim (λ old. old) (λ new. absurd (e.apart a b p new same)) ((union_is q t).only b h))

  same_constraint : (x : List ℕ) (u : Typed) → Contains c.tests (test.Constraint x u) → IsUnread c n u ⊎ (IsSafe c m u ⊎ RefersElsewhere c m n s t u)
      → judgement c (stored_relvars one) (test.Constraint x u) ≡ judgement c (stored_relvars both) (test.Constraint x u)
  same_constraint x u there (inl unread) = judged_by_reads c (stored_relvars one) (stored_relvars both) x u (unread_same u unread)
  same_constraint x u there (inr (inl safe)) = stays_true c m s base_m xs r at_m heads legal x u there safe ∙ sym (stays_true c m s base_m more r more_m heads still x u there safe)
  same_constraint x u there (inr (inr e)) =
      over_new c m s base_m xs r at_m heads legal x u there e.watched
      ∙ sym (referred x u e)
      ∙ sym (over_new c m s base_m more r more_m heads still x u there e.watched)

  same_judgement : (u : Test) → Contains c.tests u → judgement c (stored_relvars one) u ≡ judgement c (stored_relvars both) u
  same_judgement (test.Key k ks) there = same_key k ks there
  same_judgement (test.Constraint x u) there = same_constraint x u there (judge x u there)

  pub beside_fails : fails c one ≡ fails c both
  beside_fails = fail_alike c (stored_relvars one) (stored_relvars both) c.tests same_judgement

-- ---- the differences that it makes go by its own relvar
module _ (m : ℕ) (r p : RowsData) (xs ys : Stored) (one : stored_relvars xs m ≡ Ok r) (other : stored_relvars ys m ≡ Ok r) where
  at_it : (x : DeltaData) → Differs (stored_relvars xs) (stored_relvars (put m p xs)) m x → Differs (stored_relvars ys) (stored_relvars (put m p ys)) m x
  at_it x d =
      let o = d.change in
      record {
        change = record {
          before = o.before;
          after = o.after;
          was = other ∙ sym one ∙ o.was;
          is = put_there m ys r other p ∙ sym (put_there m xs r one p) ∙ o.is;
          one_heading = o.one_heading;
          was_rows = o.was_rows;
          is_rows = o.is_rows;
          difference = o.difference;
        };
        apart = d.apart;
      }

  differ_beside : (ds : List (ℕ × DeltaData)) → AreDifferences (stored_relvars xs) (stored_relvars (put m p xs)) ds → AreDifferences (stored_relvars ys) (stored_relvars (put m p ys)) ds
  differ_beside ds l = record {
    once = l.once;
    only = λ d there. ⊎_elim
        (λ (same : d.0 ≡ m). subst (λ k. Differs (stored_relvars ys) (stored_relvars (put m p ys)) k d.1) (sym same) (at_it d.1 (subst (λ k. Differs (stored_relvars xs) (stored_relvars (put m p xs)) k d.1) same (l.only d there))))
        (λ off. none_beside m d.0 d.1 p xs off (l.only d there))
        (cases_eq d.0 m);
    all = λ k never. ⊎_elim
        (λ (same : k ≡ m).
        ap (stored_relvars (put m p ys)) same ∙ put_there m ys r other p ∙ sym (put_there m xs r one p)
        ∙ ap (stored_relvars (put m p xs)) (sym same) ∙ l.all k never ∙ ap (stored_relvars xs) same ∙ one ∙ sym other ∙ ap (stored_relvars ys) (sym same))
        (λ off. put_elsewhere m p ys k off)
        (cases_eq k m);
  }

-- ---- two of them
module _ (d : DatabaseData) (k l : ℕ) (a b : List ℕ) (is : IsDatabase d) (legal : IsLegal d) (x : InsertBeside d.catalogue k a l b) where
  abbrev c : CatalogueData
  c = d.catalogue

  abbrev m : ℕ
  m = x.relvar

  abbrev n : ℕ
  n = x.other_relvar

  abbrev s : RowsData
  s = x.one

  abbrev t : RowsData
  t = x.other

  abbrev r : RowsData
  r = (is.stored m x.first.is.relvar x.first.is.base x.first.is.there).0

  abbrev q : RowsData
  q = (is.stored n x.second.is.relvar x.second.is.base x.second.is.there).0

  at_m : stored_relvars d.stored m ≡ Ok r
  at_m = (is.stored m x.first.is.relvar x.first.is.base x.first.is.there).1

  at_n : stored_relvars d.stored n ≡ Ok q
  at_n = (is.stored n x.second.is.relvar x.second.is.base x.second.is.there).1

  r_over : IsRelationOver c.schema x.first.is.relvar.value r
  r_over = (is.stored m x.first.is.relvar x.first.is.base x.first.is.there).2

  q_over : IsRelationOver c.schema x.second.is.relvar.value q
  q_over = (is.stored n x.second.is.relvar x.second.is.base x.second.is.there).2

  heads_m : r.heading ≡ s.heading
  heads_m = r_over.heading ∙ sym x.first.is.heading

  heads_n : q.heading ≡ t.heading
  heads_n = q_over.heading ∙ sym x.second.is.heading

  fits_over : (h : Header) (p : RowsData) → IsRelationOver c.schema h p → (u : Attrs) → Has p u → Fits p.heading u
  fits_over h p over_it u has = subst (λ g. Fits g u) (sym over_it.heading) (all_in (IsTupleOver c.schema h) p.tuples over_it.tuples u (has_in p u has)).0

  some_same : {A : Type 0} (u v : A) → Some u ≡ Some v → u ≡ v
  some_same u v e = cc

  of_its_heading : (j : ℕ) (h : Named Header) (p : RowsData) → slice_get c.schema.relvars j ≡ Some h → p.heading ≡ h.value → (v : Named Header) → slice_get c.schema.relvars j ≡ Some v → p.heading ≡ v.value
  of_its_heading j h p there heading v at = heading ∙ ap (λ (w : Named Header). w.value) (some_same h v (sym there ∙ at))

  abbrev with_s : Stored
  with_s = put m (union_of r s) d.stored

  abbrev with_t : Stored
  with_t = put n (union_of q t) d.stored

  abbrev with_both : Stored
  with_both = put n (union_of q t) with_s

  off : n ≡ m → ⊥
  off e = x.apart (sym e)

  one_end : put m (union_of r s) with_t ≡ with_both
  one_end = put_both m n (union_of r s) (union_of q t) d.stored x.apart

  m_there : stored_relvars with_t m ≡ Ok r
  m_there = put_elsewhere n (union_of q t) d.stored m x.apart ∙ at_m

  n_there : stored_relvars with_s n ≡ Ok q
  n_there = put_elsewhere m (union_of r s) d.stored n off ∙ at_n

  fit_s : (u : Attrs) → Has s u → Fits s.heading u
  fit_s = has_fits s x.first.is.rows

  fit_t : (u : Attrs) → Has t u → Fits t.heading u
  fit_t = has_fits t x.second.is.rows

  fit_r : (u : Attrs) → Has r u → Fits r.heading u
  fit_r = fits_over x.first.is.relvar.value r r_over

  fit_q : (u : Attrs) → Has q u → Fits q.heading u
  fit_q = fits_over x.second.is.relvar.value q q_over

  first_alike : AreLegal c (stored_relvars with_t) → fails c with_s ≡ fails c with_both
  first_alike still =
      beside_fails c m n x.apart r q s t d.stored at_m at_n x.first.is.base x.second.is.base heads_m x.first_judged legal still
      (of_its_heading m x.first.is.relvar s x.first.is.there x.first.is.heading) (of_its_heading n x.second.is.relvar q x.second.is.there q_over.heading)
      fit_s fit_q (λ u h. subst (λ g. Fits g u) (sym heads_n) (fit_t u h))
      ∙ ap (fails c) one_end

  second_alike : AreLegal c (stored_relvars with_s) → fails c with_t ≡ fails c with_both
  second_alike still =
      beside_fails c n m off q r t s d.stored at_n at_m x.second.is.base x.first.is.base heads_n x.second_judged legal still
      (of_its_heading n x.second.is.relvar t x.second.is.there x.second.is.heading) (of_its_heading m x.first.is.relvar r x.first.is.there r_over.heading)
      fit_t fit_r (λ u h. subst (λ g. Fits g u) (sym heads_m) (fit_s u h))

  two_relvars : Exchange c k a l b d.stored with_s with_t with_both
  two_relvars = record {
    first = insertion_leads c d.stored k a m s r x.first at_m heads_m;
    second = insertion_leads c with_s l b n t q x.second n_there heads_n;
    other_first = insertion_leads c d.stored l b n t q x.second at_n heads_n;
    other_second = subst (LeadsTo c with_t k a) one_end (insertion_leads c with_t k a m s r x.first m_there heads_m);
    first_alike = first_alike;
    second_alike = second_alike;
    first_differs = λ ds here. subst (λ ys. AreDifferences (stored_relvars with_t) (stored_relvars ys) ds) one_end (differ_beside m r (union_of r s) d.stored with_t at_m m_there ds here);
    second_differs = λ ds es here behind. differ_beside n q (union_of q t) with_s d.stored n_there at_n es behind;
  }

  pub beside_commute : (e f : DatabaseData) (o p : Outcome) (ds es : List (ℕ × DeltaData)) → Goes d k a o ds e → Goes e l b p es f → (g : DatabaseData) × Goes d l b p es g × Goes g k a o ds f
  beside_commute e f o p ds es one two = exchanged c k l a b d.stored with_s with_t with_both two_relvars e f o p ds es one two

pub insertions_commute : InsertionsCommute
insertions_commute d e f k l a b o p ds es is legal (inl x) one two = apart_commute d k l a b e f o p ds es is legal x one two
insertions_commute d e f k l a b o p ds es is legal (inr x) one two = beside_commute d k l a b is legal x e f o p ds es one two

-- ---- commuting goes both ways
pub commute_back : (c : CatalogueData) (k l : ℕ) (a b : List ℕ) → Commute c k a l b → Commute c l b k a
commute_back c k l a b (inl x) = inl (record { first = x.second; second = x.first })
commute_back c k l a b (inr (inl x)) = inr (inl (record {
  relvar = x.relvar;
  one = x.other;
  other = x.one;
  first = x.second;
  second = x.first;
  judge = x.judge;
  differ = turned c x.relvar x.one x.other x.differ;
}))
commute_back c k l a b (inr (inr x)) = inr (inr (record {
  relvar = x.other_relvar;
  other_relvar = x.relvar;
  apart = λ e. x.apart (sym e);
  one = x.other;
  other = x.one;
  first = x.second;
  second = x.first;
  first_judged = x.second_judged;
  second_judged = x.first_judged;
}))
