-- Two insertions that follow each other, exchanged.
use Rattle.std.proofs.Common.{◌≡◌, ℕ, List, Option, None, Some, Result, Ok, Err, ap, sym, ◌∙◌, subst, refl}
use Rattle.td_values.specs.Rows.{RowsData}
use Rattle.td_relations.specs.Deltas.{DeltaData}
use Rattle.td_algebra.specs.Functions.{union_of}
use Rattle.td_algebra.specs.declared.errors.Stop.{Stop}
use Rattle.td_headings.specs.Catalogues.{CatalogueData}
use Rattle.td_headings.specs.declared.defined.Test.{Test}
use Rattle.td_headings.specs.declared.statement.TypedStatement.{TypedStatement}
use Rattle.td_semantics.specs.Databases.{DatabaseData, Stored, stored_relvars}
use Rattle.td_semantics.specs.Differences.{AreDifferences}
use Rattle.td_semantics.specs.Given.{Given, gives, nothing_given, with_given}
use Rattle.td_semantics.specs.Raises.{stop_of}
use Rattle.td_semantics.specs.Steps.{IsRead, Steps, TellsTest, done, failing_with, given_by, raised, refused, unread, with_all}
use Rattle.td_semantics.specs.Tests.{AreLegal, failing}
use Rattle.td_semantics.specs.declared.outcome.Outcome.{Outcome}
use Rattle.td_semantics.specs.declared.outcome.Outcome.TheVariants.{Done}
use Rattle.td_semantics.proofs.Legal.{all_pass}
use Rattle.td_insertions.specs.Insertions.{Inserts}
use Rattle.td_insertions.proofs.Readings.{one_reading}
use Rattle.td_accesses.specs.Laws.{Goes}

pub ok_same : {A : Type 0} (a b : A) → ◌≡◌ {A = Result A Stop} (Ok a) (Ok b) → a ≡ b
ok_same a b h = cc

ok_err : {A P : Type 0} (a : A) (e : Stop) → ◌≡◌ {A = Result A Stop} (Ok a) (Err e) → P
ok_err a e h = cc

pub none_differ : (x y : Stored) (ds : List (ℕ × DeltaData)) → AreDifferences (stored_relvars x) (stored_relvars x) ds → AreDifferences (stored_relvars y) (stored_relvars y) ds
none_differ x y ds l = record {
  once = l.once;
  only = λ p there. let o = (l.only p there).change in absurd ((l.only p there).apart (ok_same o.before o.after (sym o.was ∙ o.is)));
  all = λ n never. refl;
}

-- ---- a step that leads to ys, unless a test fails there
abbrev pub over : CatalogueData → Stored → DatabaseData
over c ys = record { catalogue = c; stored = ys }

abbrev pub fails : CatalogueData → Stored → Option (Test × Option Stop)
fails c ys = failing c (stored_relvars ys) c.tests

pub data Comes (c : CatalogueData) (xs ys : Stored) (o : Outcome) (e : DatabaseData) : Type 0 where
  stays : fails c ys ≡ None → Done ≡ o → over c ys ≡ e → Comes c xs ys o e
  goes : (t : Test) (q : Option Stop) → fails c ys ≡ Some (t, q) → TellsTest c t q o → over c xs ≡ e → Comes c xs ys o e

pub record LeadsTo (c : CatalogueData) (xs : Stored) (k : ℕ) (a : List ℕ) (ys : Stored) : Type 0 where
  pub comes : (e : DatabaseData) (o : Outcome) → Steps (over c xs) k a o e → Comes c xs ys o e
  pub made : fails c ys ≡ None → Steps (over c xs) k a Done (over c ys)
  pub refuses : (o : Outcome) (t : Test) (q : Option Stop) → fails c ys ≡ Some (t, q) → TellsTest c t q o → Steps (over c xs) k a o (over c xs)

-- that of an insertion does
module _ (c : CatalogueData) (xs : Stored) (k : ℕ) (a : List ℕ) (n : ℕ) (s r : RowsData) (x : Inserts c k a n s) (is : stored_relvars xs n ≡ Ok r) (heads : r.heading ≡ s.heading) where
  abbrev given : Given
  given = gives n (union_of r s) nothing_given

  abbrev from : DatabaseData
  from = over c xs

  it_gives : (y : TypedStatement) → IsRead c k a y → given_by from y ≡ Ok given
  it_gives y p = one_reading c (stored_relvars xs) k a y x.statement p x.reads ∙ x.is.adds (stored_relvars xs) r is heads

  comes_to : (e : DatabaseData) (o : Outcome) → Steps from k a o e → Comes c xs (with_given given xs) o e
  comes_to e o (unread h) = absurd (h x.statement x.reads)
  comes_to e o (raised {x = y} {e = f} p h) = ok_err given (stop_of f) (sym (it_gives y p) ∙ h)
  comes_to e o (refused {x = y} {g = g} {t = t} {o = q} p h i j) = goes t q (ap (failing_with from) (ok_same given g (sym (it_gives y p) ∙ h)) ∙ i) j refl
  comes_to e o (done {x = y} {g = g} p h i) =
      let same = ok_same given g (sym (it_gives y p) ∙ h) in
      stays (ap (failing_with from) same ∙ i) refl (ap (with_all from) same)

  pub insertion_leads : LeadsTo c xs k a (with_given given xs)
  insertion_leads = record {
    comes = comes_to;
    made = λ f. done x.reads (it_gives x.statement x.reads) f;
    refuses = λ o t q f told. refused x.reads (it_gives x.statement x.reads) f told;
  }

-- ---- two of them: each fails with the other one before it as it does without, and makes the same differences
pub record Exchange (c : CatalogueData) (k : ℕ) (a : List ℕ) (l : ℕ) (b : List ℕ) (xs ys zs both : Stored) : Type 0 where
  pub first : LeadsTo c xs k a ys
  pub second : LeadsTo c ys l b both
  pub other_first : LeadsTo c xs l b zs
  pub other_second : LeadsTo c zs k a both
  pub first_alike : AreLegal c (stored_relvars zs) → fails c ys ≡ fails c both
  pub second_alike : AreLegal c (stored_relvars ys) → fails c zs ≡ fails c both
  pub first_differs : (ds : List (ℕ × DeltaData)) → AreDifferences (stored_relvars xs) (stored_relvars ys) ds → AreDifferences (stored_relvars zs) (stored_relvars both) ds
  pub second_differs : (ds es : List (ℕ × DeltaData)) → AreDifferences (stored_relvars xs) (stored_relvars ys) ds → AreDifferences (stored_relvars ys) (stored_relvars both) es → AreDifferences (stored_relvars xs) (stored_relvars zs) es

module _ (c : CatalogueData) (k l : ℕ) (a b : List ℕ) (xs ys zs both : Stored) (x : Exchange c k a l b xs ys zs both) where
  abbrev Exchanged : Outcome → Outcome → List (ℕ × DeltaData) → List (ℕ × DeltaData) → DatabaseData → Type 0
  Exchanged o p ds es f = (g : DatabaseData) × Goes (over c xs) l b p es g × Goes g k a o ds f

  abbrev Makes : Stored → Stored → List (ℕ × DeltaData) → Type 0
  Makes vs ws ds = AreDifferences (stored_relvars vs) (stored_relvars ws) ds

  legal_by : (vs : Stored) → fails c vs ≡ None → AreLegal c (stored_relvars vs)
  legal_by vs none = all_pass c (stored_relvars vs) c.tests none

  -- where both are done
  both_done : (ds es : List (ℕ × DeltaData)) → fails c ys ≡ None → fails c both ≡ None → Makes xs ys ds → Makes ys both es → Exchanged Done Done ds es (over c both)
  both_done ds es one two here behind = (
    over c zs,
    record { step = x.other_first.made (x.second_alike (legal_by ys one) ∙ two); differences = x.second_differs ds es here behind },
    record { step = x.other_second.made two; differences = x.first_differs ds here },
  )

  -- where the second is refused
  first_done : (p : Outcome) (u : Test) (q : Option Stop) (ds es : List (ℕ × DeltaData)) → fails c ys ≡ None → fails c both ≡ Some (u, q) → TellsTest c u q p → Makes xs ys ds → Makes ys ys es → Exchanged Done p ds es (over c ys)
  first_done p u q ds es one two told here behind = (
    over c xs,
    record { step = x.other_first.refuses p u q (x.second_alike (legal_by ys one) ∙ two) told; differences = none_differ ys xs es behind },
    record { step = x.first.made one; differences = here },
  )

  -- where the first is refused
  second_done : (o : Outcome) (u : Test) (q : Option Stop) (ds es : List (ℕ × DeltaData)) → fails c ys ≡ Some (u, q) → TellsTest c u q o → fails c zs ≡ None → Makes xs xs ds → Makes xs zs es → Exchanged o Done ds es (over c zs)
  second_done o u q ds es one told two here behind = (
    over c zs,
    record { step = x.other_first.made two; differences = behind },
    record { step = x.other_second.refuses o u q (sym (x.first_alike (legal_by zs two)) ∙ one) told; differences = none_differ xs zs ds here },
  )

  after_first : (f : DatabaseData) (p : Outcome) (ds es : List (ℕ × DeltaData)) → fails c ys ≡ None → Makes xs ys ds → AreDifferences (stored_relvars ys) (stored_relvars f.stored) es → Comes c ys both p f → Exchanged Done p ds es f
  after_first f p ds es one here behind (stays two done_is end) =
      subst (λ (z : DatabaseData). Exchanged Done p ds es z) end
      (subst (λ (z : Outcome). Exchanged Done z ds es (over c both)) done_is
      (both_done ds es one two here (subst (λ (z : DatabaseData). AreDifferences (stored_relvars ys) (stored_relvars z.stored) es) (sym end) behind)))
  after_first f p ds es one here behind (goes u q two told end) =
      subst (λ (z : DatabaseData). Exchanged Done p ds es z) end
      (first_done p u q ds es one two told here (subst (λ (z : DatabaseData). AreDifferences (stored_relvars ys) (stored_relvars z.stored) es) (sym end) behind))

  after_refusal : (f : DatabaseData) (o p : Outcome) (u : Test) (q : Option Stop) (ds es : List (ℕ × DeltaData)) → fails c ys ≡ Some (u, q) → TellsTest c u q o → Makes xs xs ds → Goes (over c xs) l b p es f → Comes c xs zs p f → Exchanged o p ds es f
  after_refusal f o p u q ds es one told here went (stays two done_is end) =
      subst (λ (z : DatabaseData). Exchanged o p ds es z) end
      (subst (λ (z : Outcome). Exchanged o z ds es (over c zs)) done_is
      (second_done o u q ds es one told two here (subst (λ (z : DatabaseData). AreDifferences (stored_relvars xs) (stored_relvars z.stored) es) (sym end) went.differences)))
  after_refusal f o p u q ds es one told here went (goes v w two other end) =
      (f, went, subst (λ (z : DatabaseData). Goes z k a o ds z) end (record { step = x.first.refuses o u q one told; differences = here }))

  pub exchanged : (e f : DatabaseData) (o p : Outcome) (ds es : List (ℕ × DeltaData)) → Goes (over c xs) k a o ds e → Goes e l b p es f → Exchanged o p ds es f
  exchanged e f o p ds es one two = by (x.first.comes e o one.step)
    where
      by : Comes c xs ys o e → Exchanged o p ds es f
      by (stays first done_is end) =
          let went : Goes (over c ys) l b p es f = subst (λ (z : DatabaseData). Goes z l b p es f) (sym end) two in
          subst (λ (z : Outcome). Exchanged z p ds es f) done_is
          (after_first f p ds es first (subst (λ (z : DatabaseData). AreDifferences (stored_relvars xs) (stored_relvars z.stored) ds) (sym end) one.differences) went.differences (x.second.comes f p went.step))
      by (goes u q first told end) =
          let went : Goes (over c xs) l b p es f = subst (λ (z : DatabaseData). Goes z l b p es f) (sym end) two in
          after_refusal f o p u q ds es first told (subst (λ (z : DatabaseData). AreDifferences (stored_relvars xs) (stored_relvars z.stored) ds) (sym end) one.differences) went (x.other_first.comes f p went.step)
