-- A relvar that is changed where it stands: the change that an assignment makes, what it leaves, and the way back.
use Rattle.std.proofs.Common.{◌≡◌, ◌<◌, ◌≤◌, length, ℕ, zero, suc, ◌==◌, ◌↔◌, Bool, true, false, IsTrue, not, ◌&&◌, ◌||◌, if◌then◌else◌, List, [], ◌∷◌, Option, None, Some, slice_get, get_or, Result, Ok, Err, refl, ap, sym, ◌∙◌, subst, arith, true≢false}
use Rattle.std.specs.List.{Contains}
use Rattle.std.specs.FinSet as set
use Rattle.std.proofs.lemmas.List.Elements.{All-cons}
use Rattle.td_values.specs.Data.{Attrs, no_attrs}
use Rattle.td_values.specs.Order.{attrs_order}
use Rattle.td_values.specs.Proving.Total.{attrs_order_total, attrs_tied}
use Rattle.td_values.specs.Rows.{AreRows, RowsData}
use Rattle.td_relations.specs.Deltas.{DeltaData, IsDifference, applied, inverse_of}
use Rattle.td_relations.specs.Sets.{Has, IsRelation, TupleSet, body, relation_of}
use Rattle.td_relations.proofs.Changes.{rows_of_change}
use Rattle.td_relations.proofs.Edits.{difference_nothing, union_nothing}
use Rattle.td_relations.proofs.Members.{ascending_ascends, relation_is, relation_of_is}
use Rattle.td_algebra.specs.Functions.{union_of}
use Rattle.td_algebra.specs.Raising.{and_then}
use Rattle.td_algebra.specs.declared.errors.Stop.{Stop}
use Rattle.td_headings.specs.Catalogues.{CatalogueData}
use Rattle.td_headings.specs.Reached.{is_base}
use Rattle.td_headings.specs.declared.defined.Test.{Test}
use Rattle.td_headings.specs.declared.statement.TypedAssignment.{TypedAssignment}
use Rattle.td_headings.specs.declared.statement.TypedStatement.{TypedStatement}
use Rattle.td_meaning.specs.Mean.{Relvars}
use Rattle.td_operators.specs.Values.{rows_of}
use Rattle.td_semantics.specs.Databases.{DatabaseData, IsDatabase, IsLegal, Stored, with_relation, stored_relvars}
use Rattle.td_semantics.specs.Differences.{AreDifferences, Differs}
use Rattle.td_semantics.proofs.Leading.{differences_lead}
use Rattle.td_semantics.specs.Given.{gives, nothing_given, seen, with_given}
use Rattle.td_semantics.specs.Reports.{IsReport}
use Rattle.td_semantics.specs.Steps.{IsRead, Steps, TellsTest, done, given_by, refused}
use Rattle.td_semantics.specs.declared.broken.TestFailure.{TestFailure}
use Rattle.td_semantics.specs.Tests.{failing}
use Rattle.td_semantics.specs.Trees.{tree_means}
use Rattle.td_eval.specs.Added.{TellsAdded}
use Rattle.td_eval.specs.Changed.{TellsChanged}
use Rattle.td_semantics.proofs.Legal.{all_pass}
use Rattle.td_semantics.specs.declared.failure.Failure.{Failure}
use Rattle.td_semantics.specs.declared.failure.Failure.TheVariants as failure
use Rattle.td_semantics.specs.declared.outcome.Outcome.{Outcome}
use Rattle.td_semantics.specs.declared.outcome.Outcome.TheVariants.{Done}
use Rattle.td_relvars.specs.Changed.{CanChange, change, changed, with_change}
use Rattle.td_relvars.specs.Ways.{LeadsBackAt, WayBackData}
use Rattle.td_relvars.proofs.Kept.{changed_is}
use Rattle.td_relvars.proofs.Places.{change_other, change_put, change_there}
use Rattle.td_integrity.specs.Changes.{PassedBefore}
use Rattle.td_integrity.proofs.Legal.{legal as all_legal}
use Rattle.td_assign.specs.Laws.{GoesBothWays}
use Rattle.td_assign.specs.ForProofs.Given.{IsAssigned, Stands, assigned_by}
use Rattle.td_assign.specs.ForProofs.Turning.{Adds, CameFrom, Gives, IsTurned, IsGrowth, IsOneTurn, IsTried, MayTurn, TakesNothing, TellsAddition, TellsAlone, ChangesSome, IsExact, failing_turned, goes, means_alone, stays}
use Rattle.td_assign.proofs.Leading.{differences_go_both_ways}
use Rattle.td_assign.proofs.Listed.{first_there, there_cases}
use Rattle.td_assign.specs.ForProofs.Prepared.{MakesTurn}
use Rattle.td_assign.proofs.Preparing.{given_as, no_differences, passes, reported}
use Rattle.td_assign.proofs.Replacing.{given_nothing, put_first}
use Rattle.td_assign.proofs.Stepping.{alone_belongs}

-- ---- sets
more_is : (b s : Bool) → ((b && not false) || (s && not b)) ≡ (b || s)
more_is true s = refl
more_is false true = refl
more_is false false = refl

new_is : (b s : Bool) → (s && not b) ≡ ((b || s) && not b)
new_is true true = refl
new_is true false = refl
new_is false s = refl

none_is : (b s : Bool) → false ≡ (b && not (b || s))
none_is true s = refl
none_is false s = refl

module _ (b s : TupleSet) where
  abbrev in_new : TupleSet
  in_new = set.difference s b

  with_new : set.union (set.difference b set.empty) in_new ≡ set.union b s
  with_new = set.same_set attrs_order_total attrs_tied _ _ (λ q.
      set.contains-union attrs_order_total (set.difference b set.empty) in_new q
      ∙ (λ i. set.contains-difference attrs_order_total b set.empty q i || set.contains-difference attrs_order_total s b q i)
      ∙ ap (λ e. (set.contains b q && not e) || (set.contains s q && not (set.contains b q))) (set.contains-empty attrs_order q)
      ∙ more_is (set.contains b q) (set.contains s q)
      ∙ sym (set.contains-union attrs_order_total b s q))

  new_alone : in_new ≡ set.difference (set.union b s) b
  new_alone = set.same_set attrs_order_total attrs_tied _ _ (λ q.
      set.contains-difference attrs_order_total s b q
      ∙ new_is (set.contains b q) (set.contains s q)
      ∙ ap (λ e. e && not (set.contains b q)) (sym (set.contains-union attrs_order_total b s q))
      ∙ sym (set.contains-difference attrs_order_total (set.union b s) b q))

  none_alone : ◌≡◌ {A = TupleSet} set.empty (set.difference b (set.union b s))
  none_alone = set.same_set attrs_order_total attrs_tied _ _ (λ q.
      set.contains-empty attrs_order q
      ∙ none_is (set.contains b q) (set.contains s q)
      ∙ ap (λ e. set.contains b q && not e) (sym (set.contains-union attrs_order_total b s q))
      ∙ sym (set.contains-difference attrs_order_total b (set.union b s) q))

nothing_left : (a : Bool) → (a && not a) ≡ false
nothing_left true = refl
nothing_left false = refl

nothing_but : (s : TupleSet) → ◌≡◌ {A = TupleSet} (set.difference s s) set.empty
nothing_but s = set.same_set attrs_order_total attrs_tied _ _ (λ q.
    set.contains-difference attrs_order_total s s q ∙ nothing_left (set.contains s q) ∙ sym (set.contains-empty attrs_order q))

-- ---- what stands at a place
ok_same : (a b : RowsData) → ◌≡◌ {A = Result RowsData Stop} (Ok a) (Ok b) → a ≡ b
ok_same a b h = cc

put_same : (n : ℕ) (r : RowsData) (stored : Stored) (q : RowsData) → q ≡ r → stored_relvars stored n ≡ Ok r → with_relation n q stored ≡ stored
put_same n r [] q same h = refl
put_same zero r (None ∷ xs) q same h = cc
put_same zero r (Some o ∷ xs) q same h = ap (λ v. Some v ∷ xs) (same ∙ sym (ok_same o r h))
put_same (suc n) r (x ∷ xs) q same h = ap (λ ys. x ∷ ys) (put_same n r xs q same h)

-- ---- the change
module _ (d : DatabaseData) (n : ℕ) (s : RowsData) (x : DeltaData) (g : IsGrowth d n s x) where
  abbrev old : RowsData
  old = g.before

  abbrev new : RowsData
  new = changed old x

  grown : applied (body old) x ≡ set.union (body old) (body s)
  grown = (λ i. set.union (set.difference (body old) (g.deleted.members i)) (g.inserted.members i)) ∙ with_new (body old) (body s)

  pub is_union : new ≡ union_of old s
  unfolding union_of
  is_union = ap (relation_of old.heading) grown

  body_new : body new ≡ set.union (body old) (body s)
  body_new = (relation_of_is old.heading (applied (body old) x)).members ∙ grown

  pub differs : IsDifference old new x
  differs = record {
    inserted = record { heading = g.inserted.heading; members = g.inserted.members ∙ new_alone (body old) (body s) ∙ ap (λ w. set.difference w (body old)) (sym body_new); ascending = g.inserted.ascending };
    deleted = record { heading = g.deleted.heading; members = g.deleted.members ∙ none_alone (body old) (body s) ∙ ap (set.difference (body old)) (sym body_new); ascending = g.deleted.ascending };
  }

  pub growth_exact : IsExact d n x
  growth_exact = record { before = old; has = g.has; rows = g.rows; new_rows = g.new_rows; difference = differs }

module _ (d : DatabaseData) (n : ℕ) (x : DeltaData) (g : IsExact d n x) where
  abbrev was : RowsData
  was = g.before

  abbrev is_now : RowsData
  is_now = changed was x

  rows_new : AreRows is_now.heading is_now.tuples
  rows_new = rows_of_change was.heading was.tuples x.deleted.tuples x.inserted.tuples is_now.tuples g.rows (subst (λ h. AreRows h x.inserted.tuples) g.difference.inserted.heading g.new_rows) (ascending_ascends (applied (body was) x)) ((relation_of_is was.heading (applied (body was) x)).members)

  apart : ChangesSome x → was ≡ is_now → ⊥
  apart some e = some (
    g.difference.inserted.members ∙ ap (λ (r : RowsData). set.difference (body is_now) (body r)) e ∙ nothing_but (body is_now),
    g.difference.deleted.members ∙ ap (λ (r : RowsData). set.difference (body r) (body is_now)) e ∙ nothing_but (body is_now),
  )

  pub one_differs : ChangesSome x → Differs (stored_relvars d.stored) (stored_relvars (change n x d.stored)) n x
  one_differs some = record {
    change = record {
      before = was;
      after = is_now;
      was = g.has;
      is = change_there n x d.stored was g.has;
      one_heading = refl;
      was_rows = g.rows;
      is_rows = rows_new;
      difference = g.difference;
    };
    apart = apart some;
  }

  pub differences : ChangesSome x → AreDifferences (stored_relvars d.stored) (stored_relvars (change n x d.stored)) ((n, x) ∷ [])
  differences some = record {
    once = λ i j e before within. absurd (omega (arith, before, within));
    only = λ p there. subst (λ (q : ℕ × DeltaData). Differs (stored_relvars d.stored) (stored_relvars (change n x d.stored)) q.0 q.1) (the_one p there) (one_differs some);
    all = λ m never. change_other n m x d.stored (λ e. never x (subst (λ (k : ℕ). Contains {X = ℕ × DeltaData} ((n, x) ∷ []) (k, x)) e (first_there (n, x) [])));
  }
    where
      the_one : (p : ℕ × DeltaData) → Contains ((n, x) ∷ []) p → (n, x) ≡ p
      the_one p there = there_cases (n, x) p [] there (λ e. e) (λ none. absurd (omega (arith, none.1)))

  -- an empty change changes nothing
  pub nothing_new : (body x.inserted ≡ set.empty) × (body x.deleted ≡ set.empty) → was ≡ is_now
  nothing_new none =
      let same : body was ≡ applied (body was) x = difference_nothing (body was) ∙ union_nothing (set.difference (body was) set.empty) ∙ (λ i. set.union (set.difference (body was) (sym none.1 i)) (sym none.0 i)) in
      relation_is was.heading (body was) was (record { heading = refl; members = refl; ascending = g.rows.ascending }) ∙ ap (relation_of was.heading) same

-- ---- the database with the change, and the way back
module _ (d : DatabaseData) (n : ℕ) (x : DeltaData) (is : IsDatabase d) (m : MayTurn d n x) where
  pub can : CanChange d n x
  can = record { before = m.exact.before; has = m.exact.has; heading = m.exact.difference.inserted.heading; belongs = m.belongs }

  pub turned_is : IsDatabase (with_change n x d)
  turned_is = changed_is d.catalogue d.stored n x is can

  pub gives_change : with_given (gives n (changed m.exact.before x) nothing_given) d.stored ≡ change n x d.stored
  gives_change =
      put_first n (changed m.exact.before x) nothing_given d.stored refl
      ∙ given_nothing (with_relation n (changed m.exact.before x) d.stored)
      ∙ sym (change_put n x d.stored m.exact.before m.exact.has)

  pub unchanged : (body x.inserted ≡ set.empty) × (body x.deleted ≡ set.empty) → with_change n x d ≡ d
  unchanged none =
      let same : change n x d.stored ≡ d.stored = change_put n x d.stored m.exact.before m.exact.has ∙ put_same n m.exact.before d.stored (changed m.exact.before x) (sym (nothing_new d n x m.exact none)) m.exact.has in
      λ i. record { catalogue = d.catalogue; stored = same i }

  module _ (some : ChangesSome x) where
    abbrev changes : List (ℕ × DeltaData)
    changes = (n, x) ∷ []

    pub both_ways : GoesBothWays d (with_change n x d) changes
    both_ways = differences_go_both_ways d (with_change n x d) changes is turned_is refl (differences d n x m.exact some)

    pub can_back : CanChange (with_change n x d) n (inverse_of x)
    can_back = both_ways.can_undo (n, inverse_of x) (first_there (n, inverse_of x) [])

    pub back : with_change n (inverse_of x) (with_change n x d) ≡ d
    back = both_ways.back

    pub passed : IsLegal d → PassedBefore d.catalogue (stored_relvars (change n x d.stored)) changes
    passed legal = record { before = stored_relvars d.stored; legal = legal; lead = differences_lead _ _ changes (differences d n x m.exact some) }

-- ---- what the step of the statement is
module _ (d : DatabaseData) (dialect : ℕ) (text : List ℕ) (z : TypedStatement) (p : IsRead d.catalogue dialect text z) (n : ℕ) (x : DeltaData) (is : IsDatabase d) (turns : MakesTurn d z n x) where
  abbrev may : MayTurn d n x
  may = turns.2.0

  given : given_by d z ≡ Ok (gives n (changed may.exact.before x) nothing_given)
  given = given_as d z turns.0 turns.1 ∙ turns.2.1

  abbrev given_stored : Stored
  given_stored = with_given (gives n (changed may.exact.before x) nothing_given) d.stored

  same : given_stored ≡ change n x d.stored
  same = gives_change d n x is may

  abbrev Failing : Stored → Option (Test × Option Stop)
  Failing stored = failing d.catalogue (stored_relvars stored) d.catalogue.tests

  pub turned_step : (o : Outcome) (ds : List (ℕ × DeltaData)) (e : DatabaseData) → IsTurned d n x o ds e → Steps d dialect text o e
  turned_step o ds e (stays none differ) = subst (Steps d dialect text Done) (λ i. record { catalogue = d.catalogue; stored = same i }) (done p given (ap Failing same ∙ none))
  turned_step o ds e (goes some tells) = refused p given (ap Failing same ∙ some) tells

  pub turned_differences : (o : Outcome) (ds : List (ℕ × DeltaData)) (e : DatabaseData) → IsTurned d n x o ds e → AreDifferences (stored_relvars d.stored) (stored_relvars e.stored) ds
  turned_differences o ds e (stays none differ) = differ
  turned_differences o ds e (goes some tells) = no_differences (stored_relvars d.stored)

  pub turned_legal : (o : Outcome) (ds : List (ℕ × DeltaData)) (e : DatabaseData) → IsLegal d → IsTurned d n x o ds e → IsLegal e
  turned_legal o ds e legal (stays none differ) = all_pass d.catalogue (stored_relvars (change n x d.stored)) d.catalogue.tests none
  turned_legal o ds e legal (goes some tells) = legal

-- ---- where nothing is given yet, a source sees the relvars as they are
pub seen_nothing : (t : ℕ) (relvars : Relvars) → seen nothing_given t relvars ≡ relvars
seen_nothing t relvars = λ i m. by (t == m) (relvars m) i
  where
    by : (b : Bool) (r : Result RowsData Stop) → (if b then r else r) ≡ r
    by true r = refl
    by false r = refl

-- a growth is such a change
pub grows_alone : (d : DatabaseData) (a : TypedAssignment) (s : RowsData) (x : DeltaData) → IsDatabase d → IsAssigned d.catalogue a → (adds : Adds d a.target s) → means_alone d a ≡ Ok (union_of adds.before s) → IsGrowth d a.target s x → TellsAlone d a (Ok (Some x))
unfolding growth_exact
grows_alone d a s x is assigned adds means g =
    let same : adds.before ≡ g.before = ok_same adds.before g.before (sym adds.has ∙ g.has) in
    let told : means_alone d a ≡ Ok (changed g.before x) = means ∙ ap (λ r. Ok (union_of r s)) same ∙ ap Ok (sym (is_union d a.target s x g)) in
    let belongs = alone_belongs d is assigned.0 a assigned.1 (changed g.before x) told in
    (record { exact = growth_exact d a.target s x g; belongs = belongs }, told)

-- and what evaluation tells of the source is one
pub turns_alone : (d : DatabaseData) (a : TypedAssignment) (r : RowsData) (x : DeltaData) → IsDatabase d → IsAssigned d.catalogue a → stored_relvars d.stored a.target ≡ Ok r → AreRows r.heading r.tuples → AreRows x.inserted.heading x.inserted.tuples → means_alone d a ≡ Ok (changed r x) → IsDifference r (changed r x) x → TellsAlone d a (Ok (Some x))
turns_alone d a r x is assigned has rows new_rows told differs = (
  record {
    exact = record { before = r; has = has; rows = rows; new_rows = new_rows; difference = differs };
    belongs = alone_belongs d is assigned.0 a assigned.1 (changed r x) told;
  },
  told,
)

pub gives_alone : (d : DatabaseData) (a : TypedAssignment) (x : DeltaData) → TellsAlone d a (Ok (Some x)) → Gives d (a ∷ []) a.target x
gives_alone d a x told = (told.0, ap (λ o. and_then o (λ r. Ok (gives a.target r nothing_given))) told.1)

pub raises_alone : (d : DatabaseData) (a : TypedAssignment) (f : Failure) → Stands f (means_alone d a) → Stands f (assigned_by d (a ∷ []))
raises_alone d a (failure.Raised e) h = ap (λ o. and_then o (λ r. Ok (gives a.target r nothing_given))) h
raises_alone d a failure.OutOfMemory h = tt

-- ---- what evaluation tells of the source
module _ (d : DatabaseData) (a : TypedAssignment) where
  alone : means_alone d a ≡ and_then (tree_means d.catalogue (stored_relvars d.stored) a.source.tree no_attrs) rows_of
  alone = ap (λ (r : Relvars). and_then (tree_means d.catalogue r a.source.tree no_attrs) rows_of) (seen_nothing a.target (stored_relvars d.stored))

  pub told_addition : (m : Result (Option RowsData) Failure) → TellsAdded (stored_relvars d.stored a.target) (and_then (tree_means d.catalogue (stored_relvars d.stored) a.source.tree no_attrs) rows_of) m → TellsAddition d a m
  told_addition (Ok None) h = tt
  told_addition (Ok (Some s)) h = (record { before = h.0; has = h.1; heading = h.3 }, alone ∙ h.2)
  told_addition (Err (failure.Raised e)) h = alone ∙ h
  told_addition (Err failure.OutOfMemory) h = tt

  abbrev Source : Result RowsData Stop
  Source = and_then (tree_means d.catalogue (stored_relvars d.stored) a.source.tree no_attrs) rows_of

  pub told_exchange : (x : DeltaData) → IsDatabase d → IsAssigned d.catalogue a → ((r : RowsData) → stored_relvars d.stored a.target ≡ Ok r → AreRows r.heading r.tuples) → AreRows x.inserted.heading x.inserted.tuples → TellsChanged (stored_relvars d.stored a.target) Source (Ok (Some x)) → TellsAlone d a (Ok (Some x))
  told_exchange x is assigned rows new_rows told = turns_alone d a told.0 x is assigned told.1 (rows told.0 told.1) new_rows (alone ∙ told.2) told.3

  pub told_raised : (f : Failure) → TellsChanged (stored_relvars d.stored a.target) Source (Err f) → Stands f (means_alone d a)
  told_raised (failure.Raised e) h = alone ∙ h
  told_raised failure.OutOfMemory h = tt

  pub is_real : IsAssigned d.catalogue a → is_base (slice_get d.catalogue.origins a.target) ≡ true
  is_real assigned = ap is_base assigned.1.is_real

-- ---- the change that puts in what is lacking
pub apart_from_none : (i n : RowsData) → body n ≡ set.empty → (t : Attrs) → Has i t → ¬ (Has n t)
apart_from_none i n none t has there = true≢false (sym (sym (ap (λ w. set.contains w t) none) ∙ there) ∙ set.contains-empty attrs_order t)

module _ (d : DatabaseData) (n : ℕ) (s before : RowsData) (adds : Adds d n s) (has : stored_relvars d.stored n ≡ Ok before) where
  pub of_target : s.heading ≡ before.heading
  of_target = adds.heading ∙ ap (λ (r : RowsData). r.heading) (ok_same adds.before before (sym adds.has ∙ has))

  pub growth_is : (i e : RowsData) (x : DeltaData) → AreRows before.heading before.tuples → AreRows i.heading i.tuples → IsRelation s.heading (set.difference (body s) (body before)) i → IsRelation s.heading set.empty e → x ≡ record { inserted = i; deleted = e } → IsGrowth d n s x
  growth_is i e x rows new_rows inserted deleted is = subst (IsGrowth d n s) (sym is) (record {
    before = before;
    has = has;
    rows = rows;
    new_rows = new_rows;
    inserted = subst (λ h. IsRelation h (set.difference (body s) (body before)) i) of_target inserted;
    deleted = subst (λ h. IsRelation h set.empty e) of_target deleted;
  })

first_place : (n : ℕ) (ns : List ℕ) → Contains (n ∷ ns) n
first_place n ns = (0, omega arith, refl)

-- ---- a list of one change
module _ (d : DatabaseData) (changes : List (ℕ × DeltaData)) (is : IsDatabase d) (one : IsOneTurn d changes) (p : ℕ × DeltaData) (at : p ≡ get_or changes 0 p) where
  first : p ≡ (one.relvar, one.delta)
  first = at ∙ ap (λ (l : List (ℕ × DeltaData)). get_or l 0 p) one.one

  pub can_first : CanChange d p.0 p.1
  can_first = subst (λ (q : ℕ × DeltaData). CanChange d q.0 q.1) (sym first) (can d one.relvar one.delta is one.turns)

  module _ (e : DatabaseData) (made : e ≡ with_change p.0 p.1 d) where
    here : e ≡ with_change one.relvar one.delta d
    here = made ∙ ap (λ (q : ℕ × DeltaData). with_change q.0 q.1 d) first

    pub first_passed : (k : CatalogueData) → k ≡ e.catalogue → IsLegal d → PassedBefore k (stored_relvars e.stored) changes
    first_passed k same legal =
        subst (λ (z : CatalogueData). PassedBefore z (stored_relvars e.stored) changes) (sym same)
        (subst (λ (q : DatabaseData). PassedBefore q.catalogue (stored_relvars q.stored) changes) (sym here)
        (subst (λ l. PassedBefore d.catalogue (stored_relvars (change one.relvar one.delta d.stored)) l) (sym one.one) (passed d one.relvar one.delta is one.turns one.some legal)))

    pub first_back : CanChange e p.0 (inverse_of p.1)
    first_back =
        subst (λ (q : DatabaseData). CanChange q p.0 (inverse_of p.1)) (sym here)
        (subst (λ (q : ℕ × DeltaData). CanChange (with_change one.relvar one.delta d) q.0 (inverse_of q.1)) (sym first) (can_back d one.relvar one.delta is one.turns one.some))

    pub is_back : (f : DatabaseData) → f ≡ with_change p.0 (inverse_of p.1) e → f ≡ d
    is_back f taken =
        taken
        ∙ (λ i. with_change (first i).0 (inverse_of (first i).1) (here i))
        ∙ back d one.relvar one.delta is one.turns one.some

    told_of : (k : CatalogueData) (o : Option TestFailure) → k ≡ e.catalogue → IsReport k (failing k (stored_relvars e.stored) k.tests) o → IsReport d.catalogue (failing_turned d one.relvar one.delta) o
    told_of k o same h =
        subst (λ (q : DatabaseData). IsReport q.catalogue (failing q.catalogue (stored_relvars q.stored) q.catalogue.tests) o) here
        (subst (λ (z : CatalogueData). IsReport z (failing z (stored_relvars e.stored) z.tests) o) same h)

    pub tried_stays : (E : Type 0) (k : CatalogueData) (o : Option TestFailure) → k ≡ e.catalogue → o ≡ None → IsReport k (failing k (stored_relvars e.stored) k.tests) o → IsTried {E = E} d changes (Ok None) e
    tried_stays E k o same none h = (
      one.relvar,
      one.delta,
      one.one,
      passes d.catalogue (failing_turned d one.relvar one.delta) (subst (IsReport d.catalogue (failing_turned d one.relvar one.delta)) none (told_of k o same h)),
      here,
    )

    pub tried_goes : (E : Type 0) (k : CatalogueData) (o : Option TestFailure) (failed : TestFailure) (f : DatabaseData) → k ≡ e.catalogue → o ≡ Some failed → f ≡ d → IsReport k (failing k (stored_relvars e.stored) k.tests) o → IsTried {E = E} d changes (Ok (Some failed)) f
    tried_goes E k o failed f same some restored h = (
      one.relvar,
      one.delta,
      one.one,
      subst (IsReport d.catalogue (failing_turned d one.relvar one.delta)) some (told_of k o same h),
      restored,
    )

pub one_change : (d : DatabaseData) (changes : List (ℕ × DeltaData)) → IsOneTurn d changes → 0 < length changes
one_change d cs one = let many = ap length one.one in omega (arith, many)

pub takes_nothing : (n : ℕ) (x : DeltaData) (changes : List (ℕ × DeltaData)) → changes ≡ (n, x) ∷ [] → body x.deleted ≡ set.empty → TakesNothing changes
takes_nothing n x cs one none = subst TakesNothing (sym one) (All-cons (λ (p : ℕ × DeltaData). body p.1.deleted ≡ set.empty) (n, x) [] none (λ k q lt. absurd (omega (arith, lt))))

pub taken_nothing : (changes : List (ℕ × DeltaData)) → TakesNothing changes → 0 < length changes → (p : ℕ × DeltaData) → p ≡ get_or changes 0 p → body p.1.deleted ≡ set.empty
taken_nothing cs nothing some p at = ap (λ (q : ℕ × DeltaData). body q.1.deleted) at ∙ nothing 0 p some

-- ---- the way back that was made before
module _ (d : DatabaseData) (changes : List (ℕ × DeltaData)) (is : IsDatabase d) (one : IsOneTurn d changes) (p : ℕ × DeltaData) (at : p ≡ get_or changes 0 p) (e : DatabaseData) (made : e ≡ with_change p.0 p.1 d) (way : WayBackData) (leads : LeadsBackAt d p.0 p.1 way) where
  pub came_from : CameFrom d p way e
  came_from = record {
    can_go = record {
      change = first_back d changes is one p at e made;
      before = leads.0;
      made = ap (λ (q : DatabaseData). stored_relvars q.stored p.0) made ∙ change_there p.0 p.1 d.stored leads.0 leads.1;
      way = leads.2;
    };
    back = is_back d changes is one p at e made (with_change p.0 (inverse_of p.1) e) refl;
  }

-- ---- what becomes of the statement
pub some_change : (i x : RowsData) (b : Bool) → IsTrue b ↔ ((body i ≡ set.empty) × (body x ≡ set.empty)) → b ≡ false → (body i ≡ set.empty) × (body x ≡ set.empty) → ⊥
some_change i x b says is_false none = true≢false (sym (says.1 none) ∙ is_false)

module _ (d : DatabaseData) (n : ℕ) (x : DeltaData) (is : IsDatabase d) (m : MayTurn d n x) (ds : List (ℕ × DeltaData)) where
  pub nothing_turned : (body x.inserted ≡ set.empty) × (body x.deleted ≡ set.empty) → IsLegal d → ds ≡ [] → IsTurned d n x Done ds d
  nothing_turned none legal nothing =
      let stored : change n x d.stored ≡ d.stored = ap (λ (q : DatabaseData). q.stored) (unchanged d n x is m none) in
      subst (IsTurned d n x Done ds) (unchanged d n x is m none)
      (stays
      (ap (λ s. failing d.catalogue (stored_relvars s) d.catalogue.tests) stored ∙ (all_legal d.catalogue (stored_relvars d.stored)).1 legal)
      (subst (AreDifferences (stored_relvars d.stored) (stored_relvars (change n x d.stored))) (sym nothing)
      (subst (λ s. AreDifferences (stored_relvars d.stored) (stored_relvars s) []) (sym stored) (no_differences (stored_relvars d.stored)))))

  module _ (E : Type 0) (changes : List (ℕ × DeltaData)) (one : changes ≡ (n, x) ∷ []) (o : Option TestFailure) (e : DatabaseData) (tried : IsTried {E = E} d changes (Ok o) e) where
    the_change : (k : ℕ) (y : DeltaData) → changes ≡ (k, y) ∷ [] → ◌≡◌ {A = ℕ × DeltaData} (k, y) (n, x)
    the_change k y other =
        let p : ℕ × DeltaData = (k, y) in
        let q : ℕ × DeltaData = (n, x) in
        let same : p ∷ [] ≡ q ∷ [] = sym other ∙ one in
        ap (λ (l : List (ℕ × DeltaData)). get_or l 0 q) same

    pub turned_stays : o ≡ None → ChangesSome x → ds ≡ (n, x) ∷ [] → IsTurned d n x Done ds e
    turned_stays none some listed =
        let t = subst (λ q. IsTried {E = E} d changes (Ok q) e) none tried in
        let same = the_change t.0 t.1 t.2 in
        subst (IsTurned d n x Done ds) (sym (t.4 ∙ ap (λ (q : ℕ × DeltaData). with_change q.0 q.1 d) same))
        (stays
        (sym (ap (λ (q : ℕ × DeltaData). failing_turned d q.0 q.1) same) ∙ t.3)
        (subst (AreDifferences (stored_relvars d.stored) (stored_relvars (change n x d.stored))) (sym listed) (differences d n x m.exact some)))

    pub turned_goes : (f : TestFailure) (out : Outcome) → o ≡ Some f → ds ≡ [] → ((c : CatalogueData) (t : Test) (s : Option Stop) → IsReport c (Some (t, s)) (Some f) → TellsTest c t s out) → IsTurned d n x out ds e
    turned_goes f out some nothing tells =
        let t = subst (λ q. IsTried {E = E} d changes (Ok q) e) some tried in
        let same = the_change t.0 t.1 t.2 in
        let told = reported d.catalogue (failing_turned d n x) f (subst (λ (q : ℕ × DeltaData). IsReport d.catalogue (failing_turned d q.0 q.1) (Some f)) same t.3) in
        subst (λ q. IsTurned d n x out ds q) (sym t.4) (subst (λ l. IsTurned d n x out l d) (sym nothing) (goes told.2 (tells d.catalogue told.0 told.1 told.3)))

pub one_alone : {A : Type 0} (xs : List A) (x : A) → 1 ≤ length xs → length xs < 2 → x ≡ get_or xs 0 x → xs ≡ x ∷ []
one_alone [] x least most at = absurd (omega arith)
one_alone (y ∷ []) x least most at = ap (λ z. z ∷ []) (sym at)
one_alone (y ∷ z ∷ xs) x least most at = absurd (omega arith)
