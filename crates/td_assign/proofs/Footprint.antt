-- Legal databases that agree on the footprint of a text give it one outcome and the same differences.
use Rattle.std.proofs.Common.{◌≡◌, ◌⊎◌, inl, inr, ⊎_elim, ◌==◌, ℕ, zero, suc, pred, Bool, true, false, if◌then◌else◌, eqb-true, List, [], ◌∷◌, ◌++◌, map, length, Option, None, Some, slice_get, Result, Ok, Err, refl, ap, sym, ◌∙◌, subst, arith}
use Rattle.std.specs.List.{Contains}
use Rattle.std.proofs.lemmas.Bool.{cases_eq}
use Rattle.std.proofs.lemmas.List.Elements.{Contains-append_left, Contains-append_right}
use Rattle.std.proofs.lemmas.Option.{slice_get-get_or}
use Rattle.td_values.specs.Data.{no_attrs}
use Rattle.td_values.specs.Rows.{RowsData}
use Rattle.td_values.specs.declared.TypeKind.TheVariants as kind
use Rattle.td_syntax.specs.declared.script.Action.{Action}
use Rattle.td_syntax.specs.declared.script.Statement.{Statement}
use Rattle.td_syntax.specs.declared.script.Statement.TheVariants as statement
use Rattle.td_syntax.specs.declared.tree.Expr.{Expr}
use Rattle.td_typed_trees.specs.declared.expression.Expression.{Expression}
use Rattle.td_relations.specs.Deltas.{DeltaData}
use Rattle.td_algebra.specs.Raising.{and_then}
use Rattle.td_algebra.specs.declared.errors.Stop.{Stop}
use Rattle.td_values.specs.declared.raises.Raise.TheVariants as raise
use Rattle.td_algebra.specs.declared.errors.Stop.TheVariants as stop
use Rattle.td_headings.specs.Catalogues.{CatalogueData}
use Rattle.td_headings.specs.Definitions.{Defined}
use Rattle.td_headings.specs.Reached.{ReadsRelvar}
use Rattle.td_headings.specs.Statements.{AreAssignments, IsAssignment, IsCondition, IsTarget, TypesStatement, assignments_of, condition_of, next_assignment, no_assignments, source_of, types_assignment, types_conditional}
use Rattle.td_headings.specs.declared.defined.Test.{Test}
use Rattle.td_headings.specs.declared.defined.Test.TheVariants as test
use Rattle.td_headings.specs.declared.statement.TypedAssignment.{TypedAssignment}
use Rattle.td_headings.specs.declared.statement.TypedStatement.{TypedStatement}
use Rattle.td_headings.specs.declared.statement.TypedStatement.TheVariants as typed_statement
use Rattle.td_headings.proofs.WellTyped.{all_typed}
use Rattle.td_meaning.specs.Mean.{Relvars}
use Rattle.td_operators.specs.Values.{rows_of, truth_of}
use Rattle.td_semantics.specs.Trees.{tree_means}
use Rattle.td_semantics.specs.Tests.{AreLegal, failing, is_key, judgement, or_behind}
use Rattle.td_semantics.specs.Databases.{DatabaseData, IsDatabase, Stored, at_place, stored_relvars}
use Rattle.td_semantics.specs.Given.{Given, gives, nothing_given, or_old, or_stored, seen, with_given}
use Rattle.td_semantics.specs.Differences.{AreDifferences, Differs}
use Rattle.td_semantics.specs.Footprints.{AgreeOnFootprint, InFootprint, IsInFootprint, TestReads, by_condition, by_source, by_test, target}
use Rattle.td_assign.specs.Laws.{StepsAlike}
use Rattle.td_semantics.specs.Sources.{given_over, made_where, source_means, sources}
use Rattle.td_semantics.specs.Steps.{IsRead, Steps, unread, raised, refused, done, failing_with, given_by, with_all}
use Rattle.td_semantics.specs.declared.outcome.Outcome.{Outcome}
use Rattle.td_assign.proofs.Replacing.{given_none}
use Rattle.td_integrity.proofs.TreeReads.{trees_alike}

-- ---- elements of lists
first : {A : Type 0} (x : A) (xs : List A) → Contains (x ∷ xs) x
first x xs = (0, omega arith, refl)

further : {A : Type 0} (x : A) (xs : List A) (y : A) → Contains xs y → Contains (x ∷ xs) y
further x xs y h = Contains-append_right (x ∷ []) xs y h

placed : {A : Type 0} (xs : List A) (y : A) (h : Contains xs y) → slice_get xs h.0 ≡ Some y
placed xs y h = slice_get-get_or xs h.0 y h.1 ∙ ap Some h.2

-- ---- an equation of judgements may be proved by cases of anything
abbrev number : Result Bool Stop → ℕ
number (Ok true) = 0
number (Ok false) = 1
number (Err stop.Untyped) = 2
number (Err (stop.Error raise.Overflow)) = 3
number (Err (stop.Error raise.Divide)) = 4
number (Err (stop.Error raise.Empty)) = 5
number (Err (stop.Error raise.Selector)) = 6
number (Err (stop.Error raise.Cardinality)) = 7

abbrev numbered : ℕ → Result Bool Stop
numbered zero = Ok true
numbered (suc zero) = Ok false
numbered (suc (suc zero)) = Err stop.Untyped
numbered (suc (suc (suc zero))) = Err (stop.Error raise.Overflow)
numbered (suc (suc (suc (suc zero)))) = Err (stop.Error raise.Divide)
numbered (suc (suc (suc (suc (suc zero))))) = Err (stop.Error raise.Empty)
numbered (suc (suc (suc (suc (suc (suc zero)))))) = Err (stop.Error raise.Selector)
numbered n = Err (stop.Error raise.Cardinality)

and_back : (m : Result Bool Stop) → numbered (number m) ≡ m
and_back (Ok true) = refl
and_back (Ok false) = refl
and_back (Err stop.Untyped) = refl
and_back (Err (stop.Error raise.Overflow)) = refl
and_back (Err (stop.Error raise.Divide)) = refl
and_back (Err (stop.Error raise.Empty)) = refl
and_back (Err (stop.Error raise.Selector)) = refl
and_back (Err (stop.Error raise.Cardinality)) = refl

by_cases : (P : Type 0) (m n : Result Bool Stop) → (P → m ≡ n) → ((P → ⊥) → m ≡ n) → m ≡ n
by_cases P m n if_so if_not =
    ⊎_elim
    (λ same. sym (and_back m) ∙ ap numbered same ∙ and_back n)
    (λ apart. absurd (apart (ap number (if_not (λ p. apart (ap number (if_so p)))))))
    (cases_eq (number m) (number n))

-- ---- sources and tests over relvars that agree on what they read
module _ (c : CatalogueData) (defined : Defined c) (r s : Relvars) where
  seen_alike : (g : Given) (m n : ℕ) → r n ≡ s n → seen g m r n ≡ seen g m s n
  seen_alike g m n same = ap (λ v. if m == n then or_old (g n) v else v) same

  source_alike : (a : Action) (x : TypedAssignment) → IsAssignment c a x → ((n : ℕ) → ReadsRelvar c.origins x.source.tree n → r n ≡ s n) → (g : Given) → source_means c r g x ≡ source_means c s g x
  source_alike a x p same g =
      ap (λ m. and_then m rows_of)
      (trees_alike c defined x.source.tree x.source.kind (record { expr = source_of a; types = p.source.types }) (seen g x.target r) (seen g x.target s) (λ n h. seen_alike g x.target n (same n h)))

  sources_alike : (as' : List Action) (xs : List TypedAssignment) → AreAssignments c as' xs → ((x : TypedAssignment) → Contains xs x → (n : ℕ) → ReadsRelvar c.origins x.source.tree n → r n ≡ s n) → (g : Given) → sources c r g xs ≡ sources c s g xs
  sources_alike [] [] no_assignments same g = refl
  sources_alike [] (x ∷ xs) p same g = elim p [ ]
  sources_alike (a ∷ as') [] p same g = elim p [ ]
  sources_alike (a ∷ as') (x ∷ xs) (next_assignment p ps) same g =
      let here = source_alike a x p (same x (first x xs)) g in
      λ i. and_then (here i) (λ v. sources_alike as' xs ps (λ y h. same y (further x xs y h)) (gives x.target v g) i)

  chosen_alike : (a : Expr) (u : Expression) → IsCondition c a u → ((n : ℕ) → ReadsRelvar c.origins u.tree n → r n ≡ s n) → and_then (tree_means c r u.tree no_attrs) truth_of ≡ and_then (tree_means c s u.tree no_attrs) truth_of
  chosen_alike a u i same = ap (λ m. and_then m truth_of) (trees_alike c defined u.tree u.kind (record { expr = a; types = i.expression.types }) r s same)

  by_truth : (m : Result Bool Stop) (xs ys : List TypedAssignment)
      → sources c r nothing_given xs ≡ sources c s nothing_given xs
      → sources c r nothing_given ys ≡ sources c s nothing_given ys
      → and_then (and_then m (made_where xs ys)) (sources c r nothing_given) ≡ and_then (and_then m (made_where xs ys)) (sources c s nothing_given)
  by_truth (Ok true) xs ys h k = h
  by_truth (Ok false) xs ys h k = k
  by_truth (Err e) xs ys h k = refl

  pub given_alike_over : (t : Statement) (x : TypedStatement) → TypesStatement c t x
      → ((u : Expression) → condition_of x ≡ Some u → (n : ℕ) → ReadsRelvar c.origins u.tree n → r n ≡ s n)
      → ((y : TypedAssignment) → Contains (assignments_of x) y → (n : ℕ) → ReadsRelvar c.origins y.source.tree n → r n ≡ s n)
      → given_over c r x ≡ given_over c s x
  given_alike_over (statement.Assignment as') x (types_assignment {xs} p) decides same = sources_alike as' xs p same nothing_given
  given_alike_over (statement.Conditional a as' bs) x (types_conditional {u} {xs} {ys} i p q) decides same =
      ap (λ m. and_then (and_then m (made_where xs ys)) (sources c r nothing_given)) (chosen_alike a u i (decides u refl))
      ∙ by_truth (and_then (tree_means c s u.tree no_attrs) truth_of) xs ys
      (sources_alike as' xs p (λ y h. same y (Contains-append_left xs ys y h)) nothing_given)
      (sources_alike bs ys q (λ y h. same y (Contains-append_right xs ys y h)) nothing_given)

  pub judged_alike : (t : Test) → Contains c.tests t → ((n : ℕ) → TestReads c t n → r n ≡ s n) → judgement c r t ≡ judgement c s t
  judged_alike (test.Key m key) there same = ap (λ o. and_then o (λ (v : RowsData). Ok (is_key key v.tuples))) (same m refl)
  judged_alike (test.Constraint x u) there same =
      ap (λ o. and_then o truth_of) (trees_alike c defined u kind.Boolean ((all_typed c defined).constraints there.0 x u (placed c.tests (test.Constraint x u) there)) r s same)

  failing_alike : (ts : List Test) → ((t : Test) → Contains ts t → judgement c r t ≡ judgement c s t) → failing c r ts ≡ failing c s ts
  failing_alike [] same = refl
  failing_alike (t ∷ ts) same = λ i. or_behind t (same t (first t ts) i) (failing_alike ts (λ u h. same u (further t ts u h)) i)

-- ---- what is stored with all targets replaced
given_alike : (g : Given) (s t : Stored) (m : ℕ) → length s ≡ length t → stored_relvars s m ≡ stored_relvars t m → stored_relvars (with_given g s) m ≡ stored_relvars (with_given g t) m
given_alike g [] [] m e h = h
given_alike g [] (y ∷ t) m e h = cc
given_alike g (x ∷ s) [] m e h = cc
given_alike g (x ∷ s) (y ∷ t) zero e h = by (g zero)
  where
    by : (o : Option RowsData) → at_place (Some (or_stored o x)) ≡ at_place (Some (or_stored o y))
    by None = h
    by (Some r) = refl
given_alike g (x ∷ s) (y ∷ t) (suc m) e h = given_alike (λ n. g (suc n)) s t m (ap pred e) h

-- ---- only targets change
module _ (P : ℕ → Type 0) where
  abbrev pub AreOf : Given → Type 0
  AreOf g = (n : ℕ) (r : RowsData) → g n ≡ Some r → P n

  gives_of : (n : ℕ) (r : RowsData) (g : Given) → P n → AreOf g → AreOf (gives n r g)
  gives_of n r g p h m q is = by (n == m) refl is
    where
      by : (b : Bool) → n == m ≡ b → (if b then Some r else g m) ≡ Some q → P m
      by true e same = subst P (eqb-true n m e) p
      by false e same = h m q same

  pub sources_of : (c : CatalogueData) (r : Relvars) (xs : List TypedAssignment) → ((n : ℕ) → Contains (map (λ (x : TypedAssignment). x.target) xs) n → P n) → (g h : Given) → AreOf g → sources c r g xs ≡ Ok h → AreOf h
  sources_of c r [] each g h are is = subst AreOf (same is) are
    where
      same : ◌≡◌ {A = Result Given Stop} (Ok g) (Ok h) → g ≡ h
      same e = cc
  sources_of c r (x ∷ xs) each g h are is =
      by (source_means c r g x) is (λ v. sources_of c r xs (λ n q. each n (further x.target (map (λ (y : TypedAssignment). y.target) xs) n q)) (gives x.target v g) h (gives_of x.target v g (each x.target (first x.target (map (λ (y : TypedAssignment). y.target) xs))) are))
    where
      by : (m : Result RowsData Stop) → and_then m (λ v. sources c r (gives x.target v g) xs) ≡ Ok h → ((v : RowsData) → sources c r (gives x.target v g) xs ≡ Ok h → AreOf h) → AreOf h
      by (Ok v) e rest = rest v e
      by (Err f) e rest = cc

  -- a relvar is a target, or has afterwards what it had
  pub of_or_stays : (g : Given) → AreOf g → (n : ℕ) → P n ⊎ ((s : Stored) → stored_relvars (with_given g s) n ≡ stored_relvars s n)
  of_or_stays g h n = by (g n) refl
    where
      by : (o : Option RowsData) → g n ≡ o → P n ⊎ ((s : Stored) → stored_relvars (with_given g s) n ≡ stored_relvars s n)
      by None e = inr (λ s. ap at_place (given_none g s n e))
      by (Some r) e = inl (h n r e)

-- ---- what a statement gives, it gives to its targets
map_both : (xs ys : List TypedAssignment) → map (λ (x : TypedAssignment). x.target) (xs ++ ys) ≡ map (λ (x : TypedAssignment). x.target) xs ++ map (λ (x : TypedAssignment). x.target) ys
map_both [] ys = refl
map_both (x ∷ xs) ys = ap (λ (ns : List ℕ). x.target ∷ ns) (map_both xs ys)

nothing_of : (P : ℕ → Type 0) → AreOf P nothing_given
nothing_of P n r is = cc

pub given_of : (c : CatalogueData) (r : Relvars) (x : TypedStatement) (g : Given) → given_over c r x ≡ Ok g → AreOf (IsTarget x) g
given_of c r (typed_statement.Assignment xs) g h = sources_of (IsTarget (typed_statement.Assignment xs)) c r xs (λ m q. q) nothing_given g (nothing_of (IsTarget (typed_statement.Assignment xs))) h
given_of c r (typed_statement.Conditional u xs ys) g h = by (and_then (tree_means c r u.tree no_attrs) truth_of) h
  where
    of_first : (n : ℕ) → Contains (map (λ (x : TypedAssignment). x.target) xs) n → IsTarget (typed_statement.Conditional u xs ys) n
    of_first n q = subst (λ (ns : List ℕ). Contains ns n) (sym (map_both xs ys)) (Contains-append_left (map (λ (x : TypedAssignment). x.target) xs) (map (λ (x : TypedAssignment). x.target) ys) n q)

    of_second : (n : ℕ) → Contains (map (λ (x : TypedAssignment). x.target) ys) n → IsTarget (typed_statement.Conditional u xs ys) n
    of_second n q = subst (λ (ns : List ℕ). Contains ns n) (sym (map_both xs ys)) (Contains-append_right (map (λ (x : TypedAssignment). x.target) xs) (map (λ (x : TypedAssignment). x.target) ys) n q)

    by : (m : Result Bool Stop) → and_then (and_then m (made_where xs ys)) (sources c r nothing_given) ≡ Ok g → AreOf (IsTarget (typed_statement.Conditional u xs ys)) g
    by (Ok true) e = sources_of (IsTarget (typed_statement.Conditional u xs ys)) c r xs of_first nothing_given g (nothing_of (IsTarget (typed_statement.Conditional u xs ys))) e
    by (Ok false) e = sources_of (IsTarget (typed_statement.Conditional u xs ys)) c r ys of_second nothing_given g (nothing_of (IsTarget (typed_statement.Conditional u xs ys))) e
    by (Err f) e = cc

-- ---- no differences
ok_same : (a b : RowsData) → ◌≡◌ {A = Result RowsData Stop} (Ok a) (Ok b) → a ≡ b
ok_same a b h = cc

module _ (r s : Relvars) (ds : List (ℕ × DeltaData)) where
  none_differ : AreDifferences r r ds → AreDifferences s s ds
  none_differ a = record {
    once = a.once;
    only = λ p there. let q = (a.only p there).change in absurd ((a.only p there).apart (ok_same q.before q.after (sym q.was ∙ q.is)));
    all = λ n never. refl;
  }

-- ---- two databases
module _ (d : DatabaseData) (stored : Stored) (dialect : ℕ) (text : List ℕ) (is : IsDatabase d) (length_same : length d.stored ≡ length stored) (legal : AreLegal d.catalogue (stored_relvars d.stored)) (other_legal : AreLegal d.catalogue (stored_relvars stored)) (agree : (n : ℕ) → IsInFootprint d.catalogue dialect text n → stored_relvars d.stored n ≡ stored_relvars stored n) where
  abbrev other : DatabaseData
  other = record { catalogue = d.catalogue; stored = stored }

  module _ (x : TypedStatement) (p : IsRead d.catalogue dialect text x) where
    agree_at : (n : ℕ) → InFootprint d.catalogue x n → stored_relvars d.stored n ≡ stored_relvars stored n
    agree_at n h = agree n (record { statement = x; reads = p; within = h })

    same_sources : given_by d x ≡ given_by other x
    same_sources = given_alike_over d.catalogue is.defined (stored_relvars d.stored) (stored_relvars stored) p.statement x p.types (λ u its n h. agree_at n (by_condition its h)) (λ a there n h. agree_at n (by_source there h))

    module _ (g : Given) (given : given_by d x ≡ Ok g) where
      changed : (n : ℕ) → IsTarget x n ⊎ ((s : Stored) → stored_relvars (with_given g s) n ≡ stored_relvars s n)
      changed = of_or_stays (IsTarget x) g (given_of d.catalogue (stored_relvars d.stored) x g given)

      agree_after : (n : ℕ) → InFootprint d.catalogue x n → stored_relvars (with_given g d.stored) n ≡ stored_relvars (with_given g stored) n
      agree_after n h = given_alike g d.stored stored n length_same (agree_at n h)

      -- a test that reads no target is true as before
      still_true : (s : Stored) → AreLegal d.catalogue (stored_relvars s) → (t : Test) → Contains d.catalogue.tests t → ((m : ℕ) → TestReads d.catalogue t m → IsTarget x m → ⊥) → judgement d.catalogue (stored_relvars (with_given g s)) t ≡ Ok true
      still_true s was t there never =
          judged_alike d.catalogue is.defined (stored_relvars (with_given g s)) (stored_relvars s) t there (λ n h. ⊎_elim (λ q. absurd (never n h q)) (λ stays. stays s) (changed n))
          ∙ was t there

      same_judgement : (t : Test) → Contains d.catalogue.tests t → judgement d.catalogue (stored_relvars (with_given g d.stored)) t ≡ judgement d.catalogue (stored_relvars (with_given g stored)) t
      same_judgement t there =
          by_cases ((m : ℕ) × TestReads d.catalogue t m × IsTarget x m) (judgement d.catalogue (stored_relvars (with_given g d.stored)) t) (judgement d.catalogue (stored_relvars (with_given g stored)) t)
          (λ q. judged_alike d.catalogue is.defined (stored_relvars (with_given g d.stored)) (stored_relvars (with_given g stored)) t there (λ n h. agree_after n (by_test there q.1 q.2 h)))
          (λ none.
          let never : (m : ℕ) → TestReads d.catalogue t m → IsTarget x m → ⊥ = λ m h k. none (m, h, k) in
          still_true d.stored legal t there never ∙ sym (still_true stored other_legal t there never))

      same_failing : failing_with d g ≡ failing_with other g
      same_failing = failing_alike d.catalogue is.defined (stored_relvars (with_given g d.stored)) (stored_relvars (with_given g stored)) d.catalogue.tests same_judgement

      module _ (ds : List (ℕ × DeltaData)) (a : AreDifferences (stored_relvars d.stored) (stored_relvars (with_given g d.stored)) ds) where
        differs : (q : ℕ × DeltaData) → Contains ds q → Differs (stored_relvars stored) (stored_relvars (with_given g stored)) q.0 q.1
        differs q there =
            let apart = (a.only q there).apart in
            let o = (a.only q there).change in
            ⊎_elim
            (λ h. record {
              change = record { before = o.before; after = o.after; was = sym (agree_at q.0 (target h)) ∙ o.was; is = sym (agree_after q.0 (target h)) ∙ o.is; one_heading = o.one_heading; was_rows = o.was_rows; is_rows = o.is_rows; difference = o.difference };
              apart = apart;
            })
            (λ stays. absurd (apart (ok_same o.before o.after (sym o.was ∙ sym (stays d.stored) ∙ o.is))))
            (changed q.0)

        stays_there : (n : ℕ) → stored_relvars (with_given g d.stored) n ≡ stored_relvars d.stored n → stored_relvars (with_given g stored) n ≡ stored_relvars stored n
        stays_there n same =
            ⊎_elim
            (λ h. sym (agree_after n (target h)) ∙ same ∙ agree_at n (target h))
            (λ stays. stays stored)
            (changed n)

        same_differences : AreDifferences (stored_relvars stored) (stored_relvars (with_given g stored)) ds
        same_differences = record { once = a.once; only = differs; all = λ n never. stays_there n (a.all n never) }

  alike : (f : DatabaseData) (o : Outcome) → Steps d dialect text o f → StepsAlike d f other dialect text o
  alike f o (unread h) = record { after = other; step = unread h; differences = none_differ (stored_relvars d.stored) (stored_relvars stored) }
  alike f o (raised {x = x} p h) = record { after = other; step = raised p (sym (same_sources x p) ∙ h); differences = none_differ (stored_relvars d.stored) (stored_relvars stored) }
  alike f o (refused {x = x} {g = g} p h i j) = record {
    after = other;
    step = refused p (sym (same_sources x p) ∙ h) (sym (same_failing x p g h) ∙ i) j;
    differences = none_differ (stored_relvars d.stored) (stored_relvars stored);
  }
  alike f o (done {x = x} {g = g} p h i) = record {
    after = with_all other g;
    step = done p (sym (same_sources x p) ∙ h) (sym (same_failing x p g h) ∙ i);
    differences = same_differences x p g h;
  }

pub step_by_footprint : (d e f : DatabaseData) (dialect : ℕ) (text : List ℕ) (o : Outcome) → IsDatabase d → IsDatabase e → AreLegal d.catalogue (stored_relvars d.stored) → AreLegal e.catalogue (stored_relvars e.stored) → AgreeOnFootprint d e dialect text → Steps d dialect text o f → StepsAlike d f e dialect text o
step_by_footprint d e f dialect text o is other_is legal other_legal a step =
    let same = a.catalogue in
    let length_same = is.each ∙ ap (λ (c : CatalogueData). length c.origins) same ∙ sym other_is.each in
    let moved : AreLegal d.catalogue (stored_relvars e.stored) = subst (λ (c : CatalogueData). AreLegal c (stored_relvars e.stored)) (sym same) other_legal in
    subst (λ (c : CatalogueData). StepsAlike d f (record { catalogue = c; stored = e.stored }) dialect text o) same
    (alike d e.stored dialect text is length_same legal moved a.relvars f o step)
