-- What an INSERT of written tuples means, over any relvars.
use Rattle.std.proofs.Common.{◌≡◌, ◌==◌, ℕ, suc, ◌+◌, Bool, true, false, true≢false, eq-eqb, eqb-true, if◌then◌else◌, List, [], ◌∷◌, length, get_or, None, Some, slice_get, Result, Ok, Err, IfOk, refl, ap, sym, ◌∙◌, subst, arith}
use Rattle.std.specs.FinSet as set
use Rattle.std.specs.List.{Contains}
use Rattle.std.proofs.lemmas.List.{length-map}
use Rattle.td_values.specs.Data.{Attrs, Datum, no_attrs}
use Rattle.td_values.specs.Headings.{Header}
use Rattle.td_values.specs.Order.{attrs_order}
use Rattle.td_values.specs.Rows.{AreRows, RowsData}
use Rattle.td_syntax.specs.declared.script.Action.{Action}
use Rattle.td_syntax.specs.declared.script.Statement.{Statement}
use Rattle.td_syntax.specs.declared.script.Statement.TheVariants as statement
use Rattle.td_syntax.specs.declared.tree.Named.{Named}
use Rattle.td_relations.specs.Sets.{IsRelation, body, tuple_set}
use Rattle.td_relations.proofs.Members.{holds_of_all, relation_of_is}
use Rattle.td_relations.proofs.SameHeadings.{one_heading}
use Rattle.td_schema.specs.Kinds.{Name}
use Rattle.td_schema.specs.Schemas.{first_from, is_named, relvar_named}
use Rattle.td_typed_trees.specs.declared.tree.Typed.{Typed}
use Rattle.td_typed_trees.specs.declared.tree.Typed.TheVariants as tree
use Rattle.td_algebra.specs.Functions.{relation_from, union_of}
use Rattle.td_algebra.specs.Nested.{relation_value}
use Rattle.td_algebra.specs.Raising.{and_then}
use Rattle.td_algebra.specs.declared.errors.Stop.{Stop}
use Rattle.td_algebra.specs.declared.errors.Stop.TheVariants.{Untyped}
use Rattle.td_operators.specs.Operators.{are_equal_headings, as_value, in_turn, tuple_over}
use Rattle.td_operators.specs.Values.{rows_of}
use Rattle.td_operators.proofs.KindLemmas.{rows_back}
use Rattle.td_headings.specs.Catalogues.{CatalogueData}
use Rattle.td_headings.specs.Definitions.{Defined}
use Rattle.td_headings.specs.Reached.{is_base, named_relvars}
use Rattle.td_headings.specs.Statements.{AreAssignments, IsAssignment, TypesStatement, assignments_of, next_assignment, target_of, types_assignment, types_conditional}
use Rattle.td_headings.specs.declared.statement.TypedAssignment.{TypedAssignment}
use Rattle.td_headings.specs.declared.statement.TypedStatement.{TypedStatement}
use Rattle.td_headings.specs.declared.statement.TypedStatement.TheVariants as typed_statement
use Rattle.td_meaning.specs.ForProofs.Over.{list_meant}
use Rattle.td_meaning.specs.Mean.{Meaning, Relvars, at, mean, mean_relation, rows_in, within}
use Rattle.td_meaning.proofs.Forms as meant
use Rattle.td_type_soundness.specs.Meanings.{GivesRelation, IsRelationOver, IsTupleOver}
use Rattle.td_semantics.specs.Given.{Given, gives, nothing_given, seen}
use Rattle.td_semantics.specs.Meanings.{no_names}
use Rattle.td_semantics.specs.Raises.{Tells}
use Rattle.td_semantics.specs.Sources.{given_over}
use Rattle.td_semantics.specs.Stored.{AreStored}
use Rattle.td_semantics.specs.Trees.{AreBases, all_relvars, places, selection_of, tree_means}
use Rattle.td_semantics.specs.declared.failure.Failure.{Failure}
use Rattle.td_eval.proofs.Named.{named_agree}
use Rattle.td_eval.proofs.United.{United, union_means}
use Rattle.td_eval.proofs.Virtuals.{stays}
use Rattle.td_insertions.specs.Insertions.{IsInsertion}
use Rattle.td_insertions.specs.ForProofs.Emptied.{IsOverNothing, emptied}
use Rattle.td_insertions.specs.ForProofs.Written.{IsWritten}
use Rattle.td_insertions.proofs.Unions.{nothing_with, same_union}

some_same : {A : Type 0} (a b : A) → Some a ≡ Some b → a ≡ b
some_same a b h = cc

pub ok_same : {A : Type 0} (a b : A) → ◌≡◌ {A = Result A Stop} (Ok a) (Ok b) → a ≡ b
ok_same a b h = cc

-- ---- the place of a name
first_there : {A : Type 0} (m : ℕ) (test : A → Bool) (xs : List A) (r : ℕ × A) → first_from m test xs ≡ Some r → (k : ℕ) × (r.0 ≡ m + k) × (slice_get xs k ≡ Some r.1)
first_there m test [] r h = cc
first_there {A} m test (x ∷ xs) r h = by (test x) (first_there (m + 1) test xs r) h
  where
    by : (b : Bool) → (first_from (m + 1) test xs ≡ Some r → (k : ℕ) × (r.0 ≡ m + 1 + k) × (slice_get xs k ≡ Some r.1)) → (if b then Some (m, x) else first_from (m + 1) test xs) ≡ Some r → (k : ℕ) × (r.0 ≡ m + k) × (slice_get (x ∷ xs) k ≡ Some r.1)
    by true later e = let same = some_same (m, x) r e in (0, sym (ap (λ (p : ℕ × A). p.0) same) ∙ (let z : m ≡ m + 0 = omega arith in z), ap (λ (p : ℕ × A). Some p.1) same)
    by false later e = let k = later e in (suc k.0, (let z : r.0 ≡ m + suc k.0 = omega (arith, k.1) in z), k.2)

relvar_there : (c : CatalogueData) (x : Name) (n : ℕ) (v : Named Header) → relvar_named c.schema x ≡ Some (n, v) → slice_get c.schema.relvars n ≡ Some v
relvar_there c x n v h =
    let k = first_there 0 (is_named x) c.schema.relvars (n, v) h in
    let same : k.0 ≡ n = omega (arith, k.1) in
    subst (λ m. slice_get c.schema.relvars m ≡ Some v) same k.2

-- ---- the assignment of a typed statement
first_assigned : (c : CatalogueData) (as' : List Action) (a : TypedAssignment) → AreAssignments c as' (a ∷ []) → (b : Action) × IsAssignment c b a
first_assigned c (b ∷ bs) a (next_assignment p ps) = (b, p)
first_assigned c [] a h = elim h [ ]

assigned_of : (c : CatalogueData) (s : Statement) (x : TypedStatement) (a : TypedAssignment) → TypesStatement c s x → x ≡ typed_statement.Assignment (a ∷ []) → (b : Action) × IsAssignment c b a
assigned_of c (statement.Assignment as') x a (types_assignment {xs = zs} h) alone =
    let same : zs ≡ a ∷ [] = cc in
    first_assigned c as' a (subst (AreAssignments c as') same h)
assigned_of c (statement.Conditional u as' bs) x a (types_conditional i p q) alone = cc

pub its_assignment : (c : CatalogueData) (x : TypedStatement) (a : TypedAssignment) → (s : Statement) × TypesStatement c s x → x ≡ typed_statement.Assignment (a ∷ []) → (b : Action) × IsAssignment c b a
its_assignment c x a typed alone = assigned_of c typed.0 x a typed.1 alone

module _ (c : CatalogueData) (a : TypedAssignment) (is : (b : Action) × IsAssignment c b a) where
  target_there : slice_get c.schema.relvars a.target ≡ Some is.1.relvar
  target_there = relvar_there c (target_of is.0) a.target is.1.relvar is.1.names

  target_base : is_base (slice_get c.origins a.target) ≡ true
  target_base = ap is_base is.1.is_real

  pub is_there : {P : Type 0} → slice_get c.schema.relvars a.target ≡ None → P
  is_there none = let nothing : Some is.1.relvar ≡ None = sym target_there ∙ none in cc

  pub same_relvar : (v : Named Header) → slice_get c.schema.relvars a.target ≡ Some v → is.1.relvar ≡ v
  same_relvar v at = some_same is.1.relvar v (sym target_there ∙ at)

-- ---- the relvars, one of them emptied
are_bases : (c : CatalogueData) (r : Relvars) → AreStored c r → AreBases c r
are_bases c r stored n v base at = let k = stored n v base at in subst (GivesRelation c.schema v.value) (sym k.1) k.2

module _ (c : CatalogueData) (r : Relvars) (n : ℕ) (v : Named Header) (e : RowsData) (stored : AreStored c r) (there : slice_get c.schema.relvars n ≡ Some v) (empty : IsRelation v.value set.empty e) where
  empty_over : (u : Named Header) → v ≡ u → IsRelationOver c.schema u.value e
  empty_over u same = record {
    heading = empty.heading ∙ ap (λ (w : Named Header). w.value) same;
    tuples = holds_of_all (IsTupleOver c.schema u.value) e.tuples (λ t h. absurd (true≢false (sym h ∙ ap (λ b. set.contains b t) empty.members ∙ set.contains-empty attrs_order t)));
  }

  pub emptied_bases : AreBases c (emptied n e r)
  emptied_bases m u base at = by (m == n) refl
    where
      by : (b : Bool) → m == n ≡ b → GivesRelation c.schema u.value (if b then Ok e else r m)
      by true is = empty_over u (some_same v u (sym there ∙ ap (slice_get c.schema.relvars) (sym (eqb-true m n is)) ∙ at))
      by false is = are_bases c r stored m u base at

-- what evaluation tells of the source over these
module _ (c : CatalogueData) (r : Relvars) (a : TypedAssignment) (v : Named Header) (e : RowsData) (there : slice_get c.schema.relvars a.target ≡ Some v) (empty : IsRelation v.value set.empty e) where
  pub if_over_nothing : (m : Result RowsData Failure) → Tells m (and_then (tree_means c (emptied a.target e r) a.source.tree no_attrs) rows_of) → IfOk m (IsRelationOver c.schema v.value) → IfOk m (IsOverNothing c r a)
  if_over_nothing (Ok s) told over = record { relvar = v; there = there; nothing = e; empty = empty; means = told; over = over }
  if_over_nothing (Err f) told over = tt

-- ---- unions that may raise
back : (m : Result RowsData Stop) → and_then (and_then m as_value) rows_of ≡ m
back (Ok r) = rows_back (relation_value r) r refl
back (Err e) = refl

alike : (q p : RowsData) → q.heading ≡ p.heading → United q (Ok p) ≡ Ok (union_of q p)
alike q p same = ap (λ b. if b then Ok (union_of q p) else Err Untyped) ((one_heading q.heading p.heading (are_equal_headings q.heading p.heading) refl).1 same)

pub united_ok : (q u : RowsData) (m : Result RowsData Stop) → United q m ≡ Ok u → (p : RowsData) × (m ≡ Ok p) × (q.heading ≡ p.heading) × (union_of q p ≡ u)
united_ok q u (Err e) h = cc
united_ok q u (Ok p) h = by (are_equal_headings q.heading p.heading) refl h
  where
    by : (b : Bool) → are_equal_headings q.heading p.heading ≡ b → (if b then Ok (union_of q p) else Err Untyped) ≡ Ok u → (z : RowsData) × (◌≡◌ {A = Result RowsData Stop} (Ok p) (Ok z)) × (q.heading ≡ z.heading) × (union_of q z ≡ u)
    by true e k = (p, refl, (one_heading q.heading p.heading true (sym e)).0 refl, ok_same (union_of q p) u k)
    by false e k = cc

-- ---- where nothing is given yet, a source sees the relvars as they are
seen_nothing : (t : ℕ) (r : Relvars) → seen nothing_given t r ≡ r
seen_nothing t r = λ i m. by (t == m) (r m) i
  where
    by : (b : Bool) (o : Result RowsData Stop) → (if b then o else o) ≡ o
    by true o = refl
    by false o = refl

-- ---- as many tuples as terms
as_many : {X A : Type 0} (f : X → Result A Stop) (xs : List X) (ys : List A) → in_turn f xs ≡ Ok ys → length ys ≡ length xs
as_many f [] ys h = ap length (sym (ok_same [] ys h))
as_many {X} {A} f (x ∷ xs) ys h = by (f x) (in_turn f xs) (as_many f xs) h
  where
    by : (m : Result A Stop) (o : Result (List A) Stop) → ((zs : List A) → o ≡ Ok zs → length zs ≡ length xs) → and_then m (λ a. and_then o (λ rest. Ok (a ∷ rest))) ≡ Ok ys → length ys ≡ suc (length xs)
    by (Ok a) (Ok zs) rest k = ap length (sym (ok_same (a ∷ zs) ys k)) ∙ ap suc (rest zs refl)
    by (Ok a) (Err g) rest k = cc
    by (Err g) o rest k = cc

-- the relation has the tuples of a list of this length
abbrev pub HasListed : ℕ → RowsData → Type 0
HasListed n p = (ts : List Attrs) × (length ts ≡ n) × (body p ≡ tuple_set ts)

listed_by : (h : Header) (ds : List Datum) (p : RowsData) → and_then (and_then (in_turn (tuple_over h) ds) (λ ts. as_value (relation_from h ts))) rows_of ≡ Ok p → HasListed (length ds) p
listed_by h ds p is = by (in_turn (tuple_over h) ds) refl is
  where
    by : (m : Result (List Attrs) Stop) → in_turn (tuple_over h) ds ≡ m → and_then (and_then m (λ ts. as_value (relation_from h ts))) rows_of ≡ Ok p → HasListed (length ds) p
    by (Ok ts) e k = (
      ts,
      as_many (tuple_over h) ds ts e,
      ap body (sym (ok_same (relation_from h ts) p (sym (rows_back (relation_value (relation_from h ts)) (relation_from h ts) refl) ∙ k))) ∙ (relation_of_is h (tuple_set ts)).members,
    )
    by (Err g) e k = cc

written_listed : (h : Header) (all : List Meaning) (p : RowsData) → rows_in (mean_relation h all) no_names ≡ Ok p → HasListed (length all) p
unfolding mean_relation rows_in
written_listed h all p is = by (in_turn (at no_names) all) refl is
  where
    by : (m : Result (List Datum) Stop) → in_turn (at no_names) all ≡ m → and_then (and_then m (λ ds. and_then (in_turn (tuple_over h) ds) (λ ts. as_value (relation_from h ts)))) rows_of ≡ Ok p → HasListed (length all) p
    by (Ok ds) e k = let l = listed_by h ds p k in (l.0, l.1 ∙ as_many (at no_names) all ds e, l.2)
    by (Err g) e k = cc

-- ---- the statement
module _ (c : CatalogueData) (x : TypedStatement) (n many : ℕ) (defined : Defined c) (typed : (s : Statement) × TypesStatement c s x) (w : IsWritten x n many) where
  abbrev pub the_one : TypedAssignment
  the_one = w.assignment

  pub assigned : (b : Action) × IsAssignment c b the_one
  assigned = its_assignment c x the_one typed w.alone

  pub there : slice_get c.schema.relvars n ≡ Some assigned.1.relvar
  there = subst (λ m. slice_get c.schema.relvars m ≡ Some assigned.1.relvar) w.by.target (target_there c the_one assigned)

  pub base : is_base (slice_get c.origins n) ≡ true
  base = subst (λ m. is_base (slice_get c.origins m) ≡ true) w.by.target (target_base c the_one assigned)

  abbrev more : Typed
  more = tree.Relation w.by.heading w.by.terms

  -- what the tuples that are written out mean
  abbrev pub Added : Relvars → Result RowsData Stop
  Added r = rows_in (mean (all_relvars c r) (selection_of c) more) no_names

  added_same : (r q : Relvars) → Added r ≡ Added q
  added_same r q = ap (λ (m : Meaning). rows_in m no_names) (named_agree (all_relvars c r) (all_relvars c q) (selection_of c) more (λ k h. absurd (none k h)))
    where
      none : (k : ℕ) → Contains (named_relvars more) k → ⊥
      none k h = let there = subst (λ (l : List ℕ). Contains l k) w.by.unread h in omega (arith, there.1)

  pub added_listed : (r : Relvars) (p : RowsData) → Added r ≡ Ok p → HasListed many p
  added_listed r p is =
      let means = mean (all_relvars c r) (selection_of c) in
      let l = written_listed w.by.heading (list_meant means w.by.terms) p (ap (λ (m : Meaning). rows_in m no_names) (sym (meant.of_relation (all_relvars c r) (selection_of c) w.by.heading w.by.terms)) ∙ is) in
      (l.0, l.1 ∙ length-map w.by.terms means ∙ sym w.by.each, l.2)

  module _ (r : Relvars) (q : RowsData) (has : r n ≡ Ok q) where
    source_is : and_then (tree_means c r the_one.source.tree no_attrs) rows_of ≡ United q (Added r)
    source_is =
        ap (λ (u : Typed). and_then (mean (all_relvars c r) (selection_of c) u (within no_attrs no_names)) rows_of) w.by.source
        ∙ ap (λ m. and_then m rows_of) (union_means (all_relvars c r) (selection_of c) n more q (stays c defined (selection_of c) (places c.origins) r n (λ _. base) ∙ has))
        ∙ back (United q (Added r))

    abbrev Give : Result RowsData Stop → Result Given Stop
    Give m = and_then m (λ u. Ok (gives n u nothing_given))

    pub given_is : given_over c r x ≡ Give (United q (Added r))
    given_is =
        ap (given_over c r) w.alone
        ∙ ap (λ (k : Relvars). and_then (and_then (tree_means c k the_one.source.tree no_attrs) rows_of) (λ u. Ok (gives the_one.target u nothing_given))) (seen_nothing the_one.target r)
        ∙ ap (λ m. and_then m (λ u. Ok (gives the_one.target u nothing_given))) source_is
        ∙ ap (λ (k : ℕ). and_then (United q (Added r)) (λ u. Ok (gives k u nothing_given))) w.by.target

  module _ (r : Relvars) (p s : RowsData) (means : Added r ≡ Ok p) (heading : p.heading ≡ s.heading) (tuples : body p ≡ body s) where
    pub insertion : s.heading ≡ assigned.1.relvar.value → AreRows s.heading s.tuples → IsInsertion c x n s
    insertion over rows = record {
      relvar = assigned.1.relvar;
      base = base;
      there = there;
      heading = over;
      rows = rows;
      adds = λ relvars q has same.
          given_is relvars q has
          ∙ ap (λ m. Give relvars q has (United q m)) (added_same relvars r ∙ means)
          ∙ ap (Give relvars q has) (alike q p (same ∙ sym heading))
          ∙ ap (λ u. Ok (gives n u nothing_given)) (same_union q p s tuples);
    }

  one_assignment : (b : TypedAssignment) → x ≡ typed_statement.Assignment (b ∷ []) → b ≡ the_one
  one_assignment b alone = ap (λ z. get_or (assignments_of z) 0 b) (sym alone ∙ w.alone)

  -- over an empty target it means the tuples that are written out
  module _ (r : Relvars) (s : RowsData) (o : IsOverNothing c r the_one s) where
    abbrev Over : Relvars
    Over = emptied n o.nothing r

    told : and_then (tree_means c Over the_one.source.tree no_attrs) rows_of ≡ Ok s
    told = ap (λ (k : ℕ). and_then (tree_means c (emptied k o.nothing r) the_one.source.tree no_attrs) rows_of) (sym w.by.target) ∙ o.means

    has_nothing : Over n ≡ Ok o.nothing
    has_nothing = ap (λ b. if b then Ok o.nothing else r n) (eq-eqb n n refl)

    of_nothing : AreRows s.heading s.tuples → IsInsertion c x n s
    of_nothing rows =
        let u = united_ok o.nothing s (Added Over) (sym (source_is Over o.nothing has_nothing) ∙ told) in
        let over : s.heading ≡ assigned.1.relvar.value = o.over.heading ∙ ap (λ (v : Named Header). v.value) (sym (same_relvar c the_one assigned o.relvar o.there)) in
        insertion Over u.0 s u.1
        (sym u.2 ∙ o.empty.heading ∙ sym o.over.heading)
        (sym (nothing_with o.nothing u.0 o.empty.members) ∙ ap body u.3)
        over rows

  pub over_nothing : (r : Relvars) (b : TypedAssignment) (s : RowsData) → x ≡ typed_statement.Assignment (b ∷ []) → IsOverNothing c r b s → AreRows s.heading s.tuples → IsInsertion c x n s
  over_nothing r b s alone o rows = of_nothing r s (subst (λ (z : TypedAssignment). IsOverNothing c r z s) (one_assignment b alone) o) rows
