-- Lists of places, indexes and insertions that grow keep what they cover.
use Rattle.std.proofs.Common.{◌≡◌, ◌+◌, ◌<◌, ◌≤◌, ◌++◌, ◌∷◌, [], inl, inr, ⊎_elim, ℕ, Bool, true, List, length, get_or, slice_set, take, IfOk, OnOk, Result, Ok, Err, Vec, Global, refl, ap, sym, ◌∙◌, subst, arith}
use Rattle.std.specs.List.{All, Contains}
use Rattle.std.proofs.lemmas.Bool.{cases_eq}
use Rattle.std.proofs.lemmas.List.{get_or-set_other, get_or-set_same, get_or_default, length-set}
use Rattle.std.proofs.lemmas.List.Elements.{All-contains, All-more, All-weaker, Contains-append_left, Contains-append_right, Contains-push, Contains-push_cases}
use Rattle.std.proofs.lemmas.List.Sorted.{Contains-permutation}
use Rattle.td_values.specs.Data.{Attrs}
use Rattle.td_values.specs.Rows.{RowsData}
use Rattle.td_relations.specs.Sets.{Has}
use Rattle.td_algebra.specs.KeyIndexes.{HasMore, IsKeyIndex, KeyIndexData}
use Rattle.td_algebra.proofs.Lists.{in_contains}
use Rattle.td_algebra.proofs.Made.{has_in}
use Rattle.td_algebra.proofs.Pairs.{of_entry}
use Rattle.td_headings.specs.Catalogues.{CatalogueData}
use Rattle.td_headings.specs.declared.defined.Test.{Test}
use Rattle.td_headings.specs.declared.defined.Test.TheVariants as test
use Rattle.td_insertions.specs.Insertions.{Inserts}
use Rattle.td_accesses.specs.Commuting.{AllJudgeGrowth}
use Rattle.td_accesses.specs.Covering.{AreKept, Covers, IsAmong, KeepsWithin}
use Rattle.td_accesses.specs.ForProofs.Accessed.{AreAccessesGrown, AreInsertionsGrown, IsAddedTo, IsSuited, IsToldAmong, IsToldBy, IsToldIn}
use Rattle.td_accesses.specs.ForProofs.Growing.{AreAllBy, AreIn, AreIndexesGrown, AreLinked, AreLinksGrown, IsBy, IsIndexGrown, IsKeptFor}
use Rattle.td_accesses.specs.declared.accesses.Accesses.{Accesses}
use Rattle.td_accesses.specs.declared.accesses.Insertions.{Insertions}

-- ---- one element is put in place of another one
module _ {X : Type 0} (xs : List X) (i : ℕ) (x y : X) (lt : i < length xs) (at : x ≡ get_or xs i x) where
  pub is_set : Contains (slice_set xs i y) y
  is_set = let many = length-set xs i y in (i, omega (arith, lt, many), get_or-set_same xs i y y lt)

  pub set_stands : (R : X → X → Type 0) → ((z : X) → R z z) → R x y → (z : X) → Contains xs z → (w : X) × Contains (slice_set xs i y) w × R z w
  set_stands R itself more z h = ⊎_elim
      (λ here.
      let same : x ≡ z = at ∙ get_or_default xs i x z lt ∙ ap (λ j. get_or xs j z) (sym here) ∙ h.2 in
      (y, is_set, subst (λ v. R v y) same more))
      (λ apart.
      let many = length-set xs i y in
      let within = h.1 in
      (z, (h.0, omega (arith, within, many), get_or-set_other xs i h.0 y z apart ∙ h.2), itself z))
      (cases_eq h.0 i)

  pub set_from : (R : X → X → Type 0) → ((z : X) → R z z) → R x y → (z : X) → Contains (slice_set xs i y) z → (w : X) × Contains xs w × R w z
  set_from R itself more z h = ⊎_elim
      (λ here.
      let same : y ≡ z = sym (get_or-set_same xs i y z lt) ∙ ap (λ j. get_or (slice_set xs i y) j z) (sym here) ∙ h.2 in
      (x, (i, lt, sym at), subst (R x) same more))
      (λ apart.
      let many = length-set xs i y in
      let within = h.1 in
      (z, (h.0, omega (arith, within, many), sym (get_or-set_other xs i h.0 y z apart) ∙ h.2), itself z))
      (cases_eq h.0 i)

-- ---- places
pub in_both : (xs ys zs : List ℕ) → AreIn xs ys → AreIn ys zs → AreIn xs zs
in_both xs ys zs one two n h = two n (one n h)

pub all_in_places : (xs ys : List ℕ) → All (Contains ys) xs → AreIn xs ys
all_in_places xs ys all n h = All-contains (Contains ys) xs n all h

pub more_places : (places : List ℕ) (i d : ℕ) (xs ys : List ℕ) → i < length places → AreIn xs ys → Contains ys (get_or places i d) → All (Contains xs) (take i places) → All (Contains ys) (take (i + 1) places)
more_places places i d xs ys lt kept there all =
    All-more (Contains ys) places i d lt (All-weaker (Contains xs) (Contains ys) kept (take i places) all) there

-- ---- indexes
index_itself : (x : KeyIndexData) → IsIndexGrown x x
index_itself x = record { key = refl; tuples = λ t h. h }

pub indexes_themselves : (xs : List KeyIndexData) → AreIndexesGrown xs xs
indexes_themselves xs = record { of = λ x h. (x, h, index_itself x) }

pub indexes_in_turn : (xs ys zs : List KeyIndexData) → AreIndexesGrown xs ys → AreIndexesGrown ys zs → AreIndexesGrown xs zs
indexes_in_turn xs ys zs one two = record {
  of = λ x h.
      let y = one.of x h in
      let z = two.of y.0 y.1 in
      (z.0, z.1, record { key = z.2.key ∙ y.2.key; tuples = λ t m. z.2.tuples t (y.2.tuples t m) });
}

by_stays : (key : List (List ℕ)) (s : RowsData) (xs ys : List KeyIndexData) → AreIndexesGrown xs ys → IsBy key s xs → IsBy key s ys
by_stays key s xs ys grown is =
    let y = grown.of is.index is.there in
    record { index = y.0; there = y.1; by = y.2.key ∙ is.by; tuples = λ t h. y.2.tuples t (is.tuples t h) }

kept_stays : (n : ℕ) (s : RowsData) (xs ys : List KeyIndexData) → AreIndexesGrown xs ys → (t : Test) → IsKeptFor n s xs t → IsKeptFor n s ys t
kept_stays n s xs ys grown t is = record { by = λ key same. by_stays key s xs ys grown (is.by key same) }

-- the next test
pub kept_further : (n : ℕ) (s : RowsData) (tests : List Test) (i : ℕ) (t : Test) (xs ys : List KeyIndexData) → i < length tests → t ≡ get_or tests i t → AreIndexesGrown xs ys → IsKeptFor n s ys t
    → All (IsKeptFor n s xs) (take i tests) → All (IsKeptFor n s ys) (take (i + 1) tests)
kept_further n s tests i t xs ys lt at grown here all =
    All-more (IsKeptFor n s ys) tests i t lt (All-weaker (IsKeptFor n s xs) (IsKeptFor n s ys) (kept_stays n s xs ys grown) (take i tests) all) (subst (IsKeptFor n s ys) at here)

pub all_by : (tests : List Test) (n : ℕ) (s : RowsData) (xs : List KeyIndexData) → All (IsKeptFor n s xs) tests → AreAllBy tests n s xs
all_by tests n s xs all = record { of = λ key h. (All-contains (IsKeptFor n s xs) tests (test.Key n key) all h).by key refl }

pub are_kept : (c : CatalogueData) (n : ℕ) (s : RowsData) (xs : List KeyIndexData) → AreAllBy c.tests n s xs → AreKept c n s xs
are_kept c n s xs all key there = let is = all.of key there in (is.index, is.there, is.by, is.tuples)

-- ---- an index gains tuples
module _ (s : RowsData) (x y : KeyIndexData) (more : HasMore s.tuples x y) where
  pub index_gained : IsIndexGrown x y
  index_gained = record { key = more.key; tuples = λ t h. Contains-permutation (s.tuples ++ x.tuples) y.tuples t more.tuples (Contains-append_right s.tuples x.tuples t h) }

  pub gained_there : (t : Attrs) → Has s t → Contains y.tuples t
  gained_there t has = Contains-permutation (s.tuples ++ x.tuples) y.tuples t more.tuples (Contains-append_left s.tuples x.tuples t (in_contains s.tuples t (has_in s t has)))

-- one of several
module _ (key : List (List ℕ)) (s : RowsData) (xs : List KeyIndexData) (i : ℕ) (x y : KeyIndexData) (lt : i < length xs) (at : x ≡ get_or xs i x) where
  pub set_indexes : IsIndexGrown x y → AreIndexesGrown xs (slice_set xs i y)
  set_indexes more = record { of = set_stands xs i x y lt at IsIndexGrown index_itself more }

  pub set_by : {E : Type 0} (r : Result Bool E) → x.key ≡ key → OnOk r (IsIndexGrown x y) → IfOk r (λ b. b ≡ true → (t : Attrs) → Has s t → Contains y.tuples t) → IfOk r (λ b. b ≡ true → IsBy key s (slice_set xs i y))
  set_by (Ok b) by more there = λ is. record { index = y; there = is_set xs i x y lt at; by = more.key ∙ by; tuples = there is }
  set_by (Err e) by more there = tt

-- one more
module _ (key : List (List ℕ)) (s : RowsData) (xs : List KeyIndexData) (x : KeyIndexData) (is : IsKeyIndex key s x) where
  pub pushed_indexes : AreIndexesGrown xs (xs ++ x ∷ [])
  pushed_indexes = record { of = λ z h. (z, Contains-append_left xs (x ∷ []) z h, index_itself z) }

  pub pushed_by : IsBy key s (xs ++ x ∷ [])
  pushed_by = record { index = x; there = Contains-push xs x; by = is.key; tuples = λ t h. in_contains x.tuples t (of_entry s x.tuples is.tuples t h) }

-- ---- links
pub links_themselves : (xs : List KeyIndexData) → AreLinksGrown xs xs
links_themselves xs = record { from = λ y h. (y, h, index_itself y) }

pub links_in_turn : (xs ys zs : List KeyIndexData) → AreLinksGrown xs ys → AreLinksGrown ys zs → AreLinksGrown xs zs
links_in_turn xs ys zs one two = record {
  from = λ z h.
      let y = two.from z h in
      let x = one.from y.0 y.1 in
      (x.0, x.1, record { key = y.2.key ∙ x.2.key; tuples = λ t m. y.2.tuples t (x.2.tuples t m) });
}

pub set_links : (xs : List KeyIndexData) (i : ℕ) (x y : KeyIndexData) → i < length xs → x ≡ get_or xs i x → IsIndexGrown x y → AreLinksGrown xs (slice_set xs i y)
set_links xs i x y lt at more = record { from = set_from xs i x y lt at IsIndexGrown index_itself more }

-- one more
pub linked_more : (key : List (List ℕ)) (s : RowsData) (xs : List KeyIndexData) (x : KeyIndexData) → IsKeyIndex key s x → AreLinked s xs → AreLinked s (xs ++ x ∷ [])
linked_more key s xs x is linked = record {
  all = λ y h t has. ⊎_elim
      (λ old. linked.all y old t has)
      (λ (new : x ≡ y). subst (λ (z : KeyIndexData). Contains z.tuples t) new (in_contains x.tuples t (of_entry s x.tuples is.tuples t has)))
      (Contains-push_cases xs x y h);
}

-- the links so far have the tuples
abbrev pub has_all : RowsData → KeyIndexData → Type 0
has_all s x = (t : Attrs) → Has s t → Contains x.tuples t

pub one_further : (s : RowsData) (xs : List KeyIndexData) (i : ℕ) (y : KeyIndexData) → i < length xs → ((j : ℕ) (d : KeyIndexData) → j < i → has_all s (get_or xs j d)) → has_all s y → (j : ℕ) (d : KeyIndexData) → j < i + 1 → has_all s (get_or (slice_set xs i y) j d)
one_further s xs i y lt done here j d within = ⊎_elim
    (λ (same : j ≡ i). subst (has_all s) (sym (ap (λ k. get_or (slice_set xs i y) k d) same ∙ get_or-set_same xs i y d lt)) here)
    (λ apart. subst (has_all s) (sym (get_or-set_other xs i j y d apart)) (done j d (less j apart within)))
    (cases_eq j i)
  where
    less : (j : ℕ) → (j ≡ i → ⊥) → j < i + 1 → j < i
    less j apart within = omega (arith, apart, within)

pub all_linked : (s : RowsData) (xs : List KeyIndexData) (i : ℕ) → length xs ≤ i → ((j : ℕ) (d : KeyIndexData) → j < i → has_all s (get_or xs j d)) → AreLinked s xs
all_linked s xs i end done = record {
  all = λ x h. let within = h.1 in subst (has_all s) h.2 (done h.0 x (omega (arith, within, end)));
}

-- ---- insertions
insertions_itself : (g : Insertions) → IsAddedTo g g
insertions_itself g = record { relvar = refl; reads = λ n h. h; writes = λ n h. h; indexes = indexes_themselves g.indexes.items; links = links_themselves g.links.items }

pub set_insertions : (gs : List Insertions) (i : ℕ) (g h : Insertions) → i < length gs → g ≡ get_or gs i g → IsAddedTo g h → AreInsertionsGrown gs (slice_set gs i h)
set_insertions gs i g h lt at more = record { of = set_stands gs i g h lt at IsAddedTo insertions_itself more }

pub pushed_insertions : (gs : List Insertions) (g : Insertions) → AreInsertionsGrown gs (gs ++ g ∷ [])
pushed_insertions gs g = record { of = λ z h. (z, Contains-append_left gs (g ∷ []) z h, insertions_itself z) }

module _ (c : CatalogueData) (reads writes : List ℕ) (n : ℕ) (s : RowsData) (gs : List Insertions) where
  pub set_told : {E : Type 0} (i : ℕ) (g h : Insertions) → i < length gs → g ≡ get_or gs i g → (r : Result Bool E) → g.relvar ≡ n → OnOk r (IsAddedTo g h) → IfOk r (λ b. b ≡ true → IsToldBy c reads writes s h)
      → IfOk r (λ b. b ≡ true → IsToldIn c reads writes n s (slice_set gs i h))
  set_told i g h lt at (Ok b) into more told = λ is. record { insertions = h; there = is_set gs i g h lt at; relvar = more.relvar ∙ into; told = told is }
  set_told i g h lt at (Err e) into more told = tt

  pub pushed_told : (g h : Insertions) → g.relvar ≡ n → IsAddedTo g h → IsToldBy c reads writes s h → IsToldIn c reads writes n s (gs ++ h ∷ [])
  pushed_told g h into more told = record { insertions = h; there = Contains-push gs h; relvar = more.relvar ∙ into; told = told }

  pub told_among : IsSuited c n → IsToldIn c reads writes n s gs → IsToldAmong c reads writes n s gs
  told_among suited is k a within inserts =
      let g = is.insertions in
      let same : n ≡ g.relvar = sym is.relvar in (
        g,
        is.there,
        record {
          tuples = s;
          inserts = subst (λ m. Inserts c k a m s) same inserts;
          within = record { footprint = λ m h. is.told.reads_ m (within.footprint m h); targets = λ m h. is.told.writes_ m (within.targets m h) };
          judge = subst (λ m. AllJudgeGrowth c m) same suited.judge;
          key = suited.key;
          has_key = subst (λ m. Contains c.tests (test.Key m suited.key)) same suited.has_key;
          kept = is.told.kept;
          linked = is.told.linked.all;
        },
      )

insertions_in_turn : (fs gs hs : List Insertions) → AreInsertionsGrown fs gs → AreInsertionsGrown gs hs → AreInsertionsGrown fs hs
insertions_in_turn fs gs hs one two = record {
  of = λ f there.
      let g = one.of f there in
      let h = two.of g.0 g.1 in (
        h.0,
        h.1,
        record {
          relvar = h.2.relvar ∙ g.2.relvar;
          reads = λ n m. h.2.reads n (g.2.reads n m);
          writes = λ n m. h.2.writes n (g.2.writes n m);
          indexes = indexes_in_turn f.indexes.items g.0.indexes.items h.0.indexes.items g.2.indexes h.2.indexes;
          links = links_in_turn f.links.items g.0.links.items h.0.links.items g.2.links h.2.links;
        },
      );
}

-- the insertions first, and then all
pub others_after : (x : Accesses) (gs : Vec Insertions Global) (y : Accesses) → AreInsertionsGrown x.insertions.items gs.items → AreAccessesGrown (record { reads = x.reads; writes = x.writes; insertions = gs }) y
    → AreAccessesGrown x y
others_after x gs y one two = record { reads = two.reads; writes = two.writes; insertions = insertions_in_turn x.insertions.items gs.items y.insertions.items one two.insertions }

-- ---- what is covered stays so
module _ (c : CatalogueData) (k : ℕ) (a : List ℕ) where
  within_stays : (rs ws qs vs : List ℕ) → AreIn rs qs → AreIn ws vs → KeepsWithin c k a rs ws → KeepsWithin c k a qs vs
  within_stays rs ws qs vs reads writes is = record { footprint = λ n h. reads n (is.footprint n h); targets = λ n h. writes n (is.targets n h) }

  among_stays : (g h : Insertions) → IsAddedTo g h → IsAmong c k a g → IsAmong c k a h
  among_stays g h more is =
      let same : g.relvar ≡ h.relvar = sym more.relvar in
      record {
        tuples = is.tuples;
        inserts = subst (λ m. Inserts c k a m is.tuples) same is.inserts;
        within = within_stays g.reads.items g.writes.items h.reads.items h.writes.items more.reads more.writes is.within;
        judge = subst (λ m. AllJudgeGrowth c m) same is.judge;
        key = is.key;
        has_key = subst (λ m. Contains c.tests (test.Key m is.key)) same is.has_key;
        kept = λ ks there.
            let x = is.kept ks (subst (λ m. Contains c.tests (test.Key m ks)) more.relvar there) in
            let y = more.indexes.of x.0 x.1 in
            (y.0, y.1, y.2.key ∙ x.2, λ t m. y.2.tuples t (x.3 t m));
        linked = λ x there t has.
            let y = more.links.from x there in
            y.2.tuples t (is.linked y.0 y.1 t has);
      }

  pub covered_stays : (x y : Accesses) → AreAccessesGrown x y → Covers c x k a → Covers c y k a
  covered_stays x y more (inl within) = inl (within_stays x.reads.items x.writes.items y.reads.items y.writes.items more.reads more.writes within)
  covered_stays x y more (inr (g, there, is)) = let h = more.insertions.of g there in inr (h.0, h.1, among_stays g h.0 h.2 is)

  pub covered_by_places : (x : Accesses) (reads writes : List ℕ) → AreIn reads x.reads.items → AreIn writes x.writes.items → KeepsWithin c k a reads writes → Covers c x k a
  covered_by_places x reads writes first second is = inl (within_stays reads writes x.reads.items x.writes.items first second is)
