-- What is known of the relvars under an expression gives it its meaning.
use Rattle.std.proofs.Common.{◌≡◌, ◌==◌, ⊎_elim, ℕ, zero, suc, ◌<◌, Bool, true, List, [], ◌∷◌, ◌++◌, map, length, drop, get_or, Option, Some, None, if◌then◌else◌, Result, Err, refl, ap, sym, ◌∙◌, subst, arith, true≢false, eq-eqb, ne_eqb}
use Rattle.std.specs.Prelude.{slice_get}
use Rattle.std.specs.List.{Contains, filter_map, cons_option}
use Rattle.std.specs.List.Sorted.{IsStrictlySortedBy}
use Rattle.std.specs.Ordering.{nat_cmp}
use Rattle.std.specs.declared.cmp.Ordering.TheVariants.{Less}
use Rattle.std.proofs.lemmas.Bool.{cases_eq}
use Rattle.std.proofs.lemmas.Cmp.{ranked}
use Rattle.std.proofs.lemmas.List.{get_or-map, length-map, map-append}
use Rattle.std.proofs.lemmas.List.Elements.{All-from_recursion, Contains-append_left, Contains-append_right, Contains-append_cases, Contains-push_cases}
use Rattle.std.proofs.lemmas.Map.Keys.{sorted_head, sorted_tail}
use Rattle.std.proofs.lemmas.Option.{slice_get_within, slice_get-get_or, get_or_from_slice_get}
use Rattle.td_values.specs.Data.{Attrs}
use Rattle.td_values.specs.Rows.{RowsData}
use Rattle.td_graph.specs.Links.{LeadsOn, start, onward}
use Rattle.td_graph.proofs.Walks.{the_one}
use Rattle.td_typed_trees.specs.declared.expression.BaseUnder.{BaseUnder}
use Rattle.td_typed_trees.specs.declared.expression.Expression.{Expression}
use Rattle.td_typed_trees.specs.declared.expression.VirtualUnder.{VirtualUnder}
use Rattle.td_typed_trees.specs.declared.tree.Typed.{Typed}
use Rattle.td_algebra.specs.declared.errors.Stop.{Stop}
use Rattle.td_algebra.specs.declared.errors.Stop.TheVariants.{Untyped}
use Rattle.td_headings.specs.Catalogues.{CatalogueData}
use Rattle.td_headings.specs.Definitions.{Defined}
use Rattle.td_headings.specs.Expressions.{IsTyped, IsTree, HasAllUnder, virtual_of, virtual_at, places_of, reads}
use Rattle.td_headings.specs.Reached.{IsReached, is_base, named_relvars, relvars_of_origin, AreThose, ReadsRelvar}
use Rattle.td_headings.specs.declared.defined.Origin.{Origin}
use Rattle.td_headings.specs.declared.defined.Origin.TheVariants as origin
use Rattle.td_headings.proofs.ReadLemmas.{reads_those}
use Rattle.td_headings.proofs.WellTyped.{all_typed}
use Rattle.td_meaning.specs.Mean.{Relvars, Selection, mean, rows_in, within}
use Rattle.td_meaning.specs.Seen.{one_known_more, relvars_at, virtual_known, virtuals_known}
use Rattle.td_meaning.specs.Selections.{selection}
use Rattle.td_meaning.specs.declared.environment.Known.{Known}
use Rattle.td_semantics.specs.Meanings.{no_names, with_virtual, with_virtuals, means}
use Rattle.td_eval.specs.ForProofs.Environments.{base_known, bases_known, all_known}
use Rattle.td_eval.proofs.Named.{named_agree}
use Rattle.td_eval.proofs.Placed.{named_defined, names_earlier}

-- ---- lists of places
pub either : {P : Type 0} (x : ℕ) (xs : List ℕ) (n : ℕ) → Contains (x ∷ xs) n → (n ≡ x → P) → (Contains xs n → P) → P
either x xs n h here there = ⊎_elim (λ p. here (the_one x n p)) there (Contains-append_cases (x ∷ []) xs n h)

pub further : (x : ℕ) (xs : List ℕ) (n : ℕ) → Contains xs n → Contains (x ∷ xs) n
further x xs n h = Contains-append_right (x ∷ []) xs n h

pub none_there : {P : Type 0} (n : ℕ) → Contains [] n → P
none_there n h = absurd (omega (arith, h.1))

-- later places are greater
pub later : (m : ℕ) (ms : List ℕ) (n : ℕ) → IsStrictlySortedBy nat_cmp (m ∷ ms) → Contains ms n → m < n
later m ms n sorted h =
    let less = All-from_recursion (λ y. nat_cmp m y ≡ Less) ms (sorted_head nat_cmp m ms sorted) h.0 n h.1 in
    let is : nat_cmp m n ≡ Less = subst (λ y. nat_cmp m y ≡ Less) h.2 less in
    ranked m n Less (sym is)

-- ---- what is known
abbrev place_of : Known → ℕ
place_of k = k.place

abbrev places : List Known → List ℕ
places ks = map place_of ks

abbrev if_here : ℕ → Known → Result RowsData Stop → Result RowsData Stop
if_here n k other = if k.place == n then k.value else other

-- what is put behind the others leaves them, and is found where none of them is
others_stay : (ks : List Known) (k : Known) (n : ℕ) → (n ≡ k.place → ⊥) → relvars_at (ks ++ k ∷ []) n ≡ relvars_at ks n
others_stay [] k n apart = ap (λ b. if b then k.value else Err Untyped) (ne_eqb k.place n (λ e. apart (sym e)))
others_stay (j ∷ ks) k n apart = ap (if_here n j) (others_stay ks k n apart)

last_found : (ks : List Known) (k : Known) → (Contains (places ks) k.place → ⊥) → relvars_at (ks ++ k ∷ []) k.place ≡ k.value
last_found [] k new = ap (λ b. if b then k.value else Err Untyped) (eq-eqb k.place k.place refl)
last_found (j ∷ ks) k new =
    ap (λ b. if b then j.value else relvars_at (ks ++ k ∷ []) k.place) (ne_eqb j.place k.place (λ e. new (0, omega arith, e)))
    ∙ last_found ks k (λ h. new (further j.place (places ks) k.place h))

base_found : (r : Relvars) (bs : List BaseUnder) (n : ℕ) → Contains (places_of bs) n → relvars_at (bases_known r bs) n ≡ r n
base_found r [] n h = none_there n h
base_found r (b ∷ bs) n h =
    ⊎_elim
    (λ e. ap (λ t. if t then r b.place else relvars_at (bases_known r bs) n) (eq-eqb b.place n e) ∙ ap r e)
    (λ apart.
    ap (λ t. if t then r b.place else relvars_at (bases_known r bs) n) (ne_eqb b.place n apart)
    ∙ base_found r bs n (either b.place (places_of bs) n h (λ e. absurd (apart (sym e))) (λ p. p)))
    (cases_eq b.place n)

-- what stands there is found, whatever is put behind
first_found : (ks : List Known) (k : Known) (n : ℕ) → Contains (places ks) n → relvars_at (ks ++ k ∷ []) n ≡ relvars_at ks n
first_found [] k n h = none_there n h
first_found (j ∷ ks) k n h =
    ⊎_elim
    (λ e.
    ap (λ b. if b then j.value else relvars_at (ks ++ k ∷ []) n) (eq-eqb j.place n e)
    ∙ sym (ap (λ b. if b then j.value else relvars_at ks n) (eq-eqb j.place n e)))
    (λ apart. ap (if_here n j) (first_found ks k n (either j.place (places ks) n h (λ e. absurd (apart (sym e))) (λ p. p))))
    (cases_eq j.place n)

still_found : (s : Selection) (vs : List VirtualUnder) (ks : List Known) (n : ℕ) → Contains (places ks) n → relvars_at (virtuals_known s vs ks) n ≡ relvars_at ks n
still_found s [] ks n h = refl
still_found s (v ∷ vs) ks n h =
    let k = virtual_known s ks v in
    still_found s vs (ks ++ k ∷ []) n (subst (λ l. Contains l n) (sym (map-append place_of ks (k ∷ []))) (Contains-append_left (places ks) (k.place ∷ []) n h))
    ∙ first_found ks k n h

same_places : (r : Relvars) (bs : List BaseUnder) → places (bases_known r bs) ≡ places_of bs
same_places r [] = refl
same_places r (b ∷ bs) = ap (λ l. b.place ∷ l) (same_places r bs)

pub base_stays : (x : Expression) (r : Relvars) (n : ℕ) → Contains (places_of x.bases) n → relvars_at (all_known x r) n ≡ r n
base_stays x r n h =
    still_found (selection x.selectors) x.virtuals (bases_known r x.bases) n (subst (λ l. Contains l n) (sym (same_places r x.bases)) h)
    ∙ base_found r x.bases n h

-- relvars that agree there are known alike
pub same_known : (r s : Relvars) (bs : List BaseUnder) → ((n : ℕ) → Contains (places_of bs) n → r n ≡ s n) → bases_known r bs ≡ bases_known s bs
same_known r s [] same = refl
same_known r s (b ∷ bs) same =
    let here : base_known r b ≡ base_known s b = ap (λ v. record { place = b.place; value = v }) (same b.place (0, omega arith, refl)) in
    let rest = same_known r s bs (λ n h. same n (further b.place (places_of bs) n h)) in
    λ i. here i ∷ rest i

-- ---- links
under_at : (os : List Origin) (m : ℕ) (u : Typed) → slice_get os m ≡ Some (origin.Virtual u) → (w : ℕ) → Contains (named_relvars u) w → LeadsOn (map relvars_of_origin os) m w
under_at os m u is w h =
    let lt = slice_get_within os m (origin.Virtual u) is in
    let at = get_or-map relvars_of_origin os m (origin.Virtual u) [] lt ∙ ap relvars_of_origin (get_or_from_slice_get os m (origin.Virtual u) (origin.Virtual u) is) in
    subst (λ l. Contains l w) (sym at) h

reached_within : (os : List Origin) (u : Typed) (n : ℕ) → IsReached os u n → n < length os
reached_within os u n (start h lt) = omega (arith, lt, length-map os relvars_of_origin)
reached_within os u n (onward r on lt) = omega (arith, lt, length-map os relvars_of_origin)

module _ (c : CatalogueData) (defined : Defined c) (x : Expression) (tree : IsTree c x.attributes x.tree x.kind) (u : HasAllUnder c x) where
  abbrev all_places : List ℕ
  all_places = u.relvars

  abbrev stored : ℕ → Bool
  stored n = is_base (slice_get c.origins n)

  abbrev selected : Selection
  selected = selection x.selectors

  -- where only base relvars among these are known, those and all others are known as they are
  record Agrees (ns : List ℕ) (ks : List Known) (r : Relvars) : Type 0 where
    pub stands : (n : ℕ) → Contains (places ks) n → Contains ns n → stored n ≡ true
    pub same : (n : ℕ) → Contains all_places n → (Contains ns n → stored n ≡ true) → relvars_at ks n ≡ r n

  pub inside : (n : ℕ) → Contains all_places n → n < length c.origins
  inside n h = reached_within c.origins x.tree n ((u.reached.members n).0 h)

  -- what the tree names, and what the expression of a virtual relvar among them names, is among them
  pub tree_names : (w : ℕ) → Contains (named_relvars x.tree) w → Contains all_places w
  tree_names w h =
      let lt = named_defined c defined x.attributes x.tree x.kind tree w h in
      (u.reached.members w).1 (start h (omega (arith, lt, length-map c.origins relvars_of_origin)))

  pub virtual_names : (m : ℕ) (v : Typed) → Contains all_places m → slice_get c.origins m ≡ Some (origin.Virtual v) → (w : ℕ) → Contains (named_relvars v) w → Contains all_places w
  virtual_names m v there is w h =
      let lt = names_earlier c defined m v is w h in
      let within_ = inside m there in
      (u.reached.members w).1 (onward ((u.reached.members m).0 there) (under_at c.origins m v is w h) (omega (arith, lt, within_, length-map c.origins relvars_of_origin)))

  module _ (m : ℕ) (ms : List ℕ) (ks : List Known) (r : Relvars) (sorted : IsStrictlySortedBy nat_cmp (m ∷ ms)) (a : Agrees (m ∷ ms) ks r) where
    skipped : stored m ≡ true → Agrees ms ks r
    skipped is = record {
      stands = λ n p q. a.stands n p (further m ms n q);
      same = λ n h f. a.same n h (λ q. either m ms n q (λ e. ap stored e ∙ is) f);
    }

    module _ (v : Typed) (there : Contains all_places m) (is : slice_get c.origins m ≡ Some (origin.Virtual v)) where
      abbrev new : VirtualUnder
      new = record { place = m; tree = v }

      not_stored : stored m ≡ true → ⊥
      not_stored h = absurd (true≢false (sym h ∙ ap is_base is))

      alike : mean (relvars_at ks) selected v ≡ mean r selected v
      alike = named_agree (relvars_at ks) r selected v (λ w h. a.same w (virtual_names m v there is w h) (λ q.
          let lt = names_earlier c defined m v is w h in
          either m ms w q (λ e. absurd (omega (arith, lt, e))) (λ p. let gt = later m ms w sorted p in absurd (omega (arith, lt, gt)))))

      at_new : relvars_at (one_known_more selected ks new) m ≡ with_virtual selected r new m
      at_new =
          last_found ks (virtual_known selected ks new) (λ h. not_stored (a.stands m h (0, omega arith, refl)))
          ∙ ap (λ f. rows_in f no_names) alike
          ∙ sym (ap (λ b. if b then rows_in (mean r selected v) no_names else r m) (eq-eqb m m refl))

      at_other : (n : ℕ) → (m ≡ n → ⊥) → Contains all_places n → (Contains ms n → stored n ≡ true) → relvars_at (one_known_more selected ks new) n ≡ with_virtual selected r new n
      at_other n apart h f =
          others_stay ks (virtual_known selected ks new) n (λ e. apart (sym e))
          ∙ a.same n h (λ q. either m ms n q (λ e. absurd (apart (sym e))) f)
          ∙ sym (ap (λ b. if b then rows_in (mean r selected v) no_names else r n) (ne_eqb m n apart))

      added : Agrees ms (one_known_more selected ks new) (with_virtual selected r new)
      added = record {
        stands = λ n p q.
            ⊎_elim
            (λ old. a.stands n old (further m ms n q))
            (λ e. let gt = later m ms n sorted q in absurd (omega (arith, gt, e)))
            (Contains-push_cases (places ks) m n (subst (λ l. Contains l n) (map-append place_of ks (virtual_known selected ks new ∷ [])) p));
        same = λ n h f. ⊎_elim (λ e. subst (λ k. relvars_at (one_known_more selected ks new) k ≡ with_virtual selected r new k) e at_new) (λ apart. at_other n apart h f) (cases_eq m n);
      }

  abbrev Follows : List VirtualUnder → List Known → Relvars → ℕ → Type 0
  Follows vs ks r n = relvars_at (virtuals_known selected vs ks) n ≡ with_virtuals selected vs r n

  next_place : (m : ℕ) (ms : List ℕ) (ks : List Known) (r : Relvars) (n : ℕ) → IsStrictlySortedBy nat_cmp (m ∷ ms) → Contains all_places m → Agrees (m ∷ ms) ks r → ((js : List Known) (q : Relvars) → Agrees ms js q → Follows (filter_map (virtual_at c) ms) js q n) → (o : Option Origin) → slice_get c.origins m ≡ o → Follows (cons_option (virtual_of m o) (filter_map (virtual_at c) ms)) ks r n
  next_place m ms ks r n sorted there a rest None is =
      let some = slice_get-get_or c.origins m (origin.Base [] None) (inside m there) in
      let no : None ≡ Some (get_or c.origins m (origin.Base [] None)) = sym is ∙ some in
      cc
  next_place m ms ks r n sorted there a rest (Some (origin.Base keys e)) is = rest ks r (skipped m ms ks r sorted a (ap is_base is))
  next_place m ms ks r n sorted there a rest (Some (origin.Virtual v)) is = rest (one_known_more selected ks (new m ms ks r sorted a v there is)) (with_virtual selected r (new m ms ks r sorted a v there is)) (added m ms ks r sorted a v there is)

  known_same : (ns : List ℕ) → IsStrictlySortedBy nat_cmp ns → ((n : ℕ) → Contains ns n → Contains all_places n) → (ks : List Known) (r : Relvars) → Agrees ns ks r → (n : ℕ) → Contains all_places n → Follows (filter_map (virtual_at c) ns) ks r n
  known_same [] sorted part ks r a n h = a.same n h (none_there n)
  known_same (m ∷ ms) sorted part ks r a n h =
      next_place m ms ks r n sorted (part m (0, omega arith, refl)) a
      (λ js q b. known_same ms (sorted_tail nat_cmp m ms sorted) (λ k p. part k (further m ms k p)) js q b n h)
      (slice_get c.origins m) refl

  pub those : AreThose (ReadsRelvar c.origins x.tree) (reads x)
  those = reads_those c (all_typed c defined) x u

  begins : (r : Relvars) → Agrees all_places (bases_known r x.bases) r
  begins r = record {
    stands = λ n p q. ((those.members n).0 (subst (λ l. Contains l n) (same_places r x.bases) p)).1;
    same = λ n h f. base_found r x.bases n ((those.members n).1 ((u.reached.members n).0 h, f h));
  }

  pub known_relvar : (r : Relvars) (w : ℕ) → Contains all_places w → relvars_at (all_known x r) w ≡ with_virtuals selected x.virtuals r w
  known_relvar r w h =
      subst (λ vs. relvars_at (virtuals_known selected vs (bases_known r x.bases)) w ≡ with_virtuals selected vs r w) (sym u.virtuals)
      (known_same all_places u.reached.ascending (λ n p. p) (bases_known r x.bases) r (begins r) w h)

  pub known_means : (r : Relvars) → mean (relvars_at (all_known x r)) selected x.tree ≡ mean (with_virtuals selected x.virtuals r) selected x.tree
  known_means r = named_agree (relvars_at (all_known x r)) (with_virtuals selected x.virtuals r) selected x.tree (λ w h. known_relvar r w (tree_names w h))

pub as_known : (x : Expression) → IsTyped x → (r : Relvars) → mean (relvars_at (all_known x r)) (selection x.selectors) x.tree ≡ mean (with_virtuals (selection x.selectors) x.virtuals r) (selection x.selectors) x.tree
as_known x typed r = known_means typed.catalogue typed.defined x typed.tree typed.under r

pub by_reads : (x : Expression) (r s : Relvars) (t : Attrs) → IsTyped x → ((n : ℕ) → Contains (reads x) n → r n ≡ s n) → means x r t ≡ means x s t
by_reads x r s t typed same =
    ap (λ m. m (within t no_names))
    (sym (as_known x typed r)
    ∙ ap (λ ks. mean (relvars_at (virtuals_known (selection x.selectors) x.virtuals ks)) (selection x.selectors) x.tree) (same_known r s x.bases same)
    ∙ as_known x typed s)

-- ---- what the program puts together
pub next_virtual : (s : Selection) (vs : List VirtualUnder) (i : ℕ) (v : VirtualUnder) (ks : List Known) → i < length vs → v ≡ get_or vs i v → virtuals_known s (drop i vs) ks ≡ virtuals_known s (drop (suc i) vs) (one_known_more s ks v)
next_virtual s [] i v ks lt is = absurd (omega (arith, lt))
next_virtual s (w ∷ vs) zero v ks lt is = ap (λ u. virtuals_known s vs (one_known_more s ks u)) (sym is)
next_virtual s (w ∷ vs) (suc i) v ks lt is = next_virtual s vs i v ks (omega (arith, lt)) is
