-- An expression means what its tree does where all of its catalogue is there.
use Rattle.std.proofs.Common.{◌≡◌, ℕ, zero, suc, ◌+◌, ◌<◌, List, [], ◌∷◌, ◌++◌, map, length, get_or, Option, Some, None, refl, ap, sym, ◌∙◌, subst, arith}
use Rattle.std.specs.Prelude.{slice_get}
use Rattle.std.specs.List.{Contains, cons_option, filter_map, flat_map}
use Rattle.std.specs.List.Sorted.{IsStrictlySortedBy}
use Rattle.std.specs.Ordering.{nat_cmp}
use Rattle.std.proofs.lemmas.List.{get_or-map, length-map}
use Rattle.std.proofs.lemmas.List.Elements.{Contains-append_left, Contains-append_right}
use Rattle.std.proofs.lemmas.Map.Keys.{sorted_from_strictly_increasing}
use Rattle.std.proofs.lemmas.Option.{get_or_from_slice_get, slice_get_within}
use Rattle.td_values.specs.Data.{Attrs}
use Rattle.td_graph.specs.Links.{LeadsOn, ReachedFrom, start, onward}
use Rattle.td_typed_trees.specs.declared.expression.Expression.{Expression}
use Rattle.td_typed_trees.specs.declared.expression.VirtualUnder.{VirtualUnder}
use Rattle.td_typed_trees.specs.declared.tree.Typed.{Typed}
use Rattle.td_headings.specs.Catalogues.{CatalogueData}
use Rattle.td_headings.specs.Definitions.{Defined}
use Rattle.td_headings.specs.Expressions.{HasAllUnder, IsTree, no_tuple, selector_at, virtual_at, virtual_of}
use Rattle.td_values.specs.declared.TypeKind.TheVariants as kind
use Rattle.td_headings.specs.Reached.{is_base, named_possreps, possreps_under, possreps_within}
use Rattle.td_headings.specs.declared.defined.Origin.{Origin}
use Rattle.td_headings.specs.declared.defined.Origin.TheVariants as origin
use Rattle.td_headings.proofs.WellTyped.{all_typed}
use Rattle.td_meaning.specs.Mean.{Meaning, Relvars, Selection, mean, rows_in, within}
use Rattle.td_meaning.specs.Selections.{none_selected, selection}
use Rattle.td_semantics.specs.Meanings.{means, no_names, with_virtuals}
use Rattle.td_semantics.specs.Trees.{all_relvars, places, places_from, selection_of, tree_means}
use Rattle.td_eval.proofs.Known.{either, inside, none_there, tree_names, virtual_names}
use Rattle.td_eval.proofs.Named.{agree}
use Rattle.td_eval.proofs.Placed.{names_earlier, selected_defined, selects_earlier}
use Rattle.td_eval.proofs.Selected.{chosen_alike, standing}
use Rattle.td_eval.proofs.Virtuals.{each_is, stays}

-- ---- the places of a list
place_at : {A : Type 0} (d n : ℕ) (xs : List A) (k : ℕ) → k < length xs → get_or (places_from n xs) k d ≡ n + k
place_at d n [] k lt = absurd (omega (arith, lt))
place_at d n (x ∷ xs) zero lt = omega arith
place_at d n (x ∷ xs) (suc k) lt = let same : suc n + k ≡ n + suc k = omega arith in place_at d (suc n) xs k (omega (arith, lt)) ∙ same

many_places : {A : Type 0} (n : ℕ) (xs : List A) → length (places_from n xs) ≡ length xs
many_places n [] = refl
many_places n (x ∷ xs) = ap suc (many_places (suc n) xs)

pub ascending : {A : Type 0} (xs : List A) → IsStrictlySortedBy nat_cmp (places xs)
ascending xs = sorted_from_strictly_increasing (places xs) (λ k lt.
    let many = many_places 0 xs in
    let here = place_at 0 0 xs k (omega (arith, lt, many)) in
    let next = place_at 0 0 xs (k + 1) (omega (arith, lt, many)) in
    omega (arith, here, next))

pub has_place : {A : Type 0} (xs : List A) (n : ℕ) → n < length xs → Contains (places xs) n
has_place xs n lt =
    let many = many_places 0 xs in
    let same : 0 + n ≡ n = omega arith in
    (n, omega (arith, lt, many), place_at n 0 xs n lt ∙ same)

-- ---- lists made of lists
at_front : {Y : Type 0} (o : Option Y) (ys : List Y) (y : Y) → o ≡ Some y → Contains (cons_option o ys) y
at_front o ys y is = subst (λ p. Contains (cons_option p ys) y) (sym is) (0, omega arith, refl)

behind_it : {Y : Type 0} (o : Option Y) (ys : List Y) (y : Y) → Contains ys y → Contains (cons_option o ys) y
behind_it None ys y h = h
behind_it (Some z) ys y h = Contains-append_right (z ∷ []) ys y h

pub in_filter_map : {Y : Type 0} (f : ℕ → Option Y) (ns : List ℕ) (n : ℕ) (y : Y) → Contains ns n → f n ≡ Some y → Contains (filter_map f ns) y
in_filter_map f [] n y h is = none_there n h
in_filter_map f (m ∷ ms) n y h is =
    either m ms n h
    (λ e. at_front (f m) (filter_map f ms) y (ap f (sym e) ∙ is))
    (λ k. behind_it (f m) (filter_map f ms) y (in_filter_map f ms n y k is))

in_flat_map : (f : ℕ → List ℕ) (ns : List ℕ) (n w : ℕ) → Contains ns n → Contains (f n) w → Contains (flat_map f ns) w
in_flat_map f [] n w h k = none_there n h
in_flat_map f (m ∷ ms) n w h k =
    either m ms n h
    (λ e. Contains-append_left (f m) (flat_map f ms) w (subst (λ j. Contains (f j) w) e k))
    (λ p. Contains-append_right (f m) (flat_map f ms) w (in_flat_map f ms n w p k))

-- ---- links between possreps
within_at : (ls : List (Option Typed)) (n : ℕ) (u : Option Typed) → slice_get ls n ≡ Some u → (w : ℕ) → Contains (possreps_within u) w → LeadsOn (map possreps_within ls) n w
within_at ls n u is w h =
    let lt = slice_get_within ls n u is in
    let at = get_or-map possreps_within ls n u [] lt ∙ ap possreps_within (get_or_from_slice_get ls n u u is) in
    subst (λ l. Contains l w) (sym at) h

linked_within : (ls : List (Option Typed)) (starts : List ℕ) (n : ℕ) → ReachedFrom (map possreps_within ls) starts n → n < length ls
linked_within ls starts n (start h lt) = omega (arith, lt, length-map ls possreps_within)
linked_within ls starts n (onward r on lt) = omega (arith, lt, length-map ls possreps_within)

module _ (c : CatalogueData) (defined : Defined c) (x : Expression) (tree : IsTree c x.attributes x.tree x.kind) (u : HasAllUnder c x) where
  -- ---- the possreps that are selected
  abbrev under : ℕ → List ℕ
  under m = possreps_under (slice_get c.origins m)

  chosen_inside : (n : ℕ) → Contains u.possreps n → n < length c.limits
  chosen_inside n h = linked_within c.limits (named_possreps x.tree ++ flat_map under u.relvars) n ((u.selected.members n).0 h)

  closed : (n : ℕ) (l : Option Typed) → Contains u.possreps n → slice_get c.limits n ≡ Some l → (w : ℕ) → Contains (possreps_within l) w → Contains u.possreps w
  closed n l h is w k =
      let less = selects_earlier c defined n l is w k in
      let lt = chosen_inside n h in
      (u.selected.members w).1 (onward ((u.selected.members n).0 h) (within_at c.limits n l is w k) (omega (arith, less, lt, length-map c.limits possreps_within)))

  tree_selects : (w : ℕ) → Contains (named_possreps x.tree) w → Contains u.possreps w
  tree_selects w h =
      let lt = selected_defined c defined x.attributes x.tree x.kind tree w h in
      (u.selected.members w).1 (start (Contains-append_left (named_possreps x.tree) (flat_map under u.relvars) w h) (omega (arith, lt, length-map c.limits possreps_within)))

  virtual_selects : (m : ℕ) (v : Typed) → Contains u.relvars m → slice_get c.origins m ≡ Some (origin.Virtual v) → (w : ℕ) → Contains (named_possreps v) w → Contains u.possreps w
  virtual_selects m v there is w h =
      let all = all_typed c defined in
      let within_ = inside c defined x tree u m there in
      let each = all.origin_each in
      let r = standing c.schema.relvars m (omega (arith, within_, each)) in
      let lt = selected_defined c defined no_tuple v (kind.Relation r.0.value) (all.relvars m (origin.Virtual v) r.0 is r.1) w h in
      (u.selected.members w).1 (start (Contains-append_right (named_possreps x.tree) (flat_map under u.relvars) w (in_flat_map under u.relvars m w there (subst (λ o. Contains (possreps_under o) w) (sym is) h))) (omega (arith, lt, length-map c.limits possreps_within)))

  abbrev its_selection : Selection
  its_selection = selection (filter_map (selector_at c) u.possreps)

  same_choice : (n : ℕ) → Contains u.possreps n → its_selection n ≡ selection_of c n
  same_choice = chosen_alike c defined u.possreps (places c.schema.possreps) none_selected u.selected.ascending (ascending c.schema.possreps) chosen_inside closed (λ n h.
      let lt = chosen_inside n h in
      let each = (all_typed c defined).limit_each in
      has_place c.schema.possreps n (omega (arith, lt, each)))

  -- ---- the relvars that are reached
  module _ (r : Relvars) where
    abbrev its_relvars : Relvars
    its_relvars = with_virtuals its_selection (filter_map (virtual_at c) u.relvars) r

    abbrev AllAlike : ℕ → Type 0
    AllAlike b = (n : ℕ) → n < b → Contains u.relvars n → its_relvars n ≡ all_relvars c r n

    alike_at : (n : ℕ) → Contains u.relvars n → AllAlike n → (o : Option Origin) → slice_get c.origins n ≡ o → its_relvars n ≡ all_relvars c r n
    alike_at n h before None is =
        let s = standing c.origins n (inside c defined x tree u n h) in
        let no : None ≡ Some s.0 = sym is ∙ s.1 in
        cc
    alike_at n h before (Some (origin.Base ks e)) is =
        stays c defined its_selection u.relvars r n (λ k. ap is_base is)
        ∙ sym (stays c defined (selection_of c) (places c.origins) r n (λ k. ap is_base is))
    alike_at n h before (Some (origin.Virtual v)) is =
        let it : VirtualUnder = record { place = n; tree = v } in
        let found : virtual_at c n ≡ Some it = ap (virtual_of n) is in
        let there = has_place c.origins n (inside c defined x tree u n h) in
        each_is c defined its_selection u.relvars u.reached.ascending r it (in_filter_map (virtual_at c) u.relvars n it h found)
        ∙ ap (λ (m : Meaning). rows_in m no_names) (agree its_relvars (all_relvars c r) its_selection (selection_of c) v (
          (λ w k. before w (names_earlier c defined n v is w k) (virtual_names c defined x tree u n v h is w k)),
          (λ w k. same_choice w (virtual_selects n v h is w k)),
        ))
        ∙ sym (each_is c defined (selection_of c) (places c.origins) (ascending c.origins) r it (in_filter_map (virtual_at c) (places c.origins) n it there found))

    alike_below : (b : ℕ) → AllAlike b
    alike_below zero n lt h = absurd (omega (arith, lt))
    alike_below (suc b) n lt h = alike_at n h (λ w less k. alike_below b w (omega (arith, lt, less)) k) (slice_get c.origins n) refl

    pub its_tree : (t : Attrs) → means x r t ≡ tree_means c r x.tree t
    its_tree t =
        (λ i. mean (with_virtuals (selection (u.selectors i)) (u.virtuals i) r) (selection (u.selectors i)) x.tree (within t no_names))
        ∙ ap (λ (m : Meaning). m (within t no_names)) (agree its_relvars (all_relvars c r) its_selection (selection_of c) x.tree (
          (λ w h. alike_below (suc w) w (omega arith) (tree_names c defined x tree u w h)),
          (λ w h. same_choice w (tree_selects w h)),
        ))

pub means_its_tree : (c : CatalogueData) (x : Expression) (r : Relvars) (t : Attrs) → Defined c → IsTree c x.attributes x.tree x.kind → HasAllUnder c x → means x r t ≡ tree_means c r x.tree t
means_its_tree c x r t defined tree u = its_tree c defined x tree u r t
