-- What a tree of a catalogue means goes by the base relvars that it reads.
use Rattle.std.proofs.Common.{◌≡◌, ℕ, zero, suc, ◌<◌, List, [], map, length, Option, Some, None, slice_get, refl, ap, sym, ◌∙◌, subst, arith}
use Rattle.std.specs.List.{Contains}
use Rattle.std.proofs.lemmas.List.{get_or-map, length-map}
use Rattle.std.proofs.lemmas.Option.{get_or_from_slice_get, slice_get_within, slice_get-get_or}
use Rattle.td_values.specs.Data.{no_attrs}
use Rattle.td_values.specs.declared.TypeKind.{TypeKind}
use Rattle.td_graph.specs.Links.{LeadsOn, start, onward}
use Rattle.td_typed_trees.specs.declared.expression.VirtualUnder.{VirtualUnder}
use Rattle.td_typed_trees.specs.declared.tree.Typed.{Typed}
use Rattle.td_headings.specs.Catalogues.{CatalogueData}
use Rattle.td_headings.specs.Definitions.{Defined}
use Rattle.td_headings.specs.Expressions.{IsTree, no_tuple, virtual_at, virtual_of}
use Rattle.td_headings.specs.Reached.{IsReached, ReadsRelvar, is_base, named_relvars, relvars_of_origin}
use Rattle.td_headings.specs.declared.defined.Origin.{Origin}
use Rattle.td_headings.specs.declared.defined.Origin.TheVariants as origin
use Rattle.td_meaning.specs.Mean.{Meaning, Relvars, rows_in, within}
use Rattle.td_semantics.specs.Meanings.{no_names}
use Rattle.td_semantics.specs.Trees.{all_relvars, places, selection_of, tree_means}
use Rattle.td_eval.proofs.AllThere.{ascending, has_place, in_filter_map}
use Rattle.td_eval.proofs.Named.{named_agree}
use Rattle.td_eval.proofs.Placed.{named_defined, names_earlier}
use Rattle.td_eval.proofs.Virtuals.{each_is, stays}

under_at : (os : List Origin) (m : ℕ) (v : Typed) → slice_get os m ≡ Some (origin.Virtual v) → (w : ℕ) → Contains (named_relvars v) w → LeadsOn (map relvars_of_origin os) m w
under_at os m v is w h =
    let lt = slice_get_within os m (origin.Virtual v) is in
    let at = get_or-map relvars_of_origin os m (origin.Virtual v) [] lt ∙ ap relvars_of_origin (get_or_from_slice_get os m (origin.Virtual v) (origin.Virtual v) is) in
    subst (λ l. Contains l w) (sym at) h

reached_within : (os : List Origin) (u : Typed) (n : ℕ) → IsReached os u n → n < length os
reached_within os u n (start h lt) = omega (arith, lt, length-map os relvars_of_origin)
reached_within os u n (onward r on lt) = omega (arith, lt, length-map os relvars_of_origin)

module _ (c : CatalogueData) (defined : Defined c) (u : Typed) (k : TypeKind) (tree : IsTree c no_tuple u k) (r s : Relvars) (same : (n : ℕ) → ReadsRelvar c.origins u n → r n ≡ s n) where
  abbrev AllAlike : ℕ → Type 0
  AllAlike b = (n : ℕ) → n < b → IsReached c.origins u n → all_relvars c r n ≡ all_relvars c s n

  alike_at : (n : ℕ) → IsReached c.origins u n → AllAlike n → (o : Option Origin) → slice_get c.origins n ≡ o → all_relvars c r n ≡ all_relvars c s n
  alike_at n h before None is =
      let some = slice_get-get_or c.origins n (origin.Base [] None) (reached_within c.origins u n h) in
      let no = sym is ∙ some in
      cc
  alike_at n h before (Some (origin.Base ks e)) is =
      stays c defined (selection_of c) (places c.origins) r n (λ _. ap is_base is)
      ∙ same n (h, ap is_base is)
      ∙ sym (stays c defined (selection_of c) (places c.origins) s n (λ _. ap is_base is))
  alike_at n h before (Some (origin.Virtual v)) is =
      let it : VirtualUnder = record { place = n; tree = v } in
      let lt = reached_within c.origins u n h in
      let there = in_filter_map (virtual_at c) (places c.origins) n it (has_place c.origins n lt) (ap (virtual_of n) is) in
      each_is c defined (selection_of c) (places c.origins) (ascending c.origins) r it there
      ∙ ap (λ (m : Meaning). rows_in m no_names) (named_agree (all_relvars c r) (all_relvars c s) (selection_of c) v (λ w q.
      let less = names_earlier c defined n v is w q in
      before w less (onward h (under_at c.origins n v is w q) (omega (arith, less, lt, length-map c.origins relvars_of_origin)))))
      ∙ sym (each_is c defined (selection_of c) (places c.origins) (ascending c.origins) s it there)

  alike_below : (b : ℕ) → AllAlike b
  alike_below zero n lt h = absurd (omega (arith, lt))
  alike_below (suc b) n lt h = alike_at n h (λ w less q. alike_below b w (omega (arith, lt, less)) q) (slice_get c.origins n) refl

  pub trees_alike : tree_means c r u no_attrs ≡ tree_means c s u no_attrs
  trees_alike = ap (λ (m : Meaning). m (within no_attrs no_names)) (named_agree (all_relvars c r) (all_relvars c s) (selection_of c) u (λ w h.
      let lt = named_defined c defined no_tuple u k tree w h in
      alike_below (suc w) w (omega arith) (start h (omega (arith, lt, length-map c.origins relvars_of_origin)))))
