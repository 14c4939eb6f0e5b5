-- Relvars that agree on what a tree reads give it one meaning.
use Rattle.std.proofs.Common.{◌≡◌, ◌⊎◌, ⊎_elim, inl, inr, ℕ, ◌<◌, List, [], ◌∷◌, map, length, Option, Some, None, refl, ap, sym, ◌∙◌, subst, arith}
use Rattle.std.specs.Prelude.{slice_get}
use Rattle.std.specs.List.{cons_option, filter_map}
use Rattle.std.proofs.lemmas.Bool.{cases_eq}
use Rattle.std.proofs.lemmas.List.{length-map}
use Rattle.std.proofs.lemmas.Option.{slice_get_within}
use Rattle.td_graph.specs.Links.{start, onward}
use Rattle.td_typed_trees.specs.declared.expression.VirtualUnder.{VirtualUnder}
use Rattle.td_typed_trees.specs.declared.tree.Typed.{Typed}
use Rattle.td_headings.specs.Catalogues.{CatalogueData}
use Rattle.td_headings.specs.Expressions.{virtual_at, virtual_of}
use Rattle.td_headings.specs.Reached.{IsReached, is_base, relvars_of_origin}
use Rattle.td_headings.specs.declared.defined.Origin.{Origin}
use Rattle.td_headings.specs.declared.defined.Origin.TheVariants as origin
use Rattle.td_meaning.specs.Mean.{Meaning, Relvars, Selection, mean, rows_in}
use Rattle.td_semantics.specs.Meanings.{no_names, with_virtual, with_virtuals}
use Rattle.td_incremental.specs.Growth.{AgreeOn}
use Rattle.td_incremental.proofs.Named.{named_agree}
use Rattle.td_incremental.proofs.Reading.{leads_on}
use Rattle.td_incremental.proofs.Virtuals.{put_here, put_other}

module _ (c : CatalogueData) (u : Typed) where
  -- what u comes to; beyond the relvars that are defined there is nothing
  abbrev Near : ℕ → Type 0
  Near m = IsReached c.origins u m ⊎ (slice_get c.origins m ≡ None)

  abbrev Agree : Relvars → Relvars → Type 0
  Agree r s = (m : ℕ) → Near m → r m ≡ s m

  near : (m : ℕ) (o : Option Origin) → slice_get c.origins m ≡ o → (m < length (map relvars_of_origin c.origins) → IsReached c.origins u m) → Near m
  near m None is h = inr is
  near m (Some x) is h = let lt = slice_get_within c.origins m x is in inl (h (omega (arith, lt, length-map c.origins relvars_of_origin)))

  pub to_begin : (r s : Relvars) → AgreeOn c u r s → Agree r s
  to_begin r s a m (inl reached) = a m (λ base. (reached, base))
  to_begin r s a m (inr none) = a m (λ base. let no = sym (ap is_base none) ∙ base in cc)

  module _ (p : Selection) where
    same_tree : (r s : Relvars) → Agree r s → mean r p u ≡ mean s p u
    same_tree r s a = named_agree r s p u (λ w h. a w (near w (slice_get c.origins w) refl (λ lt. start h lt)))

    same_virtual : (r s : Relvars) → Agree r s → (m : ℕ) (v : Typed) → slice_get c.origins m ≡ Some (origin.Virtual v) → IsReached c.origins u m → mean r p v ≡ mean s p v
    same_virtual r s a m v is reached = named_agree r s p v (λ w h. a w (near w (slice_get c.origins w) refl (λ lt. onward reached (leads_on c m v is w h) lt)))

    with_more : (r s : Relvars) → Agree r s → (v : VirtualUnder) → slice_get c.origins v.place ≡ Some (origin.Virtual v.tree) → Agree (with_virtual p r v) (with_virtual p s v)
    with_more r s a v is m is_near =
        ⊎_elim
        (λ same. put_here p r v m same ∙ ap (λ (f : Meaning). rows_in f no_names) (same_virtual r s a v.place v.tree is (here (subst Near (sym same) is_near))) ∙ sym (put_here p s v m same))
        (λ apart. put_other p r v m apart ∙ a m is_near ∙ sym (put_other p s v m apart))
        (cases_eq v.place m)
      where
        here : Near v.place → IsReached c.origins u v.place
        here (inl reached) = reached
        here (inr none) = let no = sym is ∙ none in cc

    one_place : (m : ℕ) (vs : List VirtualUnder) → ((r s : Relvars) → Agree r s → Agree (with_virtuals p vs r) (with_virtuals p vs s)) → (r s : Relvars) → Agree r s → (o : Option Origin) → slice_get c.origins m ≡ o → Agree (with_virtuals p (cons_option (virtual_of m o) vs) r) (with_virtuals p (cons_option (virtual_of m o) vs) s)
    one_place m vs rest r s a None is = rest r s a
    one_place m vs rest r s a (Some (origin.Base ks e)) is = rest r s a
    one_place m vs rest r s a (Some (origin.Virtual e)) is =
        let v : VirtualUnder = record { place = m; tree = e } in
        rest (with_virtual p r v) (with_virtual p s v) (with_more r s a v is)

    all_agree : (ns : List ℕ) (r s : Relvars) → Agree r s → Agree (with_virtuals p (filter_map (virtual_at c) ns) r) (with_virtuals p (filter_map (virtual_at c) ns) s)
    all_agree [] r s a = a
    all_agree (m ∷ ms) r s a = one_place m (filter_map (virtual_at c) ms) (all_agree ms) r s a (slice_get c.origins m) refl

    pub trees_agree : (ns : List ℕ) (r s : Relvars) → AgreeOn c u r s → mean (with_virtuals p (filter_map (virtual_at c) ns) r) p u ≡ mean (with_virtuals p (filter_map (virtual_at c) ns) s) p u
    trees_agree ns r s a = same_tree (with_virtuals p (filter_map (virtual_at c) ns) r) (with_virtuals p (filter_map (virtual_at c) ns) s) (all_agree ns r s (to_begin r s a))
