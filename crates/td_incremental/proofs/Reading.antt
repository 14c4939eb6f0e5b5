-- What does not read a relvar.
use Rattle.std.proofs.Common.{◌≡◌, ◌⊎◌, inl, inr, ⊎_elim, ℕ, ◌<◌, List, [], ◌∷◌, map, length, get_or, Option, Some, refl, ap, sym, ◌∙◌, subst, true≢false, arith}
use Rattle.std.specs.Prelude.{slice_get}
use Rattle.std.specs.List.{Contains}
use Rattle.std.proofs.lemmas.List.{get_or-map, length-map}
use Rattle.std.proofs.lemmas.Option.{get_or_from_slice_get, slice_get_within}
use Rattle.td_graph.specs.Links.{LeadsOn, ReachedFrom, start, onward}
use Rattle.td_graph.proofs.Walks.{the_one}
use Rattle.td_typed_trees.specs.Mentions.{relvars_in}
use Rattle.td_typed_trees.specs.declared.tree.Typed.{Typed}
use Rattle.td_typed_trees.specs.declared.tree.Typed.TheVariants as tree
use Rattle.td_typed_trees.proofs.Forms.{of_relvar}
use Rattle.td_headings.specs.Catalogues.{CatalogueData}
use Rattle.td_headings.specs.Reached.{is_base, named_relvars, relvars_of_origin}
use Rattle.td_headings.specs.declared.defined.Origin.{Origin}
use Rattle.td_headings.specs.declared.defined.Origin.TheVariants as origin
use Rattle.td_incremental.specs.Growth.{IsUnread}

-- ---- what is reached from some places is reached from others that reach them
reached_by : (links : List (List ℕ)) (starts more : List ℕ) → ((w : ℕ) → Contains starts w → w < length links → ReachedFrom links more w) → (n : ℕ) → ReachedFrom links starts n → ReachedFrom links more n
reached_by links starts more each n (start h lt) = each n h lt
reached_by links starts more each n (onward {v} r on lt) = onward (reached_by links starts more each v r) on lt

pub first_of : (links : List (List ℕ)) (starts : List ℕ) (n : ℕ) → ReachedFrom links starts n → (w : ℕ) × Contains starts w × ReachedFrom links (w ∷ []) n
first_of links starts n (start h lt) = (n, h, start (0, omega arith, refl) lt)
first_of links starts n (onward {v} r on lt) = let k = first_of links starts v r in (k.0, k.1, onward k.2 on lt)

-- ---- a relvar names itself
pub named_itself : (m : ℕ) → named_relvars (tree.Relvar m) ≡ m ∷ []
named_itself m = ap relvars_in (of_relvar m)

module _ (c : CatalogueData) where
  abbrev links : List (List ℕ)
  links = map relvars_of_origin c.origins

  -- by where its value comes from
  link_at : (m : ℕ) (o : Origin) → slice_get c.origins m ≡ Some o → get_or links m [] ≡ relvars_of_origin o
  link_at m o is =
      let lt = slice_get_within c.origins m o is in
      get_or-map relvars_of_origin c.origins m o [] lt ∙ ap relvars_of_origin (get_or_from_slice_get c.origins m o o is)

  pub leads_on : (m : ℕ) (u : Typed) → slice_get c.origins m ≡ Some (origin.Virtual u) → (w : ℕ) → Contains (named_relvars u) w → LeadsOn links m w
  leads_on m u is w h = subst (λ l. Contains l w) (sym (link_at m (origin.Virtual u) is)) h

module _ (c : CatalogueData) (n : ℕ) where
  pub named_unread : (u : Typed) → IsUnread c n u → (m : ℕ) → Contains (named_relvars u) m → IsUnread c n (tree.Relvar m)
  named_unread u unread m there reads = unread (
    reached_by (links c) (named_relvars (tree.Relvar m)) (named_relvars u) (λ w h lt. start (subst (Contains (named_relvars u)) (sym (the_one m w (subst (λ l. Contains l w) (named_itself m) h))) there) lt) n reads.0,
    reads.1,
  )

  pub all_unread : (u : Typed) → ((m : ℕ) → Contains (named_relvars u) m → IsUnread c n (tree.Relvar m)) → IsUnread c n u
  all_unread u each reads =
      let k = first_of (links c) (named_relvars u) n reads.0 in
      each k.0 k.1 (subst (λ l. ReachedFrom (links c) l n) (sym (named_itself k.0)) k.2, reads.1)

  pub tree_unread : (m : ℕ) (u : Typed) → slice_get c.origins m ≡ Some (origin.Virtual u) → IsUnread c n (tree.Relvar m) → IsUnread c n u
  tree_unread m u is unread reads =
      let lt = slice_get_within c.origins m (origin.Virtual u) is in
      let itself : ReachedFrom (links c) (named_relvars (tree.Relvar m)) m = start (subst (λ l. Contains l m) (sym (named_itself m)) (0, omega arith, refl)) (omega (arith, lt, length-map c.origins relvars_of_origin)) in
      unread (reached_by (links c) (named_relvars u) (named_relvars (tree.Relvar m)) (λ w h less. onward itself (leads_on c m u is w h) less) n reads.0, reads.1)

  -- what is reached from a place is that place, or is reached from where it leads
  from_one : (m w : ℕ) → ReachedFrom (links c) (m ∷ []) w → (w ≡ m) ⊎ ReachedFrom (links c) (get_or (links c) m []) w
  from_one m w (start h lt) = inl (the_one m w h)
  from_one m w (onward {v} r on lt) = ⊎_elim (λ same. inr (start (subst (λ k. Contains (get_or (links c) k []) w) same on) lt)) (λ more. inr (onward more on lt)) (from_one m v r)

  apart_unread : (m : ℕ) → (n ≡ m → ⊥) → (ReachedFrom (links c) (get_or (links c) m []) n → ⊥) → IsUnread c n (tree.Relvar m)
  apart_unread m apart none reads = ⊎_elim apart none (from_one m n (subst (λ l. ReachedFrom (links c) l n) (named_itself m) reads.0))

  pub base_unread : (m : ℕ) (ks : List (List (List ℕ))) (e : Option Typed) → slice_get c.origins m ≡ Some (origin.Base ks e) → (n ≡ m → ⊥) → IsUnread c n (tree.Relvar m)
  base_unread m ks e is apart = apart_unread m apart (λ r. let k = first_of (links c) [] n (subst (λ l. ReachedFrom (links c) l n) (link_at c m (origin.Base ks e) is) r) in absurd (omega (arith, k.1.1)))

  pub virtual_unread : (m : ℕ) (u : Typed) → slice_get c.origins m ≡ Some (origin.Virtual u) → IsUnread c n u → IsUnread c n (tree.Relvar m)
  virtual_unread m u is unread reads =
      apart_unread m
      (λ same. true≢false (sym reads.1 ∙ ap (λ k. is_base (slice_get c.origins k)) same ∙ ap is_base is))
      (λ r. unread (subst (λ l. ReachedFrom (links c) l n) (link_at c m (origin.Virtual u) is) r, reads.1))
      reads
