-- What is reached by a step or more is what is reached from where the first step leads.
use Rattle.std.proofs.Common.{◌↔◌, ◌++◌, ℕ, List, [], ◌∷◌, length}
use Rattle.std.specs.Prelude.{slice_index_or}
use Rattle.td_graph.specs.Links.{ReachedFrom, start, onward}
use Rattle.td_algebra.specs.ForProofs.Links.{LeadsOn, Leads, Reaches, StayWithin}

module _ (links : List (List ℕ)) where
  last : (v z w : ℕ) (zs : List ℕ) → Leads links v zs z → LeadsOn links z w → Leads links v (zs ++ z ∷ []) w
  last v z w [] l m = (l, m)
  last v z w (y ∷ zs) l m = (l.0, last y z w zs l.1 m)

  module _ (v : ℕ) where
    abbrev From : ℕ → Type 0
    From w = ReachedFrom links (slice_index_or links v []) w

    by_steps : (w : ℕ) → From w → Reaches links v w
    by_steps w (start h lt) = ([], h)
    by_steps w (onward {v = z} r m lt) = let l = by_steps z r in (l.0 ++ z ∷ [], last v z w l.0 l.1 m)

    module _ (within : StayWithin (length links) links) where
      further : (z w : ℕ) (zs : List ℕ) → From z → Leads links z zs w → From w
      further z w [] r l = onward r l (within z w l)
      further z w (y ∷ zs) r l = further y w zs (onward r l.0 (within z y l.0)) l.1

      from_steps : (w : ℕ) (zs : List ℕ) → Leads links v zs w → From w
      from_steps w [] l = start l (within v w l)
      from_steps w (z ∷ zs) l = further z w zs (start l.0 (within v z l.0)) l.1

      pub beyond : (w : ℕ) → From w ↔ Reaches links v w
      beyond w = (by_steps w, (λ l. from_steps w l.0 l.1))
