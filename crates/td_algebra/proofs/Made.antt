-- Relations that are made of lists of tuples.
use Rattle.std.proofs.Common.{◌≡◌, List, map, sym, ◌∙◌, subst}
use Rattle.std.specs.FinSet as set
use Rattle.std.specs.List.{All}
use Rattle.td_values.specs.Data.{Attrs}
use Rattle.td_values.specs.Headings.{Header}
use Rattle.td_values.specs.Rows.{RowsData, AreRows}
use Rattle.td_relations.specs.Sets.{Has, IsRelation, IsRelationOf}
use Rattle.td_relations.proofs.Members.{has_listed}
use Rattle.td_relations.proofs.Predicates.{by_list}
use Rattle.td_tuples.specs.Parts.{Fits}
use Rattle.td_algebra.proofs.Lists.{In, in_contains, contains_in, all_in, in_all, in_map, map_in}

pub has_in : (r : RowsData) (t : Attrs) → Has r t → In t r.tuples
has_in r t h = contains_in r.tuples t ((has_listed r t).0 h)

pub in_has : (r : RowsData) (t : Attrs) → In t r.tuples → Has r t
in_has r t h = (has_listed r t).1 (in_contains r.tuples t h)

-- each tuple of a relation fits its heading
pub has_fits : (r : RowsData) → AreRows r.heading r.tuples → (t : Attrs) → Has r t → Fits r.heading t
has_fits r rows t h = all_in (Fits r.heading) r.tuples rows.fit t (has_in r t h)

-- a relation made of a list is that of P where the list's tuples are those of P
pub made : (h k : Header) (P : Attrs → Type 0) (xs : List Attrs) (n : RowsData) → IsRelation h (set.from_list xs) n → h ≡ k → ((t : Attrs) → In t xs → P t) → ((t : Attrs) → P t → In t xs) → IsRelationOf k P n
made h k P xs n is e only all = subst (λ w. IsRelationOf w P n) e (by_list h xs P n is (λ t. (λ c. only t (contains_in xs t c), λ p. in_contains xs t (all t p))))

-- a relation made of a function of each tuple
module _ (r : RowsData) (f g : Attrs → Attrs) (same : (t : Attrs) → Has r t → f t ≡ g t) (xs out : List Attrs) (is : xs ≡ r.tuples) (image : out ≡ map f xs) where
  image_of : (u : Attrs) → In u out → (t : Attrs) × (Has r t) × (u ≡ g t)
  image_of u m =
      let k = in_map f xs u (subst (In u) image m) in
      let has = in_has r k.0 (subst (In k.0) is k.1) in
      (k.0, has, k.2 ∙ same k.0 has)

  of_image : (u : Attrs) → ((t : Attrs) × (Has r t) × (u ≡ g t)) → In u out
  of_image u w = subst (In u) (sym image) (map_in f xs u w.0 (subst (In w.0) (sym is) (has_in r w.0 w.1)) (w.2 ∙ sym (same w.0 w.1)))

  pub image_fits : (h : Header) → ((t : Attrs) → Has r t → Fits h (g t)) → All (Fits h) out
  image_fits h fits = in_all (Fits h) out (λ u m. let k = image_of u m in subst (Fits h) (sym k.2) (fits k.0 k.1))

  pub image_made : (h k : Header) (n : RowsData) → IsRelation h (set.from_list out) n → h ≡ k → IsRelationOf k (λ u. (t : Attrs) × (Has r t) × (u ≡ g t)) n
  image_made h k n made_of e = made h k (λ u. (t : Attrs) × (Has r t) × (u ≡ g t)) out n made_of e image_of of_image
