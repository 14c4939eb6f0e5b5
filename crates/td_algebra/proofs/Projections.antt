-- Projections and renamings of relations.
use Rattle.std.proofs.Common.{◌≡◌, ℕ, List, map, refl, sym, ap, ◌∙◌, subst}
use Rattle.std.specs.FinSet as set
use Rattle.std.specs.List.{All}
use Rattle.td_values.specs.Data.{Attrs}
use Rattle.td_values.specs.Headings.{Header}
use Rattle.td_values.specs.Rows.{RowsData, AreRows}
use Rattle.td_relations.specs.Sets.{Has, IsRelation, IsRelationOf}
use Rattle.td_tuples.specs.Parts.{Fits, names_of, is_in, cut, columns_in}
use Rattle.td_tuples.specs.Renamings.{renamed, renamed_columns}
use Rattle.td_tuples.proofs.ByName.{fits-where, fits-renamed, part_by_columns}
use Rattle.td_algebra.specs.Operators.{Projected, Renamed}
use Rattle.td_algebra.proofs.Made.{has_fits, image_fits, image_made}

module _ (r : RowsData) (rows : AreRows r.heading r.tuples) where
  -- h is the heading's part at the names
  module _ (names : List (List ℕ)) (h : Header) (e : h ≡ columns_in names r.heading) (xs out : List Attrs) (is : xs ≡ r.tuples) (image : out ≡ map (cut (names_of h)) xs) where
    same : (t : Attrs) → Has r t → cut (names_of h) t ≡ cut names t
    same t has = ap (λ w. cut (names_of w) t) e ∙ part_by_columns (is_in names) r.heading t (has_fits r rows t has)

    pub projected_fit : All (Fits h) out
    projected_fit = image_fits r (cut (names_of h)) (cut names) same xs out is image h
        (λ t has. subst (λ w. Fits w (cut names t)) (sym e) (fits-where (is_in names) r.heading t (has_fits r rows t has)))

    pub projected : (n : RowsData) → IsRelation h (set.from_list out) n → IsRelationOf (columns_in names r.heading) (Projected names r) n
    projected n made_of = image_made r (cut (names_of h)) (cut names) same xs out is image h (columns_in names r.heading) n made_of e

  module _ (items : List (List ℕ × List ℕ)) (h : Header) (e : h ≡ renamed_columns items r.heading) (xs out : List Attrs) (is : xs ≡ r.tuples) (image : out ≡ map (renamed items) xs) where
    pub renamed_fit : All (Fits h) out
    renamed_fit = image_fits r (renamed items) (renamed items) (λ t has. refl) xs out is image h
        (λ t has. subst (λ w. Fits w (renamed items t)) (sym e) (fits-renamed items r.heading t (has_fits r rows t has)))

    pub renamed_made : (n : RowsData) → IsRelation h (set.from_list out) n → IsRelationOf (renamed_columns items r.heading) (Renamed items r) n
    renamed_made n made_of = image_made r (renamed items) (renamed items) (λ t has. refl) xs out is image h (renamed_columns items r.heading) n made_of e
