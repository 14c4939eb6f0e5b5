-- The parts of runs: those of a relation's tuples at some names, each from the first tuple that has it.
use Rattle.std.proofs.Common.{◌≡◌, inl, inr, ℕ, ◌<◌, ◌≤◌, List, [], ◌∷◌, ◌++◌, length, get_or, take, sym, ◌∙◌, subst, arith}
use Rattle.std.specs.FinSet as set
use Rattle.std.specs.List.{All, Contains}
use Rattle.std.specs.List.Sorted.{IsPermutation}
use Rattle.std.proofs.lemmas.List.{get_or-take, length-take-le}
use Rattle.std.proofs.lemmas.List.Elements.{All-push}
use Rattle.td_values.specs.Data.{Attrs}
use Rattle.td_values.specs.Headings.{Header}
use Rattle.td_values.specs.Rows.{RowsData, AreRows}
use Rattle.td_relations.specs.Sets.{Has, IsRelation}
use Rattle.td_relations.proofs.Predicates.{one_relation}
use Rattle.td_tuples.specs.Parts.{Fits, names_of, is_in, cut, columns_in}
use Rattle.td_tuples.proofs.ByName.{fits-where}
use Rattle.td_algebra.specs.ForProofs.Index.{AreParts}
use Rattle.td_algebra.specs.Functions.{project_of}
use Rattle.td_algebra.specs.Operators.{Projected}
use Rattle.td_algebra.proofs.Apart.{by_columns}
use Rattle.td_algebra.proofs.Bridges.{project_is}
use Rattle.td_algebra.proofs.Lists.{In, in_contains, contains_in, in_all, all_in, append_in, item_in}
use Rattle.td_algebra.proofs.Made.{has_fits, made}
use Rattle.td_algebra.proofs.Pairs.{entry_of, of_entry}
use Rattle.td_algebra.proofs.Runs.{same_at}

pub taken_at : {X : Type 0} (xs : List X) (n i : ℕ) (d : X) → i < n → n ≤ length xs → In (get_or xs i d) (take n xs)
taken_at xs n i d lt le =
    let x = get_or xs i d in
    let n_long = length-take-le n xs le in
    item_in (take n xs) i x (omega (arith, n_long, lt)) (same_at xs i d x (omega (arith, lt, le)) ∙ sym (get_or-take n xs i x lt))

module _ (ns : List (List ℕ)) (es ts us : List Attrs) (parts : AreParts ns es ts us) (t : Attrs) where
  -- one more tuple and its part
  pub parts_more : (u : Attrs) → In t es → u ≡ cut ns t → AreParts ns es (ts ++ t ∷ []) (us ++ u ∷ [])
  parts_more u m is =
      record {
        of_some = All-push (λ w. (v : Attrs) × (Contains es v) × (w ≡ cut ns v)) us u parts.of_some (t, in_contains es t m, is);
        of_each = All-push (λ w. Contains (us ++ u ∷ []) (cut ns w)) ts t
            (in_all (λ w. Contains (us ++ u ∷ []) (cut ns w)) ts (λ w k.
            in_contains (us ++ u ∷ []) (cut ns w) (append_in us (u ∷ []) (cut ns w) (inl (contains_in us (cut ns w) (all_in (λ w. Contains us (cut ns w)) ts parts.of_each w k))))))
            (in_contains (us ++ u ∷ []) (cut ns t) (append_in us (u ∷ []) (cut ns t) (inr (inl (sym is)))));
      }

  -- one more tuple, with the part of another one
  pub parts_again : (s : Attrs) → In s ts → cut ns s ≡ cut ns t → AreParts ns es (ts ++ t ∷ []) us
  parts_again s m same = record {
    of_some = parts.of_some;
    of_each = All-push (λ w. Contains us (cut ns w)) ts t parts.of_each (subst (Contains us) same (all_in (λ w. Contains us (cut ns w)) ts parts.of_each s m));
  }

module _ (names : List (List ℕ)) (r : RowsData) (rows : AreRows r.heading r.tuples) (h : Header) (e : h ≡ columns_in names r.heading) (es : List Attrs) (entries : IsPermutation r.tuples es) (out : List Attrs) (parts : AreParts (names_of h) es es out) where
  part : (t : Attrs) → Has r t → cut (names_of h) t ≡ cut names t
  part = by_columns names r rows h e

  some_tuple : (u : Attrs) → In u out → Projected names r u
  some_tuple u m =
      let w = all_in (λ v. (t : Attrs) × (Contains es t) × (v ≡ cut (names_of h) t)) out parts.of_some u m in
      let has = entry_of r es entries w.0 (contains_in es w.0 w.1) in
      (w.0, has, w.2 ∙ part w.0 has)

  pub parts_fit : All (Fits h) out
  parts_fit = in_all (Fits h) out (λ u m.
      let w = some_tuple u m in
      subst (λ k. Fits k u) (sym e) (subst (Fits (columns_in names r.heading)) (sym w.2) (fits-where (is_in names) r.heading w.0 (has_fits r rows w.0 w.1))))

  pub parts_made : (n : RowsData) → IsRelation h (set.from_list out) n → n ≡ project_of names r
  parts_made n made_of =
      one_relation (columns_in names r.heading) (Projected names r) n (project_of names r)
      (made h (columns_in names r.heading) (Projected names r) out n made_of e some_tuple
      (λ u w. subst (λ v. In v out) (part w.0 w.1 ∙ sym w.2) (contains_in out (cut (names_of h) w.0) (all_in (λ t. Contains out (cut (names_of h) t)) es parts.of_each w.0 (of_entry r es entries w.0 w.1)))))
      (project_is names r)
