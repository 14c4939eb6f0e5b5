-- Unions: they go by the set of the second operand, and what is new in one may be all of it.
use Rattle.std.proofs.Common.{◌≡◌, ◌≤◌, ⊎_elim, true, ◌||◌, List, length, refl, ap, sym, ◌∙◌}
use Rattle.std.specs.FinSet as set
use Rattle.td_values.specs.Data.{Attrs}
use Rattle.td_values.specs.Order.{attrs_order}
use Rattle.td_values.specs.Rows.{RowsData}
use Rattle.td_values.specs.Proving.Total.{attrs_order_total, attrs_tied}
use Rattle.td_relations.specs.Sets.{Has, IsRelation, body, relation_of, tuple_set}
use Rattle.td_relations.proofs.Members.{contains_listed, has_listed, relation_of_is}
use Rattle.td_relations.proofs.Predicates.{of_difference, set_of}
use Rattle.td_algebra.specs.Functions.{union_of}
use Rattle.td_algebra.proofs.Bridges.{union_is}
use Rattle.td_algebra.proofs.Lists.{contains_in, in_contains}
use Rattle.td_insertions.proofs.Counting.{all_there, ascending_differ}

pub same_union : (r s t : RowsData) → body s ≡ body t → union_of r s ≡ union_of r t
unfolding union_of
same_union r s t same = ap (λ b. relation_of r.heading (set.union (body r) b)) same

-- with nothing it is the second operand
pub nothing_with : (e s : RowsData) → body e ≡ set.empty → body (union_of e s) ≡ body s
unfolding union_of
nothing_with e s none =
    (relation_of_is e.heading (set.union (body e) (body s))).members
    ∙ set.same_set attrs_order_total attrs_tied _ _ (λ q.
    set.contains-union attrs_order_total (body e) (body s) q
    ∙ ap (λ b. set.contains b q || set.contains (body s) q) none
    ∙ ap (λ b. b || set.contains (body s) q) (set.contains-empty attrs_order q))

-- what r united with s has and r lacks is all of s, if it is as many tuples as a list that has those of s
module _ (r s i : RowsData) (ts : List Attrs) (listed : body s ≡ tuple_set ts) (new : IsRelation r.heading (set.difference (body (union_of r s)) (body r)) i) where
  of_second : (q : Attrs) → Has i q → Has s q
  of_second q h =
      let is = (of_difference r.heading (union_of r s) r i new).only q h in
      ⊎_elim (λ old. absurd (is.1 old)) (λ more. more) ((union_is r s).only q is.0)

  in_list : (q : Attrs) → Has s q → set.contains (tuple_set ts) q ≡ true
  in_list q h = sym (ap (λ b. set.contains b q) listed) ∙ h

  pub all_new : length ts ≤ length i.tuples → body i ≡ body s
  all_new many =
      (set_of i.heading (body s) i (record {
        heading = refl;
        only = of_second;
        all = λ q h. (has_listed i q).1 (in_contains i.tuples q
            (all_there i.tuples ts (ascending_differ i.tuples new.ascending)
            (λ y m. contains_in ts y ((contains_listed ts y).0 (in_list y (of_second y ((has_listed i y).1 (in_contains i.tuples y m))))))
            many q
            (contains_in ts q ((contains_listed ts q).0 (in_list q h)))));
        ascending = new.ascending;
      })).members
