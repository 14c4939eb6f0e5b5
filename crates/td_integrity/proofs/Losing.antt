-- What a reference is over the parts that were lost.
use Rattle.std.proofs.Common.{◌≡◌, ◌==◌, ◌↔◌, ℕ, Bool, true, false, IsTrue, List, [], ◌∷◌, length, Result, Ok, refl, ap, sym, ◌∙◌, subst, true≢false, ne_eqb, inl, arith}
use Rattle.std.specs.FinSet as set
use Rattle.td_values.specs.Data.{Attrs}
use Rattle.td_values.specs.Order.{attrs_order}
use Rattle.td_values.specs.Rows.{AreRows, RowsData}
use Rattle.td_relations.specs.Sets.{Has, IsRelationOf, body}
use Rattle.td_algebra.specs.Functions.{matching_of, not_matching_of}
use Rattle.td_algebra.specs.KeyIndexes.{IsKeyIndex, KeyIndexData}
use Rattle.td_algebra.specs.Operators.{Matching, NotMatching}
use Rattle.td_algebra.specs.declared.errors.Stop.{Stop}
use Rattle.td_algebra.proofs.Bridges.{matches_to, not_matches_to}
use Rattle.td_algebra.proofs.Lists.{In}
use Rattle.td_algebra.proofs.Made.{in_has}
use Rattle.td_eval.specs.Keyed.{IsByKey}
use Rattle.td_incremental.specs.Laws.{has_none}
use Rattle.td_incremental.proofs.Operators.{matching_members}
use Rattle.td_meaning.specs.Mean.{Relvars}
use Rattle.td_integrity.specs.ForProofs.Losing.{IsToldOf}
use Rattle.td_integrity.specs.declared.losses.Losses.{Losses}
use Rattle.td_integrity.proofs.After.{ok_same}

module _ (m : Result RowsData Stop) (r t : RowsData) (is : m ≡ Ok r) (rows : AreRows r.heading r.tuples) (fit : AreRows t.heading t.tuples) (key : List (List ℕ)) (x : KeyIndexData) (by : IsByKey m key x) where
  its_index : IsKeyIndex key r x
  its_index = subst (λ q. IsKeyIndex key q x) (ok_same by.0 r (sym by.1 ∙ is)) by.2

  pub not_matched_by : (n : RowsData) → x.key ≡ key → ((q : RowsData) → AreRows q.heading q.tuples → IsKeyIndex x.key q x → IsRelationOf t.heading (NotMatching t q) n) → n ≡ not_matching_of t r
  not_matched_by n same told = not_matches_to t r fit rows n (told r rows (subst (λ k. IsKeyIndex k r x) (sym same) its_index))

  pub matched_by : (n : RowsData) → x.key ≡ key → ((q : RowsData) → AreRows q.heading q.tuples → IsKeyIndex x.key q x → IsRelationOf t.heading (Matching t q) n) → n ≡ matching_of t r
  matched_by n same told = matches_to t r fit rows n (told r rows (subst (λ k. IsKeyIndex k r x) (sym same) its_index))

-- ---- no tuples
empty_has : (r : RowsData) → body r ≡ set.empty → (t : Attrs) → Has r t → ⊥
empty_has r none t has = true≢false (sym has ∙ ap (λ w. set.contains w t) none ∙ set.contains-empty attrs_order t)

none_there : (r : RowsData) → ((t : Attrs) → Has r t → ⊥) → has_none r ≡ true
none_there r none = by r.tuples refl
  where
    by : (ts : List Attrs) → r.tuples ≡ ts → (length ts == 0) ≡ true
    by [] is = refl
    by (t ∷ ts) is = absurd (none t (in_has r t (subst (In t) (sym is) (inl refl))))

none_matches : (g r : RowsData) → body g ≡ set.empty → has_none (matching_of g r) ≡ true
none_matches g r none = none_there (matching_of g r) (λ t has. empty_has g none t ((matching_members g r).only t has).0)

empty_is : (r : RowsData) (b : Bool) → IsTrue b ↔ (body r ≡ set.empty) → b ≡ has_none r
empty_is r true says = sym (none_there r (empty_has r (says.0 refl)))
empty_is r false says = by r.tuples refl
  where
    by : (ts : List Attrs) → r.tuples ≡ ts → false ≡ (length ts == 0)
    by [] is = says.1 (ap set.from_list is)
    by (t ∷ ts) is = sym (ne_eqb (length (t ∷ ts)) 0 (λ e. absurd (omega (arith, e))))

module _ (l : Losses) (relvars : Relvars) (s : RowsData) (other : relvars l.referred ≡ Ok s) (g : RowsData) (left : g ≡ not_matching_of l.parts s) where
  left_then : (w : RowsData) → relvars l.referred ≡ Ok w → g ≡ not_matching_of l.parts w
  left_then w is = left ∙ ap (not_matching_of l.parts) (ok_same s w (sym other ∙ is))

  pub none_gone : body g ≡ set.empty → IsToldOf l relvars true
  none_gone none r w is there = sym (none_matches g r none) ∙ ap (λ q. has_none (matching_of q r)) (left_then w there)

  pub some_gone : (q : RowsData) (f : RowsData) (b : Bool) → relvars l.referring ≡ Ok q → f ≡ matching_of g q → IsTrue b ↔ (body f ≡ set.empty) → IsToldOf l relvars b
  some_gone q f b one found says r w is there =
      empty_is f b says ∙ ap has_none found
      ∙ (λ i. has_none (matching_of (left_then w there i) (ok_same q r (sym one ∙ is) i)))
