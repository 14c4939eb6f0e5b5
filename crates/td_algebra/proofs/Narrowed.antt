-- A condition that is false of all tuples that an index does not find leaves of those that it finds what it leaves of
-- all.
use Rattle.std.proofs.Common.{◌≡◌, Bool, true, false, Result, Ok, Err, refl, sym, ap, ◌∙◌, subst, arith}
use Rattle.std.specs.List.{Contains}
use Rattle.td_values.specs.Data.{Attrs}
use Rattle.td_values.specs.Rows.{RowsData}
use Rattle.td_relations.specs.Sets.{Has, IsRelationOf}
use Rattle.td_relations.proofs.Predicates.{by_predicate, one_relation}
use Rattle.td_algebra.specs.declared.errors.Stop.{Stop}
use Rattle.td_algebra.specs.Functions.{restricted}
use Rattle.td_algebra.specs.KeyIndexes.{IsKeyIndex, KeyIndexData}
use Rattle.td_algebra.specs.Raising.{UnlessRaised}
use Rattle.td_algebra.specs.Restricting.{Restricted, RaisedIn}
use Rattle.td_algebra.proofs.Bridges.{restricted_is, same_stop}
use Rattle.td_algebra.proofs.Lists.{contains_in, in_contains}
use Rattle.td_algebra.proofs.Pairs.{entry_of, of_entry}

module _ (m : Attrs → Result Bool Stop) (r s : RowsData) (p : Attrs → Bool) (x : KeyIndexData) (index : IsKeyIndex x.key r x) (found : IsRelationOf x.heading (λ u. Contains x.tuples u × (p u ≡ true)) s)
    (others : (t : Attrs) → Has r t → p t ≡ false → m t ≡ Ok false) where
  one_heading : s.heading ≡ r.heading
  one_heading = found.heading ∙ index.heading

  there : (t : Attrs) → Has s t → Has r t
  there t has = entry_of r x.tuples index.tuples t (contains_in x.tuples t (found.only t has).0)

  stays : (t : Attrs) (b : Bool) → p t ≡ b → Has r t → (m t ≡ Ok false → ⊥) → Has s t
  stays t true e has other = found.all t (in_contains x.tuples t (of_entry r x.tuples index.tuples t has), e)
  stays t false e has other = absurd (other (others t has e))

  raised_in_all : (e : Stop) → RaisedIn m s e → RaisedIn m r e
  raised_in_all e w = (w.0, there w.0 w.1, w.2)

  raised_in_part : (e : Stop) → RaisedIn m r e → RaisedIn m s e
  raised_in_part e w = (w.0, stays w.0 (p w.0) refl w.1 (λ no. let wrong : Ok false ≡ Err e = sym no ∙ w.2 in cc), w.2)

  of_all : (n : RowsData) → IsRelationOf s.heading (Restricted m s) n → IsRelationOf r.heading (Restricted m r) n
  of_all n is = subst (λ h. IsRelationOf h (Restricted m r) n) one_heading (by_predicate s.heading (Restricted m s) (Restricted m r) n is (λ t. (
    λ w. (there t w.0, w.1),
    λ w. (stays t (p t) refl w.0 (λ no. let wrong : Ok false ≡ Ok true = sym no ∙ w.1 in cc), w.1),
  )))

  one_answer : (a b : Result RowsData Stop) → UnlessRaised (RaisedIn m s) (IsRelationOf s.heading (Restricted m s)) a → UnlessRaised (RaisedIn m r) (IsRelationOf r.heading (Restricted m r)) b → a ≡ b
  one_answer (Ok n) (Ok k) u v = ap Ok (one_relation r.heading (Restricted m r) n k (of_all n u.1) v.1)
  one_answer (Ok n) (Err e) u v = absurd (u.0 e (raised_in_part e v.0))
  one_answer (Err e) (Ok k) u v = absurd (v.0 e (raised_in_all e u.0))
  one_answer (Err e) (Err f) u v = ap Err (same_stop e f (omega (arith, u.1 f (raised_in_part f v.0), v.1 e (raised_in_all e u.0))))

  pub narrowed : restricted m s ≡ restricted m r
  narrowed = one_answer (restricted m s) (restricted m r) (restricted_is m s) (restricted_is m r)
