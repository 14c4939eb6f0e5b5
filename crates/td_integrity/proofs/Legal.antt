-- No test fails where every test is true.
use Rattle.std.proofs.Common.{◌≡◌, ◌↔◌, inl, inr, Bool, true, false, List, [], ◌∷◌, Option, None, Result, Ok, Err, refl, ap, ◌∙◌}
use Rattle.td_algebra.specs.declared.errors.Stop.{Stop}
use Rattle.td_algebra.proofs.Lists.{In, contains_in, in_contains}
use Rattle.td_headings.specs.Catalogues.{CatalogueData}
use Rattle.td_headings.specs.declared.defined.Test.{Test}
use Rattle.td_meaning.specs.Mean.{Relvars}
use Rattle.td_semantics.specs.Tests.{AreLegal, failing, judgement, or_behind}

passes : (t : Test) (m : Result Bool Stop) (behind : Option (Test × Option Stop)) → or_behind t m behind ≡ None → (m ≡ Ok true) × (behind ≡ None)
passes t (Ok true) behind h = (refl, h)
passes t (Ok false) behind h = cc
passes t (Err e) behind h = cc

module _ (c : CatalogueData) (r : Relvars) where
  all_true : (ts : List Test) → failing c r ts ≡ None → (t : Test) → In t ts → judgement c r t ≡ Ok true
  all_true [] h t p = absurd p
  all_true (s ∷ ts) h t (inl p) = ap (judgement c r) p ∙ (passes s (judgement c r s) (failing c r ts) h).0
  all_true (s ∷ ts) h t (inr p) = all_true ts (passes s (judgement c r s) (failing c r ts) h).1 t p

  none_fails : (ts : List Test) → ((t : Test) → In t ts → judgement c r t ≡ Ok true) → failing c r ts ≡ None
  none_fails [] h = refl
  none_fails (s ∷ ts) h = ap (λ m. or_behind s m (failing c r ts)) (h s (inl refl)) ∙ none_fails ts (λ t p. h t (inr p))

  pub legal : (failing c r c.tests ≡ None) ↔ AreLegal c r
  legal = (
    λ h t p. all_true c.tests h t (contains_in c.tests t p),
    λ h. none_fails c.tests (λ t p. h t (in_contains c.tests t p)),
  )
