-- Every test is true after a statement where every one was true before.
use Rattle.std.proofs.Common.{◌≡◌, ℕ, zero, suc, Bool, true, false, List, [], ◌∷◌, Option, None, Result, Ok, Err, refl, subst, arith}
use Rattle.std.specs.List.{Contains}
use Rattle.td_algebra.specs.declared.errors.Stop.{Stop}
use Rattle.td_headings.specs.Catalogues.{CatalogueData}
use Rattle.td_headings.specs.declared.defined.Test.{Test}
use Rattle.td_meaning.specs.Mean.{Relvars}
use Rattle.td_semantics.specs.Tests.{judgement, or_behind, failing, AreLegal}
use Rattle.td_semantics.specs.Databases.{DatabaseData, stored_relvars}
use Rattle.td_semantics.specs.Steps.{Steps, unread, raised, refused, done}
use Rattle.td_semantics.specs.declared.outcome.Outcome.{Outcome}

head_or_tail : {A P : Type 0} (x : A) (xs : List A) (y : A) → Contains (x ∷ xs) y → (x ≡ y → P) → (Contains xs y → P) → P
head_or_tail x xs y (zero, lt, is) here there = here is
head_or_tail x xs y (suc k, lt, is) here there = there (k, omega (arith, lt), is)

none_there : {A P : Type 0} (y : A) → Contains [] y → P
none_there y h = absurd (omega (arith, h.1))

passed : (t : Test) (m : Result Bool Stop) (behind : Option (Test × Option Stop)) → or_behind t m behind ≡ None → (m ≡ Ok true) × (behind ≡ None)
passed t (Ok true) behind h = (refl, h)
passed t (Ok false) behind h = cc
passed t (Err e) behind h = cc

pub all_pass : (c : CatalogueData) (r : Relvars) (ts : List Test) → failing c r ts ≡ None → (t : Test) → Contains ts t → judgement c r t ≡ Ok true
all_pass c r [] h t there = none_there t there
all_pass c r (u ∷ ts) h t there =
    let now = passed u (judgement c r u) (failing c r ts) h in
    head_or_tail u ts t there (λ same. subst (λ v. judgement c r v ≡ Ok true) same now.0) (all_pass c r ts now.1 t)

pub step_is_legal : (d e : DatabaseData) (dialect : ℕ) (text : List ℕ) (o : Outcome) → Steps d dialect text o e → AreLegal d.catalogue (stored_relvars d.stored) → AreLegal e.catalogue (stored_relvars e.stored)
step_is_legal d e k text o (unread h) legal = legal
step_is_legal d e k text o (raised p h) legal = legal
step_is_legal d e k text o (refused p h i j) legal = legal
step_is_legal d e k text o (done p h i) legal = all_pass e.catalogue (stored_relvars e.stored) e.catalogue.tests i
