-- Lists of changes, and what making them leaves.
use Rattle.std.proofs.Common.{◌≡◌, ⊎_elim, ◌⊎◌, inl, inr, ℕ, zero, suc, List, [], ◌∷◌, get_or, length, refl, ap, sym, ◌∙◌, subst, arith}
use Rattle.std.specs.List.{Contains}
use Rattle.std.proofs.lemmas.Bool.{cases_eq}
use Rattle.std.proofs.lemmas.List.Elements.{Contains-append_right}
use Rattle.td_relations.specs.Deltas.{DeltaData, inverse_of}
use Rattle.td_semantics.specs.Databases.{Stored, stored_relvars}
use Rattle.td_relvars.specs.Changed.{change, inverses, redone}
use Rattle.td_relvars.proofs.Places.{change_other}
use Rattle.td_assign.specs.Redoing.{AreOnce}

abbrev pub Changes : Type 0
Changes = List (ℕ × DeltaData)

-- the list names no change of the place
abbrev pub Unlisted : Changes → ℕ → Type 0
Unlisted ds n = (d : DeltaData) → Contains ds (n, d) → ⊥

pub first_there : (p : ℕ × DeltaData) (ds : Changes) → Contains (p ∷ ds) p
first_there p ds = (0, omega arith, refl)

pub rest_there : (p q : ℕ × DeltaData) (ds : Changes) → Contains ds q → Contains (p ∷ ds) q
rest_there p q ds h = Contains-append_right (p ∷ []) ds q h

pub there_cases :
    {P : Type 0} (p q : ℕ × DeltaData) (ds : Changes) → Contains (p ∷ ds) q → (p ≡ q → P) → (Contains ds q → P) → P
there_cases p q ds (zero, lt, is) here there = here is
there_cases p q ds (suc k, lt, is) here there = there (k, omega (arith, lt), is)

pub rest_once : (p : ℕ × DeltaData) (ds : Changes) → AreOnce (p ∷ ds) → AreOnce ds
rest_once p ds once = λ i j d before within. once (suc i) (suc j) d (omega (arith, before)) (omega (arith, within))

pub first_apart : (p q : ℕ × DeltaData) (ds : Changes) → AreOnce (p ∷ ds) → Contains ds q → p.0 ≡ q.0 → ⊥
first_apart p q ds once h =
    subst (λ (z : ℕ × DeltaData). p.0 ≡ z.0 → ⊥) h.2 (once 0 (suc h.0) q (omega arith) (omega (arith, h.1)))

pub unlisted_first :
    (p : ℕ × DeltaData) (ds : Changes) (n : ℕ) → (p.0 ≡ n → ⊥) → Unlisted ds n → Unlisted (p ∷ ds) n
unlisted_first p ds n apart never =
    λ d h. there_cases p (n, d) ds h (λ is. apart (ap (λ (z : ℕ × DeltaData). z.0) is)) (never d)

-- the list names the place, or it does not
pub named : (ds : Changes) (n : ℕ) → ((d : DeltaData) × Contains ds (n, d)) ⊎ Unlisted ds n
named [] n = inr (λ d h. absurd (omega (arith, h.1)))
named (p ∷ ds) n =
    ⊎_elim
    (λ same. inl (p.1, subst (λ (m : ℕ). Contains (p ∷ ds) (m, p.1)) same (first_there p ds)))
    (λ apart. ⊎_elim
    (λ k. inl (k.0, rest_there p (n, k.0) ds k.1))
    (λ never. inr (unlisted_first p ds n apart never))
    (named ds n))
    (cases_eq p.0 n)

-- what is not listed stays
pub others_stay :
    (ds : Changes) (stored : Stored) (n : ℕ) → Unlisted ds n
    → stored_relvars (redone ds stored) n ≡ stored_relvars stored n
others_stay [] stored n never = refl
others_stay (p ∷ ds) stored n never =
    others_stay ds (change p.0 p.1 stored) n (λ d h. never d (rest_there p (n, d) ds h))
    ∙ change_other p.0 n p.1 stored
    (λ same. never p.1 (subst (λ (m : ℕ). Contains (p ∷ ds) (m, p.1)) same (first_there p ds)))

-- ---- the inverses of changes
pub from_inverses : (ds : Changes) (p : ℕ × DeltaData) → Contains (inverses ds) p → Contains ds (p.0, inverse_of p.1)
from_inverses [] p h = absurd (omega (arith, h.1))
from_inverses (x ∷ ds) p h =
    there_cases (x.0, inverse_of x.1) p (inverses ds) h
    (λ is. subst (λ (z : ℕ × DeltaData). Contains (x ∷ ds) (z.0, inverse_of z.1)) is (first_there x ds))
    (λ k. rest_there x (p.0, inverse_of p.1) ds (from_inverses ds p k))

pub to_inverses : (ds : Changes) (p : ℕ × DeltaData) → Contains ds p → Contains (inverses ds) (p.0, inverse_of p.1)
to_inverses [] p h = absurd (omega (arith, h.1))
to_inverses (x ∷ ds) p h =
    there_cases x p ds h
    (λ is. subst (λ (z : ℕ × DeltaData). Contains (inverses (x ∷ ds)) (z.0, inverse_of z.1)) is
    (first_there (x.0, inverse_of x.1) (inverses ds)))
    (λ k. rest_there (x.0, inverse_of x.1) (p.0, inverse_of p.1) (inverses ds) (to_inverses ds p k))

inverse_at : (ds : Changes) (i : ℕ) (d : ℕ × DeltaData) → (get_or (inverses ds) i d).0 ≡ (get_or ds i d).0
inverse_at [] i d = refl
inverse_at (x ∷ ds) zero d = refl
inverse_at (x ∷ ds) (suc i) d = inverse_at ds i d

inverses_length : (ds : Changes) → length (inverses ds) ≡ length ds
inverses_length [] = refl
inverses_length (x ∷ ds) = ap suc (inverses_length ds)

pub inverses_once : (ds : Changes) → AreOnce ds → AreOnce (inverses ds)
inverses_once ds once = λ i j d before within.
    let same = inverses_length ds in
    λ e. once i j d before (omega (arith, within, same)) (sym (inverse_at ds i d) ∙ e ∙ inverse_at ds j d)

pub inverses_unlisted : (ds : Changes) (n : ℕ) → Unlisted ds n → Unlisted (inverses ds) n
inverses_unlisted ds n never = λ d h. never (inverse_of d) (from_inverses ds (n, d) h)
