-- One turn more.
use Rattle.std.proofs.Common.{◌≡◌, ◌<◌, ◌≤◌, ◌+◌, ◌-◌, ℕ, zero, suc, List, [], ◌∷◌, ◌++◌, append_assoc, append-nil, drop, take, length, refl, ap, sym, ◌∙◌, arith}
use Rattle.td_stamps.specs.declared.entry.Stamp.{Stamp}
use Rattle.td_rollback.specs.Turns.{replayed_log, settled}
use Rattle.td_rollback.specs.ForProofs.Standing.{passed}
use Rattle.td_rollback.specs.declared.turns.ReplayedRecord.{ReplayedRecord}
use Rattle.td_rollback.specs.declared.turns.ReplayedRecord.TheVariants.{Kept, Again, Fresh}

pub kept_last : {R : Type 0} (old : List (Stamp × R)) (ts : List (ReplayedRecord R)) (p : Stamp × R) (rest : List (Stamp × R)) → drop (passed ts) old ≡ p ∷ rest → settled old (ts ++ Kept ∷ []) ≡ settled old ts ++ p ∷ []
kept_last [] [] p rest h = cc
kept_last (q ∷ old) [] p rest h = cc
kept_last old (Fresh x ∷ ts) p rest h = ap (λ l. x ∷ l) (kept_last old ts p rest h)
kept_last [] (Kept ∷ ts) p rest h = cc
kept_last (q ∷ old) (Kept ∷ ts) p rest h = ap (λ l. q ∷ l) (kept_last old ts p rest h)
kept_last [] (Again x ∷ ts) p rest h = cc
kept_last (q ∷ old) (Again x ∷ ts) p rest h = ap (λ l. x ∷ l) (kept_last old ts p rest h)

pub again_last : {R : Type 0} (old : List (Stamp × R)) (ts : List (ReplayedRecord R)) (p : Stamp × R) → settled old (ts ++ Again p ∷ []) ≡ settled old ts ++ p ∷ []
again_last [] [] p = refl
again_last (q ∷ old) [] p = refl
again_last old (Fresh x ∷ ts) p = ap (λ l. x ∷ l) (again_last old ts p)
again_last [] (Kept ∷ ts) p = again_last [] ts p
again_last (q ∷ old) (Kept ∷ ts) p = ap (λ l. q ∷ l) (again_last old ts p)
again_last [] (Again x ∷ ts) p = ap (λ l. x ∷ l) (again_last [] ts p)
again_last (q ∷ old) (Again x ∷ ts) p = ap (λ l. x ∷ l) (again_last old ts p)

pub fresh_last : {R : Type 0} (old : List (Stamp × R)) (ts : List (ReplayedRecord R)) (p : Stamp × R) → settled old (ts ++ Fresh p ∷ []) ≡ settled old ts ++ p ∷ []
fresh_last old [] p = refl
fresh_last old (Fresh x ∷ ts) p = ap (λ l. x ∷ l) (fresh_last old ts p)
fresh_last [] (Kept ∷ ts) p = fresh_last [] ts p
fresh_last (q ∷ old) (Kept ∷ ts) p = ap (λ l. q ∷ l) (fresh_last old ts p)
fresh_last [] (Again x ∷ ts) p = ap (λ l. x ∷ l) (fresh_last [] ts p)
fresh_last (q ∷ old) (Again x ∷ ts) p = ap (λ l. x ∷ l) (fresh_last old ts p)

pub kept_passed : {R : Type 0} (ts : List (ReplayedRecord R)) → passed (ts ++ Kept ∷ []) ≡ suc (passed ts)
kept_passed [] = refl
kept_passed (Fresh x ∷ ts) = kept_passed ts
kept_passed (Kept ∷ ts) = ap suc (kept_passed ts)
kept_passed (Again x ∷ ts) = ap suc (kept_passed ts)

pub again_passed : {R : Type 0} (ts : List (ReplayedRecord R)) (p : Stamp × R) → passed (ts ++ Again p ∷ []) ≡ suc (passed ts)
again_passed [] p = refl
again_passed (Fresh x ∷ ts) p = again_passed ts p
again_passed (Kept ∷ ts) p = ap suc (again_passed ts p)
again_passed (Again x ∷ ts) p = ap suc (again_passed ts p)

pub fresh_passed : {R : Type 0} (ts : List (ReplayedRecord R)) (p : Stamp × R) → passed (ts ++ Fresh p ∷ []) ≡ passed ts
fresh_passed [] p = refl
fresh_passed (Fresh x ∷ ts) p = fresh_passed ts p
fresh_passed (Kept ∷ ts) p = ap suc (fresh_passed ts p)
fresh_passed (Again x ∷ ts) p = ap suc (fresh_passed ts p)

pub one_further : {X : Type 0} (n : ℕ) (xs : List X) (x : X) (rest : List X) → drop n xs ≡ x ∷ rest → drop (suc n) xs ≡ rest
one_further zero [] x rest h = cc
one_further zero (y ∷ xs) x rest h = cc
one_further (suc n) [] x rest h = cc
one_further (suc n) (y ∷ xs) x rest h = one_further n xs x rest h

-- ---- the front, one after the other
module _ {X : Type 0} (k c : ℕ) (lt : c < k) (all rest r : List X) (x : X) (is : rest ≡ x ∷ r) where
  less : k - c ≡ suc (k - (c + 1))
  less = omega arith

  pub front_on : (g : List X) → all ++ take (k - c) rest ≡ g → (all ++ x ∷ []) ++ take (k - (c + 1)) r ≡ g
  front_on g h = append_assoc all (x ∷ []) (take (k - (c + 1)) r) ∙ sym (λ i. all ++ take (less i) (is i)) ∙ h

  pub behind_on : (g : List X) → drop (k - c) rest ≡ g → drop (k - (c + 1)) r ≡ g
  behind_on g h = sym (λ i. drop (less i) (is i)) ∙ h

  pub enough_on : k - c ≤ length rest → k - (c + 1) ≤ length r
  enough_on h = let n = ap length is in omega (arith, h, n)

pub front_done : {R : Type 0} (k n : ℕ) (all rest old room : List (Stamp × R)) (ts : List (ReplayedRecord R)) → k ≡ 0 → all ++ take k rest ≡ room ++ take n old → drop k rest ≡ drop n old → all ++ settled rest ts ≡ room ++ replayed_log old n ts
front_done k n all rest old room ts none front behind =
    let here : all ≡ room ++ take n old = sym (append-nil all) ∙ sym (λ i. all ++ take (none i) rest) ∙ front in
    let there : rest ≡ drop n old = sym (λ i. drop (none i) rest) ∙ behind in
    (λ i. here i ++ settled (there i) ts) ∙ append_assoc room (take n old) (settled (drop n old) ts)
