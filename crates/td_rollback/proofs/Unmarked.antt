-- What is left where nothing is marked.
use Rattle.std.proofs.Common.{◌≡◌, ◌≤◌, suc, Bool, true, false, List, [], ◌∷◌, length, refl, ap, arith}
use mathlib.Core.Bool.{true≢false}
use Rattle.std.specs.List.{list_any}
use Rattle.td_rollback.specs.Parts.{marked, unmarked}
use Rattle.td_rollback.specs.ForProofs.Marked.{with_flagged}

abbrev pub AreUnmarked : List Bool → Type 0
AreUnmarked bs = list_any (λ b. b) bs ≡ false

pub none_chosen : {X : Type 0} (bs : List Bool) (xs : List X) → AreUnmarked bs → marked bs xs ≡ []
none_chosen [] xs none = refl
none_chosen (b ∷ bs) [] none = refl
none_chosen (true ∷ bs) (x ∷ xs) none = absurd (true≢false none)
none_chosen (false ∷ bs) (x ∷ xs) none = none_chosen bs xs none

-- where nothing was chosen nothing is marked
pub unmarked_by : {X : Type 0} (bs : List Bool) (xs : List X) → length xs ≡ length bs → marked bs xs ≡ [] → AreUnmarked bs
unmarked_by [] xs each none = refl
unmarked_by (b ∷ bs) [] each none = absurd (omega (arith, each))
unmarked_by (true ∷ bs) (x ∷ xs) each none = cc
unmarked_by (false ∷ bs) (x ∷ xs) each none = unmarked_by bs xs (omega (arith, each)) none

-- as many stay of lists of one length
pub as_many_stay : {X Y : Type 0} (bs : List Bool) (xs : List X) (ys : List Y) → length xs ≡ length ys → length (unmarked bs xs) ≡ length (unmarked bs ys)
as_many_stay [] xs ys each = refl
as_many_stay (b ∷ bs) [] [] each = refl
as_many_stay (b ∷ bs) [] (y ∷ ys) each = absurd (omega (arith, each))
as_many_stay (b ∷ bs) (x ∷ xs) [] each = absurd (omega (arith, each))
as_many_stay (true ∷ bs) (x ∷ xs) (y ∷ ys) each = as_many_stay bs xs ys (omega (arith, each))
as_many_stay (false ∷ bs) (x ∷ xs) (y ∷ ys) each = ap suc (as_many_stay bs xs ys (omega (arith, each)))

-- all others stay
pub all_stay : {X : Type 0} (bs : List Bool) (xs : List X) → length xs ≤ length bs → AreUnmarked bs → unmarked bs xs ≡ xs
all_stay [] [] few none = refl
all_stay [] (x ∷ xs) few none = absurd (omega (arith, few))
all_stay (b ∷ bs) [] few none = refl
all_stay (true ∷ bs) (x ∷ xs) few none = absurd (true≢false none)
all_stay (false ∷ bs) (x ∷ xs) few none = ap (λ l. x ∷ l) (all_stay bs xs (omega (arith, few)) none)

-- the marks of all are the flags
pub flags_stay : (flags bs : List Bool) → AreUnmarked bs → with_flagged flags bs ≡ flags
flags_stay [] bs none = refl
flags_stay (true ∷ flags) bs none = ap (λ l. true ∷ l) (flags_stay flags bs none)
flags_stay (false ∷ flags) [] none = ap (λ l. false ∷ l) (flags_stay flags [] none)
flags_stay (false ∷ flags) (true ∷ bs) none = absurd (true≢false none)
flags_stay (false ∷ flags) (false ∷ bs) none = ap (λ l. false ∷ l) (flags_stay flags bs none)
