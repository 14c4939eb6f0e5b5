-- Pieces of one length, read one after the other.
use Rattle.std.proofs.Common.{◌≡◌, ℕ, zero, suc, ◌+◌, ◌*◌, ◌<◌, ◌≤◌, List, [], ◌∷◌, ◌++◌, length, take, drop, sym, ap, ◌∙◌, append_assoc, append-nil, arith, length-append, length-drop, refl, true, ◌&&◌, leb, eqb}
use Rattle.std.proofs.lemmas.List.{drop_at, take-append-le, drop-append-le}
use Rattle.std.specs.Str.{bytes_eq}
use Rattle.std.proofs.lemmas.Bool.{leb-true}
use Rattle.td_stamps.proofs.SetLemmas.{first_holds, rest_holds}
use Rattle.td_comparison.specs.declared.digest.SiteDigest.{SiteDigest}
use Rattle.td_comparison.specs.Messages.{has_head, comparison_letters, line_in, lines_in, long_at, short_at, sites_in}

line_own : (x left : List ℕ) → length x ≡ 22 → line_in (x ++ left) ≡ line_in x
line_own x left long =
    let six : length (drop 6 x) ≡ 16 = omega (arith, length-drop 6 x) in
    let two : length (drop 2 x) ≡ 20 = omega (arith, length-drop 2 x) in
    rw (
      take-append-le 2 x left (omega arith),
      drop-append-le 2 x left (omega arith),
      take-append-le 4 (drop 2 x) left (omega arith),
      drop-append-le 6 x left (omega arith),
      take-append-le 16 (drop 6 x) left (omega arith),
    ) refl

site_own : (x left : List ℕ) → length x ≡ 2 → short_at 0 (x ++ left) ≡ short_at 0 x
site_own x left long = rw (take-append-le 2 x left (omega arith)) refl

-- an item was read, and so many are left
pub line_more : (n count : ℕ) (done : List SiteDigest) (old x left all : List ℕ) → old ≡ x ++ left → length x ≡ 22 → length old ≡ 22 * n → done ++ lines_in n old ≡ lines_in count all
    → (k : ℕ) × (length left ≡ 22 * k) × ((done ++ line_in x ∷ []) ++ lines_in k left ≡ lines_in count all)
unfolding lines_in
line_more zero count done old x left all is long fits so_far = absurd (omega (arith, ap length is, length-append x left))
line_more (suc k) count done old x left all is long fits so_far =
    let one : lines_in (suc k) old ≡ line_in x ∷ lines_in k left =
    ap (lines_in (suc k)) is ∙ ap (λ (d : SiteDigest). d ∷ lines_in k (drop 22 (x ++ left))) (line_own x left long) ∙ ap (λ (b : List ℕ). line_in x ∷ lines_in k b) (drop_at x left 22 long) in
    (k, omega (arith, ap length is, length-append x left), append_assoc done (line_in x ∷ []) (lines_in k left) ∙ ap (λ (l : List SiteDigest). done ++ l) (sym one) ∙ so_far)

pub line_end : (n count : ℕ) (done : List SiteDigest) (old all : List ℕ) → length old < 22 → length old ≡ 22 * n → done ++ lines_in n old ≡ lines_in count all → done ≡ lines_in count all
unfolding lines_in
line_end zero count done old all few fits so_far = sym (append-nil done) ∙ so_far
line_end (suc k) count done old all few fits so_far = absurd (omega arith)

pub site_more : (n count : ℕ) (done : List ℕ) (old x left all : List ℕ) → old ≡ x ++ left → length x ≡ 2 → length old ≡ 2 * n → done ++ sites_in n old ≡ sites_in count all
    → (k : ℕ) × (length left ≡ 2 * k) × ((done ++ short_at 0 x ∷ []) ++ sites_in k left ≡ sites_in count all)
unfolding sites_in
site_more zero count done old x left all is long fits so_far = absurd (omega (arith, ap length is, length-append x left))
site_more (suc k) count done old x left all is long fits so_far =
    let one : sites_in (suc k) old ≡ short_at 0 x ∷ sites_in k left =
    ap (sites_in (suc k)) is ∙ ap (λ (n : ℕ). n ∷ sites_in k (drop 2 (x ++ left))) (site_own x left long) ∙ ap (λ (b : List ℕ). short_at 0 x ∷ sites_in k b) (drop_at x left 2 long) in
    (k, omega (arith, ap length is, length-append x left), append_assoc done (short_at 0 x ∷ []) (sites_in k left) ∙ ap (λ (l : List ℕ). done ++ l) (sym one) ∙ so_far)

pub site_end : (n count : ℕ) (done : List ℕ) (old all : List ℕ) → length old < 2 → length old ≡ 2 * n → done ++ sites_in n old ≡ sites_in count all → done ≡ sites_in count all
unfolding sites_in
site_end zero count done old all few fits so_far = sym (append-nil done) ∙ so_far
site_end (suc k) count done old all few fits so_far = absurd (omega arith)

pub length-lines_in : (n : ℕ) (bytes : List ℕ) → length (lines_in n bytes) ≡ n
unfolding lines_in
length-lines_in zero bytes = refl
length-lines_in (suc n) bytes = ap suc (length-lines_in n (drop 22 bytes))

-- a comparison has few digests
pub few_digests : (bytes : List ℕ) → has_head bytes ≡ true → long_at 39 bytes ≤ 65535
few_digests bytes is =
    let few = leb 43 (length bytes) in
    let named = bytes_eq (take 5 bytes) comparison_letters in
    let sited = leb 1 (short_at 5 bytes) in
    let counted = leb (long_at 39 bytes) 65535 in
    let whole = eqb (length bytes) (43 + 22 * long_at 39 bytes) in
    let behind = rest_holds sited (counted && whole) (rest_holds named (sited && (counted && whole)) (rest_holds few (named && (sited && (counted && whole))) is)) in
    leb-true (long_at 39 bytes) 65535 (first_holds counted whole behind)
