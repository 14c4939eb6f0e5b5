-- The sites whose digests are not the same in two lists.
use Rattle.std.proofs.Common.{◌≡◌, ℕ, ◌+◌, ◌<◌, min, Bool, true, false, ◌&&◌, cond, eqb, leb, List, [], ◌∷◌, ◌++◌, length, get_or, take, map, refl, ap, ◌∙◌, arith, length-take}
use Rattle.std.specs.List.{filter}
use Rattle.std.proofs.lemmas.List.{take_more}
use Rattle.std.proofs.lemmas.Bool.Decides.{nat_tests}
use Rattle.td_stamps.specs.Vectors.{VersionVector, number_of}
use Rattle.td_stamps.specs.declared.entry.Entry.{Entry}
use Rattle.td_comparison.specs.Digests.{differing, differs, is_comparable, known_to_differ, site_digest, digest_sites}
use Rattle.td_comparison.specs.ForProofs.{common_place, is_unequal, sites_unequal}
use Rattle.td_comparison.specs.declared.digest.SiteDigest.{SiteDigest}

one_more : (b : Bool) (xs ys : List SiteDigest) (x y : SiteDigest) → length xs ≡ length ys → sites_unequal b (xs ++ x ∷ []) (ys ++ y ∷ []) ≡ sites_unequal b xs ys ++ cond (is_unequal b x y) (y.site ∷ []) []
unfolding sites_unequal
one_more b [] [] x y long = refl
one_more b (x' ∷ xs) [] x y long = absurd (omega arith)
one_more b [] (y' ∷ ys) x y long = absurd (omega arith)
one_more b (x' ∷ xs) (y' ∷ ys) x y long =
    elim (is_unequal b x' y') as (λ t. cond t (y'.site ∷ sites_unequal b (xs ++ x ∷ []) (ys ++ y ∷ [])) (sites_unequal b (xs ++ x ∷ []) (ys ++ y ∷ [])) ≡ cond t (y'.site ∷ sites_unequal b xs ys) (sites_unequal b xs ys) ++ cond (is_unequal b x y) (y.site ∷ []) []) [
      | true ↦ ap (λ (l : List ℕ). y'.site ∷ l) (one_more b xs ys x y (omega arith))
      | false ↦ one_more b xs ys x y (omega arith)
    ]

-- a place further
pub more_unequal : (b : Bool) (xs ys : List SiteDigest) (i : ℕ) (d e : SiteDigest) → length xs ≡ length ys → i < length xs
    → sites_unequal b (take (i + 1) xs) (take (i + 1) ys) ≡ sites_unequal b (take i xs) (take i ys) ++ cond (is_unequal b (get_or xs i d) (get_or ys i e)) ((get_or ys i e).site ∷ []) []
more_unequal b xs ys i d e long lt = rw (take_more xs i d lt, take_more ys i e (omega arith)) (one_more b (take i xs) (take i ys) (get_or xs i d) (get_or ys i e) (omega (arith, length-take i xs, length-take i ys)))

pub none_unequal : (b : Bool) → sites_unequal b [] [] ≡ []
unfolding sites_unequal
none_unequal b = refl

-- a site that is found or not, and those after it
first_of_both : (test : SiteDigest → Bool) (b : Bool) (d : SiteDigest) (ds : List SiteDigest) (rest : List ℕ) → rest ≡ digest_sites (filter test ds) → cond b (d.site ∷ rest) rest ≡ digest_sites (cond b (d ∷ filter test ds) (filter test ds))
first_of_both test true d ds rest same = ap (λ (l : List ℕ). d.site ∷ l) same
first_of_both test false d ds rest same = same

-- by an answer, all sites whose digests are not those of what is held
pub by_answer : (xs : List Entry) (v : VersionVector) (ds : List SiteDigest) → sites_unequal true (map (λ d. site_digest xs (common_place v d)) ds) ds ≡ differing xs v ds
unfolding sites_unequal
by_answer xs v [] = refl
by_answer xs v (d ∷ ds) = first_of_both (differs xs v) (differs xs v d) d ds _ (by_answer xs v ds)

as_many : (m n : ℕ) → eqb (min m n) m ≡ leb m n
as_many m n = grind (arith, nat_tests)

abbrev left : List Entry → VersionVector → List SiteDigest → List ℕ
left xs v ds = sites_unequal false (map (λ d. site_digest xs (common_place v d)) ds) ds

-- by a question, those of which both have as many entries
pub by_question : (xs : List Entry) (v : VersionVector) (ds : List SiteDigest) → sites_unequal false (map (λ d. site_digest xs (common_place v d)) ds) ds ≡ known_to_differ xs v ds
unfolding sites_unequal
by_question xs v [] = refl
by_question xs v (d ∷ ds) =
    ap (λ (b : Bool). cond (b && differs xs v d) (d.site ∷ left xs v ds) (left xs v ds)) (as_many d.number (number_of v d.site))
    ∙ first_of_both (λ d. is_comparable v d && differs xs v d) (is_comparable v d && differs xs v d) d ds (left xs v ds) (by_question xs v ds)
