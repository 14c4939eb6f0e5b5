-- The places whose entries are not what is kept, and their feeds.
use Rattle.std.proofs.Common.{◌≡◌, ℕ, zero, suc, ◌+◌, ◌<◌, Bool, true, false, not, cond, List, [], ◌∷◌, ◌++◌, length, get_or, drop, take, refl, sym, ap, subst, ◌∙◌, append-nil, arith}
use Rattle.std.specs.List.{filter}
use Rattle.std.proofs.lemmas.Bool.{and_from, lt-ltb, ltb-true}
use Rattle.std.proofs.lemmas.List.{map-append, take_more}
use Rattle.std.proofs.lemmas.List.Elements.{filter-append}
use Rattle.td_stamps.specs.declared.entry.Entry.{Entry}
use Rattle.td_stamps.proofs.SetLemmas.{first_holds, rest_holds}
use Rattle.td_comparison.specs.Digests.{rises}
use Rattle.td_comparison.specs.Hashed.{AreFed, IsFed}
use Rattle.td_comparison.specs.ForProofs.{feed_place, feed_places, is_hashed, missing, place_sites}
use Rattle.td_comparison.specs.declared.digest.SiteFeed.{SiteFeed}
use Rattle.td_comparison.specs.declared.prefixes.SitePrefixes.{SitePrefixes}

-- fewer sites rise too
lower_last : (last first : ℕ) (sites : List ℕ) → last < first → rises first sites ≡ true → rises last sites ≡ true
lower_last last first [] lt up = refl
lower_last last first (s ∷ sites) lt up =
    let above = ltb-true first s (first_holds _ _ up) in
    and_from _ _ (lt-ltb last s (omega (arith, above, lt))) (rest_holds _ _ up)

fewer_rise : (test : (ℕ × ℕ) → Bool) (last : ℕ) (ps : List (ℕ × ℕ)) → rises last (place_sites ps) ≡ true → rises last (place_sites (filter test ps)) ≡ true
fewer_rise test last [] up = refl
fewer_rise test last (p ∷ ps) up =
    let rest = fewer_rise test p.0 ps (rest_holds _ _ up) in
    elim (test p) as (λ b. rises last (place_sites (cond b (p ∷ filter test ps) (filter test ps))) ≡ true) [
      | true ↦ and_from _ _ (first_holds _ _ up) rest
      | false ↦ lower_last last p.0 (place_sites (filter test ps)) (ltb-true last p.0 (first_holds _ _ up)) rest
    ]

pub missing_rise : (known : SitePrefixes) (ps : List (ℕ × ℕ)) → rises 0 (place_sites ps) ≡ true → rises 0 (place_sites (missing known ps)) ≡ true
missing_rise known ps up = fewer_rise (λ p. not (is_hashed known p)) 0 ps up

-- the first place is kept or not
pub kept_first : (known : SitePrefixes) (p : ℕ × ℕ) (ps : List (ℕ × ℕ)) → is_hashed known p ≡ true → missing known (p ∷ ps) ≡ missing known ps
kept_first known p ps is = ap (λ (b : Bool). cond (not b) (p ∷ missing known ps) (missing known ps)) is

pub missing_first : (known : SitePrefixes) (p : ℕ × ℕ) (ps : List (ℕ × ℕ)) → is_hashed known p ≡ false → missing known (p ∷ ps) ≡ p ∷ missing known ps
missing_first known p ps is = ap (λ (b : Bool). cond (not b) (p ∷ missing known ps) (missing known ps)) is

-- a list of feeds of which the first is of a place
pub record BeginsWith (fs : List SiteFeed) (n : ℕ) (p : ℕ × ℕ) (ps : List (ℕ × ℕ)) : Type 0 where
  pub bound : n < length fs
  pub first : (d : SiteFeed) → feed_place (get_or fs n d) ≡ p
  pub rest : feed_places (drop (n + 1) fs) ≡ ps

begins : (fs : List SiteFeed) (n : ℕ) (p : ℕ × ℕ) (ps : List (ℕ × ℕ)) → feed_places (drop n fs) ≡ p ∷ ps → (n < length fs) × ((d : SiteFeed) → feed_place (get_or fs n d) ≡ p) × (feed_places (drop (suc n) fs) ≡ ps)
begins [] zero p ps is = absurd (omega (arith, ap length is))
begins [] (suc n) p ps is = absurd (omega (arith, ap length is))
begins (f ∷ fs) zero p ps is = (omega arith, λ d. ap (λ (l : List (ℕ × ℕ)). get_or l 0 p) is, ap (λ (l : List (ℕ × ℕ)). drop 1 l) is)
begins (f ∷ fs) (suc n) p ps is = let later = begins fs n p ps is in (omega (arith, later.0), later.1, later.2)

pub begins_with : (fs : List SiteFeed) (n : ℕ) (p : ℕ × ℕ) (ps : List (ℕ × ℕ)) → feed_places (drop n fs) ≡ p ∷ ps → BeginsWith fs n p ps
begins_with fs n p ps is =
    let it = begins fs n p ps is in
    let next : suc n ≡ n + 1 = omega arith in
    record { bound = it.0; first = it.1; rest = subst (λ (k : ℕ). feed_places (drop k fs) ≡ ps) next it.2 }

-- ---- a place further

missing_more : (known : SitePrefixes) (ps : List (ℕ × ℕ)) (i : ℕ) (d : ℕ × ℕ) (b : Bool) → i < length ps → is_hashed known (get_or ps i d) ≡ b
    → missing known (take (i + 1) ps) ≡ missing known (take i ps) ++ cond (not b) (get_or ps i d ∷ []) []
missing_more known ps i d b lt is =
    ap (missing known) (take_more ps i d lt) ∙ filter-append (λ p. not (is_hashed known p)) (take i ps) (get_or ps i d ∷ [])
    ∙ ap (λ (t : Bool). missing known (take i ps) ++ cond (not t) (get_or ps i d ∷ []) []) is

pub with_feed : (known : SitePrefixes) (ps : List (ℕ × ℕ)) (i : ℕ) (d : ℕ × ℕ) (fs gs : List SiteFeed) (f : SiteFeed) → i < length ps → is_hashed known (get_or ps i d) ≡ false → feed_places fs ≡ missing known (take i ps) → gs ≡ fs ++ f ∷ []
    → feed_place f ≡ get_or ps i d → feed_places gs ≡ missing known (take (i + 1) ps)
with_feed known ps i d fs gs f lt is so_far pushed place =
    ap feed_places pushed ∙ map-append feed_place fs (f ∷ []) ∙ ap (λ (l : List (ℕ × ℕ)). l ++ feed_place f ∷ []) so_far ∙ ap (λ (p : ℕ × ℕ). missing known (take i ps) ++ p ∷ []) place
    ∙ sym (missing_more known ps i d false lt is)

pub without_feed : (known : SitePrefixes) (ps : List (ℕ × ℕ)) (i : ℕ) (d : ℕ × ℕ) (fs : List SiteFeed) → i < length ps → is_hashed known (get_or ps i d) ≡ true → feed_places fs ≡ missing known (take i ps)
    → feed_places fs ≡ missing known (take (i + 1) ps)
without_feed known ps i d fs lt is so_far = so_far ∙ sym (append-nil (missing known (take i ps))) ∙ sym (missing_more known ps i d true lt is)

pub fed_more : (xs came : List Entry) (fs : List SiteFeed) (f : SiteFeed) → AreFed xs came fs → IsFed xs came f → AreFed xs came (fs ++ f ∷ [])
fed_more xs came [] f all one = (one, tt)
fed_more xs came (g ∷ fs) f all one = (all.0, fed_more xs came fs f all.1 one)
