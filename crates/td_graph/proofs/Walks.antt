-- A walk along links: what it has visited, and what it reaches.
use Rattle.std.proofs.Common.{◌≡◌, ◌↔◌, inl, inr, ℕ, zero, suc, ◌+◌, ◌<◌, ◌≤◌, nat_eq, Bool, true, false, List, [], ◌∷◌, ◌++◌, map, length, get_or, refl, sym, ap, ◌∙◌, subst, append_assoc, length-append, true≢false, arith}
use Rattle.std.specs.List.{Contains}
use Rattle.std.specs.Prelude.{replicate, slice_set}
use Rattle.std.proofs.lemmas.Bool.Decides.{nat_tests}
use Rattle.std.proofs.lemmas.Grind.{get_or_default_zero}
use Rattle.std.proofs.lemmas.List.{append-nil, get_or-map, get_or-set_other, length-map, length-set, length-replicate, map-append, map-set, replicate-append-replicate}
use Rattle.std.proofs.lemmas.List.Elements.{Contains-append_left, Contains-append_right, Contains-append_cases}
use Rattle.std.proofs.lemmas.List.Folds.{sum_by-replicate}
use Rattle.std.proofs.lemmas.List.Sums.{sum_by-set}
use Rattle.std.proofs.Math.ListN.{get_or-append}
use Rattle.td_graph.specs.Links.{LeadsOn, ReachedFrom, with_link}
use Rattle.td_graph.specs.Links as walked
use Rattle.td_graph.specs.ForProofs.{one_if_not, IsMarked, Visits}

-- ---- lists of one
pub the_one : (w v : ℕ) → Contains (w ∷ []) v → v ≡ w
the_one w v (zero, lt, is) = sym is
the_one w v (suc n, lt, is) = absurd (omega (arith, lt))

-- ---- marks
none_marked : (n w : ℕ) → get_or (replicate n false) w false ≡ false
none_marked zero w = refl
none_marked (suc n) zero = refl
none_marked (suc n) (suc w) = none_marked n w

pub unmarked : (marks : List Bool) (n : ℕ) → marks ≡ replicate n false → IsMarked marks []
unmarked marks n is = subst (λ ms. IsMarked ms []) (sym is) (record {
  visited = λ w e. absurd (true≢false (sym e ∙ none_marked n w));
  counted = let s = sum_by-replicate one_if_not n false in omega (arith, s, length-replicate n false);
})

pub marked_more : (marks : List Bool) (places : List ℕ) (w : ℕ) → IsMarked marks places → w < length marks → get_or marks w false ≡ false → IsMarked (slice_set marks w true) (places ++ w ∷ [])
marked_more marks places w m lt off = record {
  visited = λ v e.
      elim (nat_eq v w) as (λ b. nat_eq v w ≡ b → Contains (places ++ w ∷ []) v) [
        | true ↦ λ same. let is : v ≡ w = grind (arith, nat_tests, same) in subst (λ u. Contains (places ++ w ∷ []) u) (sym is) (Contains-append_right places (w ∷ []) w (0, omega arith, refl))
        | false ↦ λ other. let apart : v ≡ w → ⊥ = λ is. absurd (grind (arith, nat_tests, other, is)) in Contains-append_left places (w ∷ []) v (m.visited v (sym (get_or-set_other marks w v true false apart) ∙ e))
      ] refl;
  counted =
      let s = sum_by-set one_if_not marks w true false lt in
      let one : one_if_not (get_or marks w false) ≡ 1 = ap one_if_not off in
      let old = m.counted in
      omega (arith, s, one, old, length-append places (w ∷ []), length-set marks w true);
}

-- what was read there is false, whatever stands for a place past the end
pub read_false : (marks : List Bool) (w : ℕ) (b : Bool) → w < length marks → b ≡ get_or marks w b → b ≡ false → get_or marks w false ≡ false
read_false (m ∷ marks) zero b lt is off = sym is ∙ off
read_false (m ∷ marks) (suc w) b lt is off = read_false marks w b (omega arith) is off
read_false [] w b lt is off = absurd (omega arith)

pub few : (marks : List Bool) (places : List ℕ) → IsMarked marks places → length places ≤ length marks
few marks places m = let c = m.counted in omega (arith, c)

-- where none is set
pub none_left : (marks : List Bool) → ((v : ℕ) → get_or marks v false ≡ true → ⊥) → marks ≡ replicate (length marks) false
none_left [] none = refl
none_left (true ∷ marks) none = absurd (none 0 refl)
none_left (false ∷ marks) none = ap (λ bs. false ∷ bs) (none_left marks (λ v e. none (suc v) e))

-- ---- visits
pub visits_none : (n : ℕ) (old : List ℕ) → Visits n old [] old
visits_none n old = record { rest = []; behind = sym (append-nil old); only = λ w h. absurd (omega (arith, h.1)); all = λ w h lt. absurd (omega (arith, h.1)) }

-- a place that is no place, or that was there
pub visits_nothing : (n : ℕ) (old : List ℕ) (w : ℕ) → (w < n → Contains old w) → Visits n old (w ∷ []) old
visits_nothing n old w there = record {
  rest = [];
  behind = sym (append-nil old);
  only = λ v h. absurd (omega (arith, h.1));
  all = λ v h lt. let is : v ≡ w = the_one w v h in subst (λ u. Contains old u) (sym is) (there (subst (λ u. u < n) is lt));
}

pub visits_it : (n : ℕ) (old : List ℕ) (w : ℕ) → w < n → Visits n old (w ∷ []) (old ++ w ∷ [])
visits_it n old w lt = record {
  rest = w ∷ [];
  behind = refl;
  only = λ v h. (h, subst (λ u. u < n) (sym (the_one w v h)) lt);
  all = λ v h le. Contains-append_right old (w ∷ []) v h;
}

pub visits_more : (n : ℕ) (old more mid new : List ℕ) (w : ℕ) → Visits n old more mid → Visits n mid (w ∷ []) new → Visits n old (more ++ w ∷ []) new
visits_more n old more mid new w a b = record {
  rest = a.rest ++ b.rest;
  behind = b.behind ∙ ap (λ p. p ++ b.rest) a.behind ∙ append_assoc old a.rest b.rest;
  only = λ v h. elim (Contains-append_cases a.rest b.rest v h) [
    | inl p ↦ (Contains-append_left more (w ∷ []) v (a.only v p).0, (a.only v p).1)
    | inr q ↦ (Contains-append_right more (w ∷ []) v (b.only v q).0, (b.only v q).1)
  ];
  all = λ v h lt. elim (Contains-append_cases more (w ∷ []) v h) [
    | inl p ↦ subst (λ ps. Contains ps v) (sym b.behind) (Contains-append_left mid b.rest v (a.all v p lt))
    | inr q ↦ b.all v q lt
  ];
}

-- ---- the walk
-- what it keeps: it has looked at the first so many of the places that it has come to
pub record IsWalk (links : List (List ℕ)) (starts : List ℕ) (at : ℕ) (marks : List Bool) (places : List ℕ) : Type 0 where
  pub marked : IsMarked marks places
  pub many : length marks ≡ length links
  pub in_range : at ≤ length places
  pub sound : (w : ℕ) → Contains places w → ReachedFrom links starts w
  pub first : (w : ℕ) → Contains starts w → w < length links → Contains places w
  pub closed : (k w : ℕ) → k < at → LeadsOn links (get_or places k 0) w → w < length links → Contains places w

module _ (links : List (List ℕ)) (starts : List ℕ) where
  pub begun : (marks : List Bool) (places : List ℕ) → IsMarked marks places → length marks ≡ length links → Visits (length links) [] starts places → IsWalk links starts 0 marks places
  begun marks places m many v = record {
    marked = m;
    many = many;
    in_range = omega arith;
    sound = λ w h. let o = v.only w (subst (λ ps. Contains ps w) v.behind h) in walked.start o.0 o.1;
    first = v.all;
    closed = λ k w lt h le. absurd (omega (arith, lt));
  }

  pub gone_on : (at : ℕ) (marks : List Bool) (places : List ℕ) (marks_then : List Bool) (then : List ℕ) → IsWalk links starts at marks places → at < length places → IsMarked marks_then then → length marks_then ≡ length links → Visits (length links) places (get_or links (get_or places at 0) []) then → IsWalk links starts (at + 1) marks_then then
  gone_on at marks places marks_then then walk lt m many v =
      let here = get_or places at 0 in
      let longer : length then ≡ length places + length v.rest = ap length v.behind ∙ length-append places v.rest in
      record {
        marked = m;
        many = many;
        in_range = omega (arith, longer);
        sound = λ w h. elim (Contains-append_cases places v.rest w (subst (λ ps. Contains ps w) v.behind h)) [
          | inl old ↦ walk.sound w old
          | inr new ↦ walked.onward (walk.sound here (at, lt, get_or_default_zero places at here lt)) (v.only w new).0 (v.only w new).1
        ];
        first = λ w h le. kept w (walk.first w h le);
        closed = λ k w le h within. elim (nat_eq k at) as (λ b. nat_eq k at ≡ b → Contains then w) [
          | true ↦ λ same.
              let is : k ≡ at = grind (arith, nat_tests, same) in
              v.all w (subst (λ u. LeadsOn links u w) (same_at k (omega (arith, lt, is)) ∙ ap (λ j. get_or places j 0) is) h) within
          | false ↦ λ other.
              let below : k < at = grind (arith, nat_tests, other, le) in
              kept w (walk.closed k w below (subst (λ u. LeadsOn links u w) (same_at k (omega (arith, lt, below))) h) within)
        ] refl;
      }
    where
      kept : (w : ℕ) → Contains places w → Contains then w
      kept w h = subst (λ ps. Contains ps w) (sym v.behind) (Contains-append_left places v.rest w h)

      same_at : (k : ℕ) → k < length places → get_or then k 0 ≡ get_or places k 0
      same_at k h = ap (λ ps. get_or ps k 0) v.behind ∙ get_or-append places v.rest 0 k h

  module _ (at : ℕ) (marks : List Bool) (places : List ℕ) (walk : IsWalk links starts at marks places) (ended : length places ≤ at) where
    step : (u w : ℕ) → Contains places u → LeadsOn links u w → w < length links → Contains places w
    step u w here h le = walk.closed here.0 w (omega (arith, here.1, ended)) (subst (λ v. LeadsOn links v w) (sym here.2 ∙ get_or_default_zero places here.0 u here.1) h) le

    come_to : {w : ℕ} → ReachedFrom links starts w → Contains places w
    come_to (walked.start {w} h le) = walk.first w h le
    come_to (walked.onward {v} {w} r h le) = step v w (come_to r) h le

    pub reaches : (w : ℕ) → Contains places w ↔ ReachedFrom links starts w
    reaches w = (walk.sound w, come_to)

-- ---- lists of lists
-- v holds what is led to from each place
module _ {V : Type 0} (f : V → List ℕ) where
  pub one_link : (vs : List V) (links : List (List ℕ)) (i w : ℕ) (old new : V) → map f vs ≡ links → i < length links → old ≡ get_or vs i old → f new ≡ f old ++ w ∷ [] → map f (slice_set vs i new) ≡ with_link links i w
  one_link vs links i w old new is lt here grown =
      let within : i < length vs = omega (arith, lt, ap length is, length-map vs f) in
      let before : f old ≡ get_or links i [] = ap f here ∙ sym (get_or-map f vs i old [] within) ∙ ap (λ l. get_or l i []) is in
      map-set f vs i new ∙ (λ j. slice_set (is j) i ((grown ∙ ap (λ l. l ++ w ∷ []) before) j))

  pub one_place : (vs : List V) (n : ℕ) (v : V) → map f vs ≡ replicate n [] → f v ≡ [] → map f (vs ++ v ∷ []) ≡ replicate (n + 1) []
  one_place vs n v is none = map-append f vs (v ∷ []) ∙ (λ j. is j ++ none j ∷ []) ∙ replicate-append-replicate n 1 []
