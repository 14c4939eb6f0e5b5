-- Meetings of sites at their places.
use Rattle.std.proofs.Common.{◌≡◌, ◌≢◌, ◌<◌, ◌≤◌, eqb, inl, inr, ℕ, zero, suc, Bool, cond, List, [], ◌∷◌, ◌++◌, Option, Some, None, option_map, length, take, drop, map, get_or, Result, Err, refl, sym, ap, ◌∙◌, subst, arith}
use Rattle.std.specs.List.{slice_get, slice_set}
use Rattle.std.proofs.lemmas.Bool.{cases_Bool, ne_eqb}
use Rattle.std.proofs.lemmas.Bool.Decides.{nat_tests}
use Rattle.std.proofs.lemmas.List.{get_or-drop, get_or-take, map-set}
use Rattle.td_replica.specs.Seen.{Seen}
use Rattle.td_meeting.specs.Meetings.{Judges, Meets, MeetsNot}
use Rattle.td_meeting.specs.declared.error.MeetingError.{MeetingError}
use Rattle.td_meeting.specs.declared.error.MeetingError.TheVariants as meeting_error
use Rattle.td_meeting.specs.declared.meeting.Met.{Met}
use Rattle.td_meeting.specs.declared.meeting.MeetingRefusal.{MeetingRefusal}
use Rattle.td_answers.specs.Answers.{MeetAnswered, meet_answer}
use Rattle.td_answers.specs.ForProofs.Drawn.{IsUnmet, MeetsAt, TellsMetAt}
use Rattle.td_answers.specs.ForProofs.Said.{place_in}
use Rattle.td_answers.specs.Sites.{Placed, Sites, site_of, sites_of, two_of}
use Rattle.td_answers.proofs.Placing.{seen_read, set_there, site_there, some_seen}

-- ---- a list apart at a place, with an element put into each part

set_behind : {X : Type 0} (xs : List X) (b : ℕ) (y : X) → b < length xs → take b xs ++ slice_set (drop b xs) 0 y ≡ slice_set xs b y
set_behind [] b y lt = absurd (omega (arith, lt))
set_behind (x ∷ xs) zero y lt = refl
set_behind (x ∷ xs) (suc b) y lt = ap (λ l. x ∷ l) (set_behind xs b y (omega (arith, lt)))

pub set_apart : {X : Type 0} (xs : List X) (a b : ℕ) (x y : X) → a < b → b < length xs → slice_set (take b xs) a x ++ slice_set (drop b xs) 0 y ≡ slice_set (slice_set xs a x) b y
set_apart xs a zero x y lt within = absurd (omega (arith, lt))
set_apart [] a (suc b) x y lt within = absurd (omega (arith, within))
set_apart (z ∷ xs) zero (suc b) x y lt within = ap (λ l. x ∷ l) (set_behind xs b y (omega (arith, within)))
set_apart (z ∷ xs) (suc a) (suc b) x y lt within = ap (λ l. z ∷ l) (set_apart xs a b x y (omega (arith, lt)) (omega (arith, within)))

-- elements put at two places, in either order
pub set_either : {X : Type 0} (xs : List X) (a b : ℕ) (x y : X) → a ≢ b → slice_set (slice_set xs a x) b y ≡ slice_set (slice_set xs b y) a x
set_either [] a b x y two = refl
set_either (z ∷ xs) zero zero x y two = absurd (two refl)
set_either (z ∷ xs) zero (suc b) x y two = refl
set_either (z ∷ xs) (suc a) zero x y two = refl
set_either (z ∷ xs) (suc a) (suc b) x y two = ap (λ l. z ∷ l) (set_either xs a b x y (λ e. two (ap suc e)))

pub at_back : {X : Type 0} (xs : List X) (b : ℕ) (d : X) → get_or (drop b xs) 0 d ≡ get_or xs b d
at_back xs b d = get_or-drop b xs 0 d ∙ ap (λ (n : ℕ). get_or xs n d) (omega arith)

module _ {R : Type 0} (seen : R → Seen) where
  two_set : (rs : List R) (a b : ℕ) (p q : R) → map seen (slice_set (slice_set rs a p) b q) ≡ slice_set (slice_set (map seen rs) a (seen p)) b (seen q)
  two_set rs a b p q = map-set seen (slice_set rs a p) b q ∙ ap (λ l. slice_set l b (seen q)) (map-set seen rs a p)

  -- sites that met are those at the two places
  met_there : (rs new : List R) (a b : ℕ) (x y p q : R) (d e : R) (r : Result Met MeetingRefusal) → a < length rs → b < length rs → x ≡ get_or rs a d → y ≡ get_or rs b e → Meets (seen x) (seen y) r (seen p) (seen q)
      → new ≡ slice_set (slice_set rs a p) b q → MeetsAt (map seen rs) a b r (map seen new)
  met_there rs new a b x y p q d e r within_a within_b is_x is_y told is = λ s t at_s at_t.
      let first : seen x ≡ s = ap seen is_x ∙ some_seen _ _ (sym (seen_read seen rs a d within_a) ∙ at_s) in
      let second : seen y ≡ t = ap seen is_y ∙ some_seen _ _ (sym (seen_read seen rs b e within_b) ∙ at_t) in (
        seen p,
        seen q,
        subst (λ (u : Seen). Meets u t r (seen p) (seen q)) first (subst (λ (u : Seen). Meets (seen x) u r (seen p) (seen q)) second told),
        ap (map seen) is ∙ two_set rs a b p q,
      )

  -- the first stands before the second
  pub meets_before : (rs front back : List R) (a b : ℕ) (p q d e : R) (r : Result Met MeetingRefusal) → front ≡ take b rs → back ≡ drop b rs → a < b → a < length rs → b < length rs
      → Meets (seen (get_or front a d)) (seen (get_or back 0 e)) r (seen p) (seen q) → MeetsAt (map seen rs) a b r (map seen (slice_set front a p ++ slice_set back 0 q))
  meets_before rs front back a b p q d e r is_front is_back lt within_a within_b told =
      met_there rs (slice_set front a p ++ slice_set back 0 q) a b (get_or front a d) (get_or back 0 e) p q d e r within_a within_b (ap (λ l. get_or l a d) is_front ∙ get_or-take b rs a d lt) (ap (λ l. get_or l 0 e) is_back ∙ at_back rs b e) told
      (ap (λ l. slice_set l a p ++ slice_set back 0 q) is_front ∙ ap (λ l. slice_set (take b rs) a p ++ slice_set l 0 q) is_back ∙ set_apart rs a b p q lt within_b)

  -- and behind it
  pub meets_behind : (rs front back : List R) (a b : ℕ) (p q d e : R) (r : Result Met MeetingRefusal) → front ≡ take a rs → back ≡ drop a rs → b < a → a < length rs → b < length rs
      → Meets (seen (get_or back 0 d)) (seen (get_or front b e)) r (seen p) (seen q) → MeetsAt (map seen rs) a b r (map seen (slice_set front b q ++ slice_set back 0 p))
  meets_behind rs front back a b p q d e r is_front is_back lt within_a within_b told =
      met_there rs (slice_set front b q ++ slice_set back 0 p) a b (get_or back 0 d) (get_or front b e) p q d e r within_a within_b (ap (λ l. get_or l 0 d) is_back ∙ at_back rs a d) (ap (λ l. get_or l b e) is_front ∙ get_or-take a rs b e lt) told
      (ap (λ l. slice_set l b q ++ slice_set back 0 p) is_front ∙ ap (λ l. slice_set (take a rs) b q ++ slice_set l 0 p) is_back ∙ set_apart rs b a q p lt within_a ∙ set_either rs b a q p (λ (same : b ≡ a). absurd (omega (arith, lt, same))))

pub goes_before : (a b : ℕ) → a ≢ b → b ≤ a → b < a
goes_before a b two le = elim (cases_Bool (eqb a b)) [
  | inl same ↦ absurd (two (grind (arith, nat_tests)))
  | inr other ↦ grind (arith, nat_tests)
]

-- ---- what is told of it

pub tells_meeting : (ns : ℕ × ℕ) (ss : Sites) (a b : ℕ) (r : Result Met MeetingRefusal) (text : List ℕ) (new : Sites) → MeetsAt ss a b r new → text ≡ meet_answer ns.0 ns.1 r → TellsMetAt ns ss a b text new
tells_meeting ns ss a b r text new meets line = λ s t at_s at_t.
    let (after, other, told, is) = meets s t at_s at_t in
    (after, other, record { answer = r; meets = told; line = line }, is)

-- a meeting that leaves both sites as they were
pub meets_none : (ss : Sites) (a b : ℕ) (x y : Seen) (e : MeetingError) → slice_get ss a ≡ Some x → slice_get ss b ≡ Some y → MeetsNot x y e 0 x y
    → MeetsAt ss a b (Err (record { error = e; first_took = 0 })) ss
meets_none ss a b x y e at_a at_b told = λ s t at_s at_t.
    let first = some_seen x s (sym at_a ∙ at_s) in
    let second = some_seen y t (sym at_b ∙ at_t) in
    let same = subst (λ (u : Seen). MeetsNot u t e 0 u t) first (subst (λ (u : Seen). MeetsNot x u e 0 x u) second told) in
    (s, t, same, sym (ap (λ (xs : Sites). slice_set xs b t) (set_there ss a s at_s) ∙ set_there ss b t at_t))

placed_by : (n : ℕ) (ss : Sites) (at : ℕ) (o : Option Placed) → site_of n ss ≡ o → Some at ≡ option_map place_in o → (s : Seen) × (site_of n ss ≡ Some (at, s)) × (slice_get ss at ≡ Some s)
placed_by n ss at None is e = cc
placed_by n ss at (Some p) is e =
    let same : p.0 ≡ at = cc in
    (p.1, is ∙ ap (λ (k : ℕ). Some (k, p.1)) same, subst (λ (k : ℕ). slice_get ss k ≡ Some p.1) same (site_there n ss p is))

pub placed : (n : ℕ) (ss : Sites) (at : ℕ) → Some at ≡ option_map place_in (site_of n ss) → (s : Seen) × (site_of n ss ≡ Some (at, s)) × (slice_get ss at ≡ Some s)
placed n ss at e = placed_by n ss at (site_of n ss) refl e

two_apart : (a b : ℕ) (s t : Seen) → a ≢ b → two_of (Some (a, s)) (Some (b, t)) ≡ Some ((a, s), (b, t))
two_apart a b s t two = ap (λ (x : Bool). cond x None (Some ((a, s), (b, t)))) (ne_eqb a b two)

pub meets_in : (n m : ℕ) (ss : Sites) (a b : ℕ) (text : List ℕ) (new : Sites) → Some a ≡ option_map place_in (site_of n ss) → Some b ≡ option_map place_in (site_of m ss) → a ≢ b
    → TellsMetAt (n, m) ss a b text new → MeetAnswered n m ss (sites_of n m ss) text new
meets_in n m ss a b text new at_n at_m two told =
    let (s, is_n, there_n) = placed n ss a at_n in
    let (t, is_m, there_m) = placed m ss b at_m in
    let both : sites_of n m ss ≡ Some ((a, s), (b, t)) = ap (λ (o : Option Placed). two_of o (site_of m ss)) is_n ∙ ap (λ (o : Option Placed). two_of (Some (a, s)) o) is_m ∙ two_apart a b s t two in
    subst (λ (o : Option (Placed × Placed)). MeetAnswered n m ss o text new) (sym both) (told s t there_n there_m)

-- two sites that may not meet stay as they were
pub unmet : (s t : Seen) (e : MeetingError) → Judges s t (Err e) → IsUnmet e
unmet s t meeting_error.Broken h = tt
unmet s t meeting_error.OtherScript h = tt
unmet s t meeting_error.SameSite h = tt
unmet s t meeting_error.OutOfMemory h = absurd h
unmet s t (meeting_error.Frame x n) h = absurd h
unmet s t (meeting_error.WriteFault n) h = absurd h
unmet s t (meeting_error.Take x) h = absurd h

pub judged_not : (s t : Seen) (e : MeetingError) → Judges s t (Err e) → MeetsNot s t e 0 s t
judged_not s t meeting_error.Broken h = (h, (refl, refl, refl))
judged_not s t meeting_error.OtherScript h = (h.0, h.1, (refl, refl, refl))
judged_not s t meeting_error.SameSite h = (h.0, h.1, h.2, (refl, refl, refl))
judged_not s t meeting_error.OutOfMemory h = absurd h
judged_not s t (meeting_error.Frame x n) h = absurd h
judged_not s t (meeting_error.WriteFault n) h = absurd h
judged_not s t (meeting_error.Take x) h = absurd h
