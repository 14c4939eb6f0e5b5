-- What two sites that meet both hold of a site that neither leaves out.
use Rattle.std.proofs.Common.{◌≡◌, ℕ, ◌+◌, ◌-◌, ◌<◌, ◌≤◌, Bool, true, false, not, ◌&&◌, ◌||◌, cond, eqb, leb, max, List, [], ◌∷◌, ◌++◌, inl, inr, refl, sym, ap, subst, ◌∙◌, append_assoc, arith}
use mathlib.Core.Bool.{false≢true}
use Rattle.std.specs.List.{filter, list_all, list_any}
use Rattle.std.proofs.lemmas.Bool.{and_from, cases_Bool, eqb-true, le-leb, le-ltb, leb-false, leb-true, lt-ltb, ltb-false, or_cases, or_left, or_right}
use Rattle.std.proofs.lemmas.Bool.Decides.{nat_tests}
use Rattle.std.proofs.lemmas.List.Folds.{list_any-append}
use Rattle.td_stamps.specs.Checks.{last_seq}
use Rattle.td_stamps.specs.Entries.{clash, in_range, same}
use Rattle.td_stamps.specs.Sets.{apart, has, is_set}
use Rattle.td_stamps.specs.Vectors.{HasAll, IsVector, VersionVector, has_number, lacks, number_of}
use Rattle.td_stamps.specs.declared.entry.Entry.{Entry}
use Rattle.td_stamps.proofs.EntryLemmas.{same-is}
use Rattle.td_stamps.proofs.Gaps.{counted_stays, vector_is_one}
use Rattle.td_stamps.proofs.Merges.{all_has, has-append_left, has-append_right, head_has}
use Rattle.td_stamps.proofs.SetLemmas.{first_fails, first_holds, or_false, rest_fails, rest_holds}
use Rattle.td_replica.specs.Seen.{Seen, IsSound}
use Rattle.td_checked_meetings.specs.Laws.{BySite, HasNoGap}
use Rattle.td_checked_meetings.specs.Scopes.{follows, in_sequence, is_in_scope, is_left_out, of_others, sent, taken}
use Rattle.td_checked_meetings.specs.Steps.{Receives}
use Rattle.td_checked_meetings.specs.declared.scope.MeetingScope.{MeetingScope}
use Rattle.td_checked_meetings.specs.declared.taking.Received.{Received}
use Rattle.td_checked_meetings.proofs.Sequences.{in_step, last_seq-append}
use Rattle.td_checked_meetings.proofs.Staying.{has-filter, joined, moved, of_sent, took}

-- ---- numbers and entries

abbrev is_number : ℕ → ℕ → Entry → Bool
is_number site k e = eqb e.site site && eqb e.seq k

number_is : (xs : List Entry) (site k : ℕ) → has_number xs site k ≡ true → (x : Entry) × (has xs x ≡ true) × (is_number site k x ≡ true)
number_is [] site k here = absurd (false≢true here)
number_is (x ∷ xs) site k here = elim (or_cases (is_number site k x) (has_number xs site k) here) [
  | inl is ↦ (x, head_has x xs, is)
  | inr later ↦ let rest = number_is xs site k later in (rest.0, or_right (same rest.0 x) (has xs rest.0) rest.1, rest.2)
]

number_there : (xs : List Entry) (x : Entry) (site k : ℕ) → has xs x ≡ true → is_number site k x ≡ true → has_number xs site k ≡ true
number_there [] x site k here is = absurd (false≢true here)
number_there (y ∷ ys) x site k here is = elim (or_cases (same x y) (has ys x) here) [
  | inl one ↦ or_left (is_number site k y) (has_number ys site k) (subst (λ (e : Entry). is_number site k e ≡ true) (same-is x y one) is)
  | inr later ↦ or_right (is_number site k y) (has_number ys site k) (number_there ys x site k later is)
]

-- where no two clash, a site's number is one entry's
number_held : (xs : List Entry) (z : Entry) → ((x : Entry) → has xs x ≡ true → clash z x ≡ false) → has_number xs z.site z.seq ≡ true → has xs z ≡ true
number_held [] z free here = absurd (false≢true here)
number_held (x ∷ xs) z free here = elim (or_cases (is_number z.site z.seq x) (has_number xs z.site z.seq) here) [
  | inl is ↦ or_left (same z x) (has xs z) (one (free x (head_has x xs)) is)
  | inr later ↦ or_right (same z x) (has xs z) (number_held xs z (λ y held. free y (or_right (same y x) (has xs y) held)) later)
]
  where
    one : clash z x ≡ false → (eqb x.site z.site && eqb x.seq z.seq) ≡ true → same z x ≡ true
    one free here = grind (arith, nat_tests)

-- a site's numbers behind one of its entries are higher
higher : (y : Entry) (ys : List Entry) (k : ℕ) → list_all (apart y) ys ≡ true → has_number ys y.site k ≡ true → y.seq < k
higher y [] k all here = absurd (false≢true here)
higher y (x ∷ xs) k all here = elim (or_cases (is_number y.site k x) (has_number xs y.site k) here) [
  | inl is ↦ above (first_holds (apart y x) (list_all (apart y) xs) all) is
  | inr later ↦ higher y xs k (rest_holds (apart y x) (list_all (apart y) xs) all) later
]
  where
    above : apart y x ≡ true → (eqb x.site y.site && eqb x.seq k) ≡ true → y.seq < k
    above behind here = grind (arith, nat_tests)

-- ---- a filter leaves a set

all-filter : (q p : Entry → Bool) (xs : List Entry) → list_all q xs ≡ true → list_all q (filter p xs) ≡ true
all-filter q p [] all = refl
all-filter q p (x ∷ xs) all = elim (p x) as (λ b. list_all q (cond b (x ∷ filter p xs) (filter p xs)) ≡ true) [
  | true ↦ and_from (q x) (list_all q (filter p xs)) (first_holds (q x) (list_all q xs) all) (all-filter q p xs (rest_holds (q x) (list_all q xs) all))
  | false ↦ all-filter q p xs (rest_holds (q x) (list_all q xs) all)
]

pub set-filter : (p : Entry → Bool) (xs : List Entry) → is_set xs ≡ true → is_set (filter p xs) ≡ true
set-filter p [] set = refl
set-filter p (x ∷ xs) set = elim (p x) as (λ b. is_set (cond b (x ∷ filter p xs) (filter p xs)) ≡ true) [
  | true ↦ and_from (list_all (apart x) (filter p xs)) (is_set (filter p xs)) (all-filter (apart x) p xs (first_holds (list_all (apart x) xs) (is_set xs) set)) (set-filter p xs (rest_holds (list_all (apart x) xs) (is_set xs) set))
  | false ↦ set-filter p xs (rest_holds (list_all (apart x) xs) (is_set xs) set)
]

-- ---- entries without a gap follow

-- above what the vector counts, a site's entries in the list have no gap
abbrev pub IsFilled : VersionVector → ℕ → List Entry → Type 0
IsFilled v site all = (y : Entry) → has all y ≡ true → y.site ≡ site → (k : ℕ) → number_of v site < k → k + 1 ≡ y.seq → has_number all site k ≡ true

-- the numbers of the site so far
abbrev pub AreSeen : ℕ → List Entry → List Entry → Type 0
AreSeen site done earlier = (k : ℕ) → has_number done site k ≡ true → k ≤ last_seq site earlier

not_less : (b : Bool) (m n : ℕ) → n ≤ cond b (max m n) n
not_less true m n = omega arith
not_less false m n = omega arith

within : (b : Bool) (m n k : ℕ) → b ≡ true → m ≡ k → k ≤ cond b (max m n) n
within true m n k is same = omega (arith, same)
within false m n k is same = absurd (false≢true is)

number_push : (xs : List Entry) (e : Entry) (site k : ℕ) → has_number (xs ++ e ∷ []) site k ≡ (has_number xs site k || is_number site k e)
number_push xs e site k = list_any-append (is_number site k) xs (e ∷ []) ∙ ap (λ (b : Bool). has_number xs site k || b) (or_false (is_number site k e))

pub seen_more : (site : ℕ) (done earlier : List Entry) (y : Entry) → AreSeen site done earlier → AreSeen site (done ++ y ∷ []) (earlier ++ y ∷ [])
seen_more site done earlier y seen k here =
    subst (λ (n : ℕ). k ≤ n) (sym (last_seq-append site earlier y)) (elim (or_cases (has_number done site k) (is_number site k y) (sym (number_push done y site k) ∙ here)) [
      | inl before ↦ let so = seen k before in let more = not_less (eqb y.site site) y.seq (last_seq site earlier) in omega (arith, so, more)
      | inr is ↦ within (eqb y.site site) y.seq (last_seq site earlier) k (first_holds (eqb y.site site) (eqb y.seq k) is) (eqb-true y.seq k (rest_holds (eqb y.site site) (eqb y.seq k) is))
    ])

seen_other : (site : ℕ) (done earlier : List Entry) (y : Entry) → (y.site ≡ site → ⊥) → AreSeen site done earlier → AreSeen site (done ++ y ∷ []) earlier
seen_other site done earlier y other seen k here = elim (or_cases (has_number done site k) (is_number site k y) (sym (number_push done y site k) ∙ here)) [
  | inl before ↦ seen k before
  | inr is ↦ absurd (other (eqb-true y.site site (first_holds (eqb y.site site) (eqb y.seq k) is)))
]

-- an entry of the site is at most the next one
pub at_most_next : (v : VersionVector) (site : ℕ) (all done earlier : List Entry) (y : Entry) (ys : List Entry) → IsFilled v site all → all ≡ done ++ y ∷ ys → list_all (apart y) ys ≡ true → AreSeen site done earlier → y.site ≡ site
    → y.seq ≤ max (number_of v site) (last_seq site earlier) + 1
at_most_next v site all done earlier y ys filled split behind seen at = elim (cases_Bool (leb y.seq (number_of v site + 1))) [
  | inl low ↦ let le = leb-true y.seq (number_of v site + 1) low in omega (arith, le)
  | inr high ↦
      let gt = leb-false y.seq (number_of v site + 1) high in
      let next : y.seq - 1 + 1 ≡ y.seq = omega (arith, gt) in
      let there : has all y ≡ true = subst (λ (l : List Entry). has l y ≡ true) (sym split) (has-append_right done (y ∷ ys) y (head_has y ys)) in
      let number : has_number (done ++ y ∷ ys) site (y.seq - 1) ≡ true = subst (λ (l : List Entry). has_number l site (y.seq - 1) ≡ true) split (filled y there at (y.seq - 1) (omega (arith, gt)) next) in
      elim (or_cases (has_number done site (y.seq - 1)) (has_number (y ∷ ys) site (y.seq - 1)) (sym (list_any-append (is_number site (y.seq - 1)) done (y ∷ ys)) ∙ number)) [
        | inl before ↦ let so = seen (y.seq - 1) before in omega (arith, so, gt)
        | inr rest ↦ elim (or_cases (is_number site (y.seq - 1) y) (has_number ys site (y.seq - 1)) rest) [
          | inl is ↦ let same_seq = eqb-true y.seq (y.seq - 1) (rest_holds (eqb y.site site) (eqb y.seq (y.seq - 1)) is) in absurd (omega (arith, same_seq, gt))
          | inr later ↦ let above = higher y ys (y.seq - 1) behind (subst (λ (n : ℕ). has_number ys n (y.seq - 1) ≡ true) (sym at) later) in absurd (omega (arith, above, gt))
        ]
      ]
]

pub must_follow : (v : VersionVector) (site : ℕ) (earlier : List Entry) (y : Entry) → y.site ≡ site → y.seq ≤ max (number_of v site) (last_seq site earlier) + 1 → follows v earlier y ≡ true
must_follow v site earlier y at le =
    le-leb y.seq (max (number_of v y.site) (last_seq y.site earlier) + 1) (subst (λ (n : ℕ). y.seq ≤ max (number_of v n) (last_seq n earlier) + 1) (sym at) le)

all_follow : (v : VersionVector) (site : ℕ) (all done earlier rest : List Entry) → IsFilled v site all → all ≡ done ++ rest → is_set rest ≡ true → AreSeen site done earlier → (e : Entry) → e.site ≡ site → has rest e ≡ true
    → has (in_sequence v earlier rest) e ≡ true
all_follow v site all done earlier [] filled split set seen e at here = absurd (false≢true here)
all_follow v site all done earlier (y ∷ ys) filled split set seen e at here =
    let behind = first_holds (list_all (apart y) ys) (is_set ys) set in
    let later_set = rest_holds (list_all (apart y) ys) (is_set ys) set in
    let further : all ≡ (done ++ y ∷ []) ++ ys = split ∙ sym (append_assoc done (y ∷ []) ys) in
    elim (cases_Bool (follows v earlier y)) [
      | inl does ↦ subst (λ (l : List Entry). has l e ≡ true) (sym (in_step v earlier y ys true does)) (elim (or_cases (same e y) (has ys e) here) [
        | inl is ↦ or_left (same e y) (has (in_sequence v (earlier ++ y ∷ []) ys) e) is
        | inr later ↦ or_right (same e y) (has (in_sequence v (earlier ++ y ∷ []) ys) e)
            (all_follow v site all (done ++ y ∷ []) (earlier ++ y ∷ []) ys filled further later_set (seen_more site done earlier y seen) e at later)
      ])
      | inr does_not ↦
          let other : y.site ≡ site → ⊥ = λ at_y. false≢true (sym does_not ∙ must_follow v site earlier y at_y (at_most_next v site all done earlier y ys filled split behind seen at_y)) in
          subst (λ (l : List Entry). has l e ≡ true) (sym (in_step v earlier y ys false does_not)) (elim (or_cases (same e y) (has ys e) here) [
            | inl is ↦ absurd (other (sym (ap (λ (x : Entry). x.site) (same-is e y is)) ∙ at))
            | inr later ↦ all_follow v site all (done ++ y ∷ []) earlier ys filled further later_set (seen_other site done earlier y other seen) e at later
          ])
    ]

-- ---- what is sent of a site comes

lacks_not : (v : VersionVector) (x : Entry) (site k : ℕ) → is_number site k x ≡ true → k ≤ number_of v site → lacks v x ≡ false
lacks_not v x site k is le =
    let at = eqb-true x.site site (first_holds (eqb x.site site) (eqb x.seq k) is) in
    let number = eqb-true x.seq k (rest_holds (eqb x.site site) (eqb x.seq k) is) in
    let here : k ≤ number_of v x.site = subst (λ (n : ℕ). k ≤ number_of v n) (sym at) le in
    le-ltb (number_of v x.site) x.seq (omega (arith, number, here))

lacks_so : (v : VersionVector) (x : Entry) (site k : ℕ) → is_number site k x ≡ true → number_of v site < k → lacks v x ≡ true
lacks_so v x site k is lt =
    let at = eqb-true x.site site (first_holds (eqb x.site site) (eqb x.seq k) is) in
    let number = eqb-true x.seq k (rest_holds (eqb x.site site) (eqb x.seq k) is) in
    let here : number_of v x.site < k = subst (λ (n : ℕ). number_of v n < k) (sym at) lt in
    lt-ltb (number_of v x.site) x.seq (omega (arith, number, here))

counted_at : (v : VersionVector) (x : Entry) (site : ℕ) → x.site ≡ site → lacks v x ≡ false → x.seq ≤ number_of v site
counted_at v x site at is = subst (λ (n : ℕ). x.seq ≤ number_of v n) at (ltb-false (number_of v x.site) x.seq is)

-- the site is not among these
abbrev pub IsNotIn : List ℕ → ℕ → Type 0
IsNotIn sites site = list_any (λ n. eqb n site) sites ≡ false

module _ (here there : List ℕ) (own other : VersionVector) (xs : List Entry) (site : ℕ) (in_here : IsNotIn here site) (in_there : IsNotIn there site) where
  -- what comes of it
  abbrev come : List Entry
  come = of_others here (sent there own other xs)

  kept_at : (sites : List ℕ) (x : Entry) → IsNotIn sites site → x.site ≡ site → not (is_left_out sites x) ≡ true
  kept_at sites x in' at = subst (λ (n : ℕ). not (list_any (λ m. eqb m n) sites) ≡ true) (sym at) (ap not in')

  does_come : (x : Entry) → has xs x ≡ true → x.site ≡ site → lacks other x ≡ true → lacks own x ≡ false → has come x ≡ true
  does_come x held at lacked counted =
      let after = has-filter (lacks other) x xs ∙ and_from (lacks other x) (has xs x) lacked held in
      let kept : is_in_scope there own x ≡ true = and_from (not (lacks own x)) (not (is_left_out there x)) (ap not counted) (kept_at there x in_there at) in
      let was = has-filter (is_in_scope there own) x (filter (lacks other) xs) ∙ and_from (is_in_scope there own x) (has (filter (lacks other) xs) x) kept after in
      has-filter (λ e. not (is_left_out here e)) x (sent there own other xs) ∙ and_from (not (is_left_out here x)) (has (sent there own other xs) x) (kept_at here x in_here at) was

  pub filled : HasAll xs site (number_of own site) → IsFilled other site come
  filled all y y_comes at k gt next =
      let m = of_sent here there own other xs y y_comes in
      let high : y.seq ≤ number_of own site = counted_at own y site at m.counted in
      let le : k ≤ number_of own site = omega (arith, next, high) in
      let found = number_is xs site k (all k (omega (arith, gt)) le) in
      let at_found = eqb-true found.0.site site (first_holds (eqb found.0.site site) (eqb found.0.seq k) found.2) in
      number_there come found.0 site k (does_come found.0 found.1 at_found (lacks_so other found.0 site k found.2 gt) (lacks_not own found.0 site k found.2 le)) found.2

  follows_whole : HasAll xs site (number_of own site) → is_set xs ≡ true → (e : Entry) → e.site ≡ site → has come e ≡ true → has (in_sequence other [] come) e ≡ true
  follows_whole all set e at comes =
      let come_set : is_set come ≡ true = set-filter (λ x. not (is_left_out here x)) (sent there own other xs) (set-filter (is_in_scope there own) (filter (lacks other) xs) (set-filter (lacks other) xs set)) in
      all_follow other site come [] [] come (filled all) refl come_set (λ k none. absurd (false≢true none)) e at comes

arrives : (s : Seen) (c : MeetingScope) (left : List ℕ) (own : VersionVector) (xs : List Entry) (r : Received) (after : Seen) (e : Entry)
    → IsSound s → Receives s c (sent left own c.vector xs) r after → IsVector s.entries c.vector → is_set xs ≡ true → IsNotIn c.left_out.items e.site → IsNotIn left e.site
    → HasAll xs e.site (number_of own e.site) → ((x : Entry) → has s.entries x ≡ true → clash e x ≡ false) → 1 ≤ e.seq → lacks own e ≡ false → has xs e ≡ true → has after.entries e ≡ true
arrives s c left own xs r after e sound receives is set in_here in_there all free low counted held =
    let others = of_others c.left_out.items (sent left own c.vector xs) in
    let one : receives.vector ≡ c.vector = vector_is_one s.entries receives.vector c.vector receives.own is in
    took s (in_sequence receives.vector [] others) r.taken after e sound.set receives.takes ∙ elim (cases_Bool (has s.entries e)) [
      | inl there ↦ or_left (has s.entries e) (has (in_sequence receives.vector [] others) e) there
      | inr none ↦
          let lacked : lacks c.vector e ≡ true = elim (cases_Bool (lacks c.vector e)) [
            | inl so ↦ so
            | inr known ↦ absurd (false≢true (sym none ∙ number_held s.entries e free ((is.numbers e.site).all e.seq low (counted_at c.vector e e.site refl known))))
          ] in
          let comes = does_come c.left_out.items left own c.vector xs e.site in_here in_there e held refl lacked counted in
          or_right (has s.entries e) (has (in_sequence receives.vector [] others) e)
          (subst (λ (v : VersionVector). has (in_sequence v [] others) e ≡ true) (sym one) (follows_whole c.left_out.items left own c.vector xs e.site in_here in_there all set e refl comes))
    ]

-- ---- both sites

both_ways : (a b : Bool) → (a ≡ true → b ≡ true) → (b ≡ true → a ≡ true) → a ≡ b
both_ways true b f g = sym (f refl)
both_ways false true f g = absurd (false≢true (g refl))
both_ways false false f g = refl

-- what comes was held there
came : (s : Seen) (c : MeetingScope) (left : List ℕ) (own : VersionVector) (xs : List Entry) (r : Received) (after : Seen) (e : Entry) → IsSound s → Receives s c (sent left own c.vector xs) r after → has after.entries e ≡ true
    → (has s.entries e || has xs e) ≡ true
came s c left own xs r after e sound receives here =
    let batch = taken c.left_out.items receives.vector (sent left own c.vector xs) in
    elim (or_cases (has s.entries e) (has batch e) (sym (took s batch r.taken after e sound.set receives.takes) ∙ here)) [
      | inl held ↦ or_left (has s.entries e) (has xs e) held
      | inr new ↦ or_right (has s.entries e) (has xs e) (moved c.left_out.items left receives.vector own c.vector xs e new).held
    ]

still_held : (s : Seen) (c : MeetingScope) (es : List Entry) (r : Received) (after : Seen) (e : Entry) → IsSound s → Receives s c es r after → has s.entries e ≡ true → has after.entries e ≡ true
still_held s c es r after e sound receives held =
    let batch = taken c.left_out.items receives.vector es in
    took s batch r.taken after e sound.set receives.takes ∙ or_left (has s.entries e) (has batch e) held

still_set : (s : Seen) (c : MeetingScope) (es : List Entry) (r : Received) (after : Seen) → IsSound s → Receives s c es r after → is_set after.entries ≡ true
still_set s c es r after sound receives =
    let batch = taken c.left_out.items receives.vector es in
    subst (λ (u : Seen). is_set u.entries ≡ true) (sym receives.takes.union) (joined s batch r.taken after sound.set receives.takes).set

from_one_on : (xs : List Entry) (e : Entry) → list_all in_range xs ≡ true → has xs e ≡ true → 1 ≤ e.seq
from_one_on xs e ranges here = let range : in_range e ≡ true = all_has in_range xs e ranges here in grind (arith, nat_tests)

counts_all : (xs : List Entry) (v : VersionVector) (e : Entry) → IsVector xs v → HasNoGap e.site xs → has xs e ≡ true → lacks v e ≡ false
counts_all xs v e is gap here = le-ltb (number_of v e.site) e.seq ((is.numbers e.site).greatest e.seq (gap e here refl))

pub by_site : BySite
by_site c d s t gains gives after other sound_s sound_t is_c is_d meets e out gap_s gap_t free =
    let in_c : IsNotIn c.left_out.items e.site = first_fails (is_left_out c.left_out.items e) (is_left_out d.left_out.items e) out in
    let in_d : IsNotIn d.left_out.items e.site = rest_fails (is_left_out c.left_out.items e) (is_left_out d.left_out.items e) out in
    let sent_first = sent d.left_out.items d.vector c.vector t.entries in
    let first : has after.entries e ≡ (has s.entries e || has t.entries e) = both_ways (has after.entries e) (has s.entries e || has t.entries e)
    (came s c d.left_out.items d.vector t.entries gains after e sound_s meets.first)
    (λ one. elim (or_cases (has s.entries e) (has t.entries e) one) [
      | inl held ↦ still_held s c sent_first gains after e sound_s meets.first held
      | inr there ↦ arrives s c d.left_out.items d.vector t.entries gains after e sound_s meets.first is_c sound_t.set in_c in_d (is_d.numbers e.site).all
          (λ x held. free e x (has-append_right s.entries t.entries e there) (has-append_left s.entries t.entries x held) refl)
          (from_one_on t.entries e sound_t.ranges there) (counts_all t.entries d.vector e is_d gap_t there) there
    ]) in
    let counted = counted_stays s.entries after.entries c.vector (λ x held. still_held s c sent_first gains after x sound_s meets.first held) (λ n. (is_c.numbers n).all) in
    let second : has other.entries e ≡ (has s.entries e || has t.entries e) = both_ways (has other.entries e) (has s.entries e || has t.entries e)
    (λ here. elim (or_cases (has t.entries e) (has after.entries e) (came t d c.left_out.items c.vector after.entries gives other e sound_t meets.second here)) [
      | inl held ↦ or_right (has s.entries e) (has t.entries e) held
      | inr new ↦ sym first ∙ new
    ])
    (λ one. elim (or_cases (has s.entries e) (has t.entries e) one) [
      | inl held ↦ arrives t d c.left_out.items c.vector after.entries gives other e sound_t meets.second is_d (still_set s c sent_first gains after sound_s meets.first) in_d in_c (counted e.site)
          (λ x there. free e x (has-append_left s.entries t.entries e held) (has-append_right s.entries t.entries x there) refl)
          (from_one_on s.entries e sound_s.ranges held) (counts_all s.entries c.vector e is_c gap_s held) (still_held s c sent_first gains after e sound_s meets.first held)
      | inr there ↦ still_held t d (sent c.left_out.items c.vector d.vector after.entries) gives other e sound_t meets.second there
    ]) in
    (first, second)
