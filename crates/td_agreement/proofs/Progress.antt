-- What cut meetings leave and bring.
use Rattle.std.proofs.Common.{◌≡◌, ◌≤◌, ℕ, ◌+◌, Bool, true, false, not, ◌&&◌, ◌||◌, cond, if◌then◌else◌, List, [], ◌∷◌}
use Rattle.std.proofs.Common.{◌++◌, length, take, drop, inl, inr, refl, sym, ap, subst, ◌∙◌, arith}
use mathlib.Core.Bool.{false≢true}
use Rattle.std.specs.List.{filter, list_all}
use Rattle.std.proofs.lemmas.Bool.{and_from, or_cases, or_left, or_right}
use Rattle.std.proofs.lemmas.List.{take-append-drop}
use Rattle.std.proofs.lemmas.List.Filters.{length-filter_both}
use Rattle.std.proofs.lemmas.List.Folds.{list_any-append}
use Rattle.td_stamps.specs.Checks.{fresh_count, fresh_of}
use Rattle.td_stamps.specs.Entries.{same}
use Rattle.td_stamps.specs.Sets.{apart, has, is_set}
use Rattle.td_stamps.specs.Vectors.{VersionVector, after_vector, lacks}
use Rattle.td_stamps.specs.declared.entry.Entry.{Entry}
use Rattle.td_stamps.proofs.EntryLemmas.{same-is}
use Rattle.td_stamps.proofs.Fresh.{fresh_are_counted, fresh_are_new}
use Rattle.td_stamps.proofs.Known.{counted}
use Rattle.td_stamps.proofs.Listings.{set_front}
use Rattle.td_stamps.proofs.Merges.{has-append_left, head_has, rest_lacks, same_set}
use Rattle.td_stamps.proofs.SetLemmas.{first_holds, or_false, rest_holds}
use Rattle.td_replica.specs.Seen.{Seen}
use Rattle.td_replica.specs.declared.calls.Taken.{Taken}
use Rattle.td_agreement.specs.Progress.{CutMeetingBringsNew, CutMeetingKeeps, CutMeetingsEnd, CutMeetingsProgress}
use Rattle.td_agreement.specs.Progress.{TakesOften, TakesSome, lacking, next_came, none_came}
use Rattle.td_agreement.proofs.Interleaved.{has-filter, joined, sent_is, took}

-- ---- filters of a set

all-filter : (q p : Entry → Bool) (xs : List Entry) → list_all q xs ≡ true → list_all q (filter p xs) ≡ true
all-filter q p [] all = refl
all-filter q p (x ∷ xs) all =
    let rest = all-filter q p xs (rest_holds (q x) (list_all q xs) all) in
    elim (p x) as (λ b. list_all q (cond b (x ∷ filter p xs) (filter p xs)) ≡ true) [
      | true ↦ and_from (q x) (list_all q (filter p xs)) (first_holds (q x) (list_all q xs) all) rest
      | false ↦ rest
    ]

-- what passes a test, of a set, is a set
set-filter : (p : Entry → Bool) (xs : List Entry) → is_set xs ≡ true → is_set (filter p xs) ≡ true
set-filter p [] set = refl
set-filter p (x ∷ xs) set =
    let behind = all-filter (apart x) p xs (first_holds (list_all (apart x) xs) (is_set xs) set) in
    let rest = set-filter p xs (rest_holds (list_all (apart x) xs) (is_set xs) set) in
    elim (p x) as (λ b. is_set (cond b (x ∷ filter p xs) (filter p xs)) ≡ true) [
      | true ↦ and_from (list_all (apart x) (filter p xs)) (is_set (filter p xs)) behind rest
      | false ↦ rest
    ]

-- tests that agree on a list's members
filter_alike : (p q : Entry → Bool) (xs : List Entry) → ((z : Entry) → has xs z ≡ true → p z ≡ q z)
    → filter p xs ≡ filter q xs
filter_alike p q [] alike = refl
filter_alike p q (x ∷ xs) alike =
    ap (λ b. cond b (x ∷ filter p xs) (filter p xs)) (alike x (head_has x xs))
    ∙ ap (λ l. cond (q x) (x ∷ l) l) (filter_alike p q xs (λ z here. alike z (or_right (same z x) (has xs z) here)))

-- ---- what is fresh of a set

abbrev unseen : List Entry → Entry → Bool
unseen seen z = not (has seen z)

-- a set has each entry once: those are fresh that were not seen
fresh_are_unseen : (seen xs : List Entry) → is_set xs ≡ true → fresh_of seen xs ≡ filter (unseen seen) xs
fresh_are_unseen seen [] set = refl
fresh_are_unseen seen (x ∷ xs) set =
    let later = fresh_are_unseen (seen ++ x ∷ []) xs (rest_holds (list_all (apart x) xs) (is_set xs) set) in
    let alike = filter_alike (unseen (seen ++ x ∷ [])) (unseen seen) xs other in
    ap (λ l. (if has seen x then [] else x ∷ []) ++ l) (later ∙ alike) ∙ first (has seen x) (filter (unseen seen) xs)
  where
    first : (b : Bool) (l : List Entry) → (if b then [] else x ∷ []) ++ l ≡ cond (not b) (x ∷ l) l
    first true l = refl
    first false l = refl

    differs : (z : Entry) → has xs z ≡ true → same z x ≡ false
    differs z here = elim (same z x) as (λ b. same z x ≡ b → b ≡ false) [
      | true ↦ λ is.
          let lacked = rest_lacks x xs (first_holds (list_all (apart x) xs) (is_set xs) set) in
          absurd (false≢true (sym lacked ∙ subst (λ (v : Entry). has xs v ≡ true) (same-is z x is) here))
      | false ↦ λ _. refl
    ] refl

    other : (z : Entry) → has xs z ≡ true → unseen (seen ++ x ∷ []) z ≡ unseen seen z
    other z here =
        let both = list_any-append (same z) seen (x ∷ []) in
        ap not (both ∙ ap (λ b. has seen z || (b || false)) (differs z here) ∙ or_false (has seen z))

unseen_count : (seen xs : List Entry) → is_set xs ≡ true → length (filter (unseen seen) xs) ≡ fresh_count seen xs
unseen_count seen xs set = ap length (sym (fresh_are_unseen seen xs set)) ∙ fresh_are_counted seen xs

-- of a set some entries come, and m has these and those of a
module _ (a b some m : List Entry) (set : is_set b ≡ true) (set_some : is_set some ≡ true)
    (within : (z : Entry) → has some z ≡ true → has b z ≡ true)
    (both : (z : Entry) → has m z ≡ (has a z || has some z)) where
  abbrev lacked : List Entry
  lacked = filter (unseen a) b

  in_some : filter (has some) lacked ≡ filter (unseen a) some
  in_some =
      let set_lacked = set-filter (unseen a) b set in
      same_set (filter (has some) lacked) (filter (unseen a) some)
      (set-filter (has some) lacked set_lacked) (set-filter (unseen a) some set_some)
      (λ z. has-filter (has some) z lacked ∙ ap (λ t. has some z && t) (has-filter (unseen a) z b)
      ∙ tests (has a z) (has b z) (has some z) (within z) ∙ sym (has-filter (unseen a) z some))
    where
      tests : (i j k : Bool) → (k ≡ true → j ≡ true) → (k && (not i && j)) ≡ (not i && k)
      tests true j true h = refl
      tests true j false h = refl
      tests false j true h = h refl
      tests false j false h = refl

  in_neither : filter (unseen some) lacked ≡ filter (unseen m) b
  in_neither =
      let set_lacked = set-filter (unseen a) b set in
      same_set (filter (unseen some) lacked) (filter (unseen m) b)
      (set-filter (unseen some) lacked set_lacked) (set-filter (unseen m) b set)
      (λ z. has-filter (unseen some) z lacked ∙ ap (λ t. unseen some z && t) (has-filter (unseen a) z b)
      ∙ tests (has a z) (has b z) (has some z) ∙ ap (λ t. not t && has b z) (sym (both z))
      ∙ sym (has-filter (unseen m) z b))
    where
      tests : (i j k : Bool) → (not k && (not i && j)) ≡ (not (i || k) && j)
      tests true j true = refl
      tests true j false = refl
      tests false j true = refl
      tests false j false = refl

  -- m lacks fewer of the set than a did, by those that were fresh
  fewer_fresh : fresh_count m b + fresh_count a some ≡ fresh_count a b
  fewer_fresh =
      let parts = length-filter_both (has some) (unseen some) (λ z. refl) lacked in
      let came = ap length in_some ∙ unseen_count a some set_some in
      let left = ap length in_neither ∙ unseen_count m b set in
      let whole = unseen_count a b set in
      omega (arith, parts, came, left, whole)

-- ---- what comes

-- a front of what is sent by the vector
abbrev came : (Entry → Bool) → VersionVector → ℕ → List Entry → List Entry
came keep v n xs = take n (filter keep (after_vector v xs))

came_is : (keep : Entry → Bool) (v : VersionVector) (n : ℕ) (xs : List Entry) (z : Entry)
    → has (came keep v n xs) z ≡ true → (has xs z ≡ true) × (keep z ≡ true)
came_is keep v n xs z here =
    let sent = after_vector v xs in
    let of_front = has-append_left (came keep v n xs) (drop n (filter keep sent)) z here in
    let of_sent = subst (λ (l : List Entry). has l z ≡ true) (take-append-drop n (filter keep sent)) of_front in
    let both = sym (has-filter keep z sent) ∙ of_sent in
    ((sent_is v xs z (rest_holds (keep z) (has sent z) both)).1, first_holds (keep z) (has sent z) both)

set-came : (keep : Entry → Bool) (v : VersionVector) (n : ℕ) (xs : List Entry) → is_set xs ≡ true
    → is_set (came keep v n xs) ≡ true
set-came keep v n xs set =
    let sent = filter keep (after_vector v xs) in
    let set_sent : is_set sent ≡ true = set-filter keep (after_vector v xs) (set-filter (lacks v) xs set) in
    set_front (came keep v n xs) (drop n sent) (ap is_set (take-append-drop n sent) ∙ set_sent)

module _ (keep : Entry → Bool) (s t : Seen) (gains : Taken) (after : Seen) (set : is_set s.entries ≡ true)
    (some : TakesSome keep s t gains after) where
  abbrev batch : List Entry
  batch = came keep some.vector some.count t.entries

  set_after : is_set after.entries ≡ true
  set_after =
      let up = joined s batch gains after set some.takes in
      ap (λ (u : Seen). is_set u.entries) some.takes.union ∙ up.set

  of_kept : (z : Entry) → has batch z ≡ true → has (filter keep t.entries) z ≡ true
  of_kept z here =
      let is = came_is keep some.vector some.count t.entries z here in
      has-filter keep z t.entries ∙ and_from (keep z) (has t.entries z) is.1 is.0

  -- the site lacks fewer by as many as were fresh
  lacks_fewer : is_set t.entries ≡ true → lacking keep after t + gains.fresh ≡ lacking keep s t
  lacks_fewer set_t =
      let fresh = counted s.entries s.limit batch gains.fresh some.takes.fresh in
      let kept = filter keep t.entries in
      let set_kept = set-filter keep t.entries set_t in
      let set_batch = set-came keep some.vector some.count t.entries set_t in
      let has_both = λ (z : Entry). took s batch gains after z set some.takes in
      let fewer = fewer_fresh s.entries kept batch after.entries set_kept set_batch of_kept has_both in
      omega (arith, fresh, fewer)

-- ---- the laws

pub cut_meeting_keeps : CutMeetingKeeps
cut_meeting_keeps keep s t gains after sound some e =
    let batch = came keep some.vector some.count t.entries in
    let is = took s batch gains after e sound.set some.takes in (
      λ held. is ∙ or_left (has s.entries e) (has batch e) held,
      λ here. elim (or_cases (has s.entries e) (has batch e) (sym is ∙ here)) [
        | inl held ↦ inl held
        | inr new ↦ inr (came_is keep some.vector some.count t.entries e new)
      ],
    )

-- what comes is lacked by the vector
came_lacked : (keep : Entry → Bool) (v : VersionVector) (n : ℕ) (xs : List Entry) (z : Entry)
    → has (came keep v n xs) z ≡ true → lacks v z ≡ true
came_lacked keep v n xs z here =
    let sent = after_vector v xs in
    let of_front = has-append_left (came keep v n xs) (drop n (filter keep sent)) z here in
    let of_sent = subst (λ (l : List Entry). has l z ≡ true) (take-append-drop n (filter keep sent)) of_front in
    let both = sym (has-filter keep z sent) ∙ of_sent in
    (sent_is v xs z (rest_holds (keep z) (has sent z) both)).0

pub filter_all : (xs : List Entry) → filter (λ z. true) xs ≡ xs
filter_all [] = refl
filter_all (x ∷ xs) = ap (λ (l : List Entry). x ∷ l) (filter_all xs)

pub cut_meeting_brings_new : CutMeetingBringsNew
cut_meeting_brings_new keep s t gains after sound sound_t some counts =
    let batch = came keep some.vector some.count t.entries in
    let set_batch = set-came keep some.vector some.count t.entries sound_t.set in
    let fresh = counted s.entries s.limit batch gains.fresh some.takes.fresh in
    let alike = filter_alike (unseen s.entries) (λ z. true) batch new in
    sym (unseen_count s.entries batch set_batch ∙ fresh) ∙ ap length (alike ∙ filter_all batch)
  where
    new : (z : Entry) → has (came keep some.vector some.count t.entries) z ≡ true → unseen s.entries z ≡ true
    new z here = elim (has s.entries z) as (λ b. has s.entries z ≡ b → not b ≡ true) [
      | true ↦ λ held.
          let lacked = came_lacked keep some.vector some.count t.entries z here in
          absurd (false≢true (sym (counts z held) ∙ lacked))
      | false ↦ λ _. refl
    ] refl

progress : (keep : Entry → Bool) (t s after : Seen) (n : ℕ) → is_set s.entries ≡ true → is_set t.entries ≡ true
    → TakesOften keep t n s after → lacking keep after t + n ≤ lacking keep s t
progress keep t s after n set set_t none_came = omega arith
progress keep t s after n set set_t (next_came {n = m} {mid = mid} {gains = gains} some brings rest) =
    let fewer = lacks_fewer keep s t gains mid set some set_t in
    let later = progress keep t mid after m (set_after keep s t gains mid set some) set_t rest in
    omega (arith, fewer, later, brings)

pub cut_meetings_progress : CutMeetingsProgress
cut_meetings_progress keep t s after n sound sound_t often = progress keep t s after n sound.set sound_t.set often

pub cut_meetings_end : CutMeetingsEnd
cut_meetings_end keep t s after sound sound_t often e passes held =
    let kept = filter keep t.entries in
    let missing = fresh_of after.entries kept in
    let within = progress keep t s after (lacking keep s t) sound.set sound_t.set often in
    let counts = fresh_are_counted after.entries kept in
    let none : length missing ≡ 0 = omega (arith, within, counts) in
    let is_kept : has kept e ≡ true = has-filter keep e t.entries ∙ and_from (keep e) (has t.entries e) passes held in
    seen (has kept e) (has after.entries e) is_kept (sym (fresh_are_new after.entries kept e) ∙ no_entries missing none)
  where
    no_entries : (xs : List Entry) → length xs ≡ 0 → has xs e ≡ false
    no_entries [] none = refl
    no_entries (x ∷ xs) none = absurd (omega arith)

    seen : (a b : Bool) → a ≡ true → (a && not b) ≡ false → b ≡ true
    seen a true one h = refl
    seen true false one h = sym h
    seen false false one h = one
