-- Two sites with room for the union of what they hold, of which no two entries clash.
use Rattle.std.proofs.Common.{◌≡◌, ◌≤◌, ◌⊎◌, inl, inr, ℕ, ◌+◌, true, List, ◌++◌, length, Ok, Err, refl, sym, ap, subst, ◌∙◌, arith}
use mathlib.Core.Bool.{false≢true}
use Rattle.std.specs.List.{list_all}
use Rattle.std.proofs.lemmas.Bool.{and_parts, or_cases}
use Rattle.std.proofs.lemmas.List.Elements.{All-filter}
use Rattle.std.proofs.lemmas.List.Folds.{list_any-append}
use Rattle.std.proofs.lemmas.List.Sums.{AllPass-from_list_all, list_all-from_AllPass}
use Rattle.std.proofs.lemmas.Map.Views.{any-filter_same}
use Rattle.td_stamps.specs.Checks.{check_of, fresh_count}
use Rattle.td_stamps.specs.Entries.{in_range, same}
use Rattle.td_stamps.specs.Sets.{NoClash, has, is_set, union}
use Rattle.td_stamps.specs.Vectors.{HasCounted, VersionVector, after_vector, lacks}
use Rattle.td_stamps.specs.declared.entry.Entry.{Entry}
use Rattle.td_stamps.specs.declared.errors.CheckError.{CheckError}
use Rattle.td_stamps.specs.declared.errors.CheckError.TheVariants as check
use Rattle.td_stamps.proofs.EntryLemmas.{same-is}
use Rattle.td_stamps.proofs.Gaps.{after_completes}
use Rattle.td_stamps.proofs.Merges.{NoClash-fewer, fresh_is_growth, has-append_left, has-append_right, no_first_clash}
use Rattle.td_stamps.proofs.SetLemmas.{room_ok}
use Rattle.td_replica.specs.Seen.{Seen}
use Rattle.td_replica.specs.declared.refusal.TakeError.{TakeError}
use Rattle.td_replica.specs.declared.refusal.TakeError.TheVariants as take_error
use Rattle.td_meeting.specs.Meetings.{AreOpen, AreTwo, IsBatch, MeetsNot, Stops, TakesFrom}
use Rattle.td_meeting.specs.declared.error.MeetingError.{MeetingError}
use Rattle.td_meeting.specs.declared.error.MeetingError.TheVariants.{Broken, Frame, OtherScript, OutOfMemory, SameSite, Take, WriteFault}
use Rattle.td_meeting.proofs.Unions.{adds_nothing, free_then, takes_union}
use Rattle.td_convergence.specs.Laws.{RoomMeets}
use Rattle.td_convergence.proofs.Joining.{IsHeld, holds_both}

-- why a site takes nothing though the batch is at no fault
abbrev IsNoFault : TakeError → Type 0
IsNoFault take_error.BadEntry = ⊥
IsNoFault (take_error.Clash site seq) = ⊥
IsNoFault take_error.Full = ⊥
IsNoFault e = Unit {0}

-- ---- one take

module _ (s t : Seen) (set : is_set s.entries ≡ true) (ranges : list_all in_range t.entries ≡ true)
    (free : NoClash (s.entries ++ t.entries)) (room : length (union s.entries t.entries) ≤ s.limit) where
  -- what is sent is held there
  of_both : (v : VersionVector) (e : Entry) → has (s.entries ++ after_vector v t.entries) e ≡ true
      → has (s.entries ++ t.entries) e ≡ true
  of_both v e held =
      let sent = after_vector v t.entries in
      let one_test = λ (x : Entry) (is : same e x ≡ true). ap (lacks v) (sym (same-is e x is)) in
      let is_sent = any-filter_same (same e) (lacks v) (lacks v e) one_test t.entries in
      elim (or_cases (has s.entries e) (has sent e) (sym (list_any-append (same e) s.entries sent) ∙ held)) [
        | inl own ↦ has-append_left s.entries t.entries e own
        | inr comes ↦
            has-append_right s.entries t.entries e
            (and_parts (lacks v e) (has t.entries e) (sym is_sent ∙ comes)).1
      ]

  -- and so it fits
  fits : (v : VersionVector) → HasCounted s.entries v
      → check_of s.entries s.limit (after_vector v t.entries) ≡ Ok (fresh_count s.entries (after_vector v t.entries))
  fits v counted =
      let sent = after_vector v t.entries in
      let in_ranges : list_all in_range sent ≡ true =
      list_all-from_AllPass in_range sent
      (All-filter (lacks v) (λ e. in_range e ≡ true) t.entries (AllPass-from_list_all in_range t.entries ranges)) in
      let apart : NoClash (s.entries ++ sent) =
      NoClash-fewer (s.entries ++ sent) (s.entries ++ t.entries) (of_both v) free in
      let clear = no_first_clash s.entries sent apart in
      let size = fresh_is_growth s.entries sent set apart in
      let whole = ap (λ (l : List Entry). length l) (after_completes s.entries t.entries v set ranges free counted) in
      let fit : length s.entries + fresh_count s.entries sent ≤ s.limit = omega (arith, room, size, whole) in
      rw (in_ranges, clear) (room_ok (length s.entries) s.limit (fresh_count s.entries sent) fit)

  never_refused : (batch : List Entry) (e : CheckError) → IsBatch s t batch
      → check_of s.entries s.limit batch ≡ Err e → ⊥
  never_refused batch e lacked refused =
      let fit = fits lacked.vector (λ site. (lacked.first.numbers site).all) in
      let of_sent = ap (check_of s.entries s.limit) (sym lacked.rest) ∙ refused in
      let both : Ok (fresh_count s.entries (after_vector lacked.vector t.entries)) ≡ Err e = sym fit ∙ of_sent in
      cc

  take_finds_none : (e : TakeError) (after : Seen) → TakesFrom s t (Err e) after → IsNoFault e
  take_finds_none take_error.Broken after told = tt
  take_finds_none take_error.BadEntry after told = never_refused told.batch check.BadEntry told.lacks told.takes.1
  take_finds_none (take_error.Clash site seq) after told =
      never_refused told.batch (check.Clash site seq) told.lacks told.takes.1
  take_finds_none take_error.Full after told = never_refused told.batch check.Full told.lacks told.takes.1
  take_finds_none take_error.OutOfMemory after told = tt
  take_finds_none take_error.JournalWrite after told = tt

-- ---- a meeting

module _ (s t : Seen) (held_s : IsHeld s.entries) (held_t : IsHeld t.entries) (free : NoClash (s.entries ++ t.entries))
    (room_s : length (union s.entries t.entries) ≤ s.limit)
    (room_t : length (union s.entries t.entries) ≤ t.limit) where
  no_fault_stops : (e : TakeError) (took : ℕ) (after other : Seen) → Stops s t e took after other → IsNoFault e
  no_fault_stops e took after other told = elim told [
    | inl first ↦ take_finds_none s t held_s.set held_t.ranges free room_s e after first.0
    | inr (x, first, second, _) ↦
        let is : after.entries ≡ union s.entries t.entries =
        takes_union s t x after held_s.set held_t.ranges free first in
        let one = holds_both s t after held_s held_t free is in
        let apart : NoClash (t.entries ++ after.entries) =
        subst (λ (l : List Entry). NoClash (t.entries ++ l)) (sym is)
        (free_then s.entries t.entries held_s.set held_t.set free) in
        let whole = ap (union t.entries) is ∙ adds_nothing s.entries t.entries held_s.set held_t.set free in
        let room : length (union t.entries after.entries) ≤ t.limit =
        subst (λ (l : List Entry). length l ≤ t.limit) (sym whole) room_t in
        take_finds_none t after held_t.set one.held.ranges apart room e other second
  ]

  only_want_stops : AreOpen s t → AreTwo s t → (e : MeetingError) (took : ℕ) (after other : Seen)
      → MeetsNot s t e took after other → (e ≡ OutOfMemory) ⊎ (e ≡ Take take_error.JournalWrite)
  only_want_stops live two Broken took after other told = elim told.0 [
    | inl closed ↦ absurd (false≢true (sym closed ∙ live.0))
    | inr closed ↦ absurd (false≢true (sym closed ∙ live.1))
  ]
  only_want_stops live two OutOfMemory took after other told = inl refl
  only_want_stops live two (Frame e n) took after other told = absurd told
  only_want_stops live two OtherScript took after other told = absurd (told.1 two.0)
  only_want_stops live two SameSite took after other told = absurd (two.1 told.2)
  only_want_stops live two (WriteFault n) took after other told = absurd told
  only_want_stops live two (Take take_error.Broken) took after other told = absurd told
  only_want_stops live two (Take take_error.BadEntry) took after other told =
      absurd (no_fault_stops take_error.BadEntry took after other told.1)
  only_want_stops live two (Take (take_error.Clash site seq)) took after other told =
      absurd (no_fault_stops (take_error.Clash site seq) took after other told.1)
  only_want_stops live two (Take take_error.Full) took after other told =
      absurd (no_fault_stops take_error.Full took after other told.1)
  only_want_stops live two (Take take_error.OutOfMemory) took after other told = absurd told
  only_want_stops live two (Take take_error.JournalWrite) took after other told = inr refl

pub room_meets : RoomMeets
room_meets s t refusal after other sound_s sound_t live two free room_s room_t told =
    let held_s : IsHeld s.entries = record { set = sound_s.set; ranges = sound_s.ranges } in
    let held_t : IsHeld t.entries = record { set = sound_t.set; ranges = sound_t.ranges } in
    only_want_stops s t held_s held_t free room_s room_t live two refusal.error refusal.first_took after other told
