-- What two sites hold behind a meeting whose steps have other calls between them.
use Rattle.std.proofs.Common.{◌≡◌, ◌≤◌, ℕ, Bool, true, not, ◌&&◌, ◌||◌, List, ◌++◌, length, Option, Some, None, Result, IsOk, inl, inr, refl, sym, ap, subst, ◌∙◌, append_assoc, arith}
use Rattle.std.specs.Io.KnownBytes.{Appends}
use Rattle.std.specs.List.{filter, list_all}
use Rattle.std.proofs.Math.Bool.{or_comm}
use Rattle.std.proofs.lemmas.Bool.{and_from, or_cases, or_left, or_right}
use Rattle.std.proofs.lemmas.Bool.Decides.{nat_tests}
use Rattle.std.proofs.lemmas.List.{append_cancel_left}
use Rattle.std.proofs.lemmas.List.Filters.{length-filter_both}
use Rattle.std.proofs.lemmas.List.Folds.{list_any-append}
use Rattle.std.proofs.lemmas.Map.Views.{any-filter_same}
use Rattle.td_stamps.specs.Entries.{in_range, same}
use Rattle.td_stamps.specs.Sets.{NoClash, has, is_set}
use Rattle.td_stamps.specs.Vectors.{IsVector, VersionVector, after_vector, lacks}
use Rattle.td_stamps.specs.declared.entry.Entry.{Entry}
use Rattle.td_stamps.specs.declared.errors.CheckError.{CheckError}
use Rattle.td_stamps.proofs.EntryLemmas.{same-is}
use Rattle.td_stamps.proofs.Gaps.{after_completes}
use Rattle.td_stamps.proofs.Merges.{NoClash-fewer, has-append_left, has-append_right, merged}
use Rattle.td_stamps.proofs.SetLemmas.{AddsUp, added, adds_up, first_holds, fits, rest_holds}
use Rattle.td_frames.specs.Reading.{most_entries}
use Rattle.td_frames.specs.declared.greeting.Greeting.{Greeting}
use Rattle.td_replica.specs.Calls.{TakesBatch}
use Rattle.td_replica.specs.Seen.{Seen, IsSound, is_limit}
use Rattle.td_replica.specs.declared.calls.Taken.{Taken}
use Rattle.td_meeting.specs.Reading.{Hears, ReadsStream}
use Rattle.td_meeting.specs.Steps.{AreSent, LinkData}
use Rattle.td_meeting.specs.Writing.{Greets, sends}
use Rattle.td_meeting.proofs.Carrying.{reads_same, same_entries}
use Rattle.td_meeting.proofs.Exchanged.{greeting_of, greets_read, sends_read_before}
use Rattle.td_agreement.specs.Interleaved.{Arrives, InterleavedMeetingKeepsAll, StillHolds}

-- ---- sets

pub has-filter : (p : Entry → Bool) (z : Entry) (xs : List Entry) → has (filter p xs) z ≡ (p z && has xs z)
has-filter p z xs = any-filter_same (same z) p (p z) (λ x is. ap p (sym (same-is z x is))) xs

-- what is sent is of the set, and the vector lacks it
pub sent_is : (v : VersionVector) (xs : List Entry) (z : Entry) → has (after_vector v xs) z ≡ true → (lacks v z ≡ true) × (has xs z ≡ true)
sent_is v xs z sent = let both = sym (has-filter (lacks v) z xs) ∙ sent in (first_holds (lacks v z) (has xs z) both, rest_holds (lacks v z) (has xs z) both)

is_sent : (v : VersionVector) (xs : List Entry) (z : Entry) → lacks v z ≡ true → has xs z ≡ true → has (after_vector v xs) z ≡ true
is_sent v xs z lacked held = has-filter (lacks v) z xs ∙ and_from (lacks v z) (has xs z) lacked held

-- an entry of the one set is in the other one, or is sent
held_or_sent :
    (a b : List Entry) (v : VersionVector) (e : Entry) → is_set a ≡ true → list_all in_range b ≡ true → NoClash (a ++ b) → IsVector a v → has b e ≡ true
    → (has a e || has (after_vector v b) e) ≡ true
held_or_sent a b v e set ranges free is held =
    let fewer : NoClash (a ++ after_vector v b) = NoClash-fewer (a ++ after_vector v b) (a ++ b) (λ z h. elim (or_cases (has a z) (has (after_vector v b) z) (sym (list_any-append (same z) a (after_vector v b)) ∙ h)) [
      | inl here ↦ has-append_left a b z here
      | inr sent ↦ has-append_right a b z (sent_is v b z sent).1
    ]) free in
    let part = merged a (after_vector v b) set fewer in
    let whole = merged a b set free in
    sym (part.members (same e)) ∙ ap (λ (l : List Entry). has l e) (after_completes a b v set ranges free (λ site. (is.numbers site).all)) ∙ whole.members (same e)
    ∙ or_right (has a e) (has b e) held

-- a site that took a batch has what it held, and the batch
pub joined : (s : Seen) (batch : List Entry) (t : Taken) (after : Seen) → is_set s.entries ≡ true → TakesBatch s batch t after → AddsUp s.entries s.entries batch
joined s batch t after set takes =
    let fit = fits s.entries s.limit batch (subst (λ (r : Result ℕ CheckError). IsOk r) (sym takes.fresh) refl) in
    adds_up s.entries s.entries batch (λ p. refl) set fit.clear

pub took : (s : Seen) (batch : List Entry) (t : Taken) (after : Seen) (e : Entry) → is_set s.entries ≡ true → TakesBatch s batch t after → has after.entries e ≡ (has s.entries e || has batch e)
took s batch t after e set takes = ap (λ (u : Seen). has u.entries e) takes.union ∙ (joined s batch t after set takes).members (same e)

swapped : (a b : List Entry) → NoClash (a ++ b) → NoClash (b ++ a)
swapped a b free = NoClash-fewer (b ++ a) (a ++ b) (λ z h. list_any-append (same z) a b ∙ or_comm (has a z) (has b z) ∙ sym (list_any-append (same z) b a) ∙ h) free

-- the first takes what the second sent by the vector of s, and the second what the first then sent by the vector of t
module _ (s s' t t' after other : Seen) (gains gives : Taken) (v w : VersionVector) (sound_s : IsSound s) (sound_s' : IsSound s') (sound_t : IsSound t) (sound_t' : IsSound t') (free : NoClash (s.entries ++ t.entries))
    (is_v : IsVector s.entries v) (is_w : IsVector t.entries w) (still_s : StillHolds s s') (still_t : StillHolds t t')
    (takes : TakesBatch s' (after_vector v t.entries) gains after) (taken : TakesBatch t' (after_vector w after.entries) gives other) (e : Entry) where
  first_has : (has s'.entries e || has (after_vector v t.entries) e) ≡ true → has after.entries e ≡ true
  first_has held = took s' (after_vector v t.entries) gains after e sound_s'.set takes ∙ held

  second_has : (has t'.entries e || has (after_vector w after.entries) e) ≡ true → has other.entries e ≡ true
  second_has held = took t' (after_vector w after.entries) gives other e sound_t'.set taken ∙ held

  own_first : has s.entries e ≡ true → has after.entries e ≡ true
  own_first own = first_has (or_left (has s'.entries e) (has (after_vector v t.entries) e) (still_s e own))

  own_second : has t.entries e ≡ true → has other.entries e ≡ true
  own_second own = second_has (or_left (has t'.entries e) (has (after_vector w after.entries) e) (still_t e own))

  in_first : (has s.entries e || has t.entries e) ≡ true → has after.entries e ≡ true
  in_first held = elim (or_cases (has s.entries e) (has t.entries e) held) [
    | inl own ↦ own_first own
    | inr new ↦ elim (or_cases (has s.entries e) (has (after_vector v t.entries) e) (held_or_sent s.entries t.entries v e sound_s.set sound_t.ranges free is_v new)) [
      | inl own ↦ own_first own
      | inr sent ↦ first_has (or_right (has s'.entries e) (has (after_vector v t.entries) e) sent)
    ]
  ]

  in_second : (has s.entries e || has t.entries e) ≡ true → has other.entries e ≡ true
  in_second held = elim (or_cases (has s.entries e) (has t.entries e) held) [
    | inl new ↦ elim (or_cases (has t.entries e) (has (after_vector w s.entries) e) (held_or_sent t.entries s.entries w e sound_t.set sound_s.ranges (swapped s.entries t.entries free) is_w new)) [
      | inl own ↦ own_second own
      | inr sent ↦
          let lacked = (sent_is w s.entries e sent).0 in
          second_has (or_right (has t'.entries e) (has (after_vector w after.entries) e) (is_sent w after.entries e lacked (own_first new)))
    ]
    | inr own ↦ own_second own
  ]

  both_have : has (s.entries ++ t.entries) e ≡ true → (has after.entries e ≡ true) × (has other.entries e ≡ true)
  both_have held = let one = sym (list_any-append (same e) s.entries t.entries) ∙ held in (in_first one, in_second one)

-- ---- bytes

pub wrote : (old new : Option (List ℕ)) (before bytes said : List ℕ) → old ≡ Some before → new ≡ Some (before ++ bytes) → Appends old new said → bytes ≡ said
wrote old new before bytes said was is appends =
    append_cancel_left before bytes said (subst (λ (n : Option (List ℕ)). Appends (Some before) n said) is (subst (λ (o : Option (List ℕ)). Appends o new said) was appends))

-- what a step says that it wrote comes to the other link
pub arrived : (old new other : LinkData) (said : List ℕ) (a : Arrives old new other) → Appends old.held new.held said → other.left ≡ Some (said ++ a.behind)
arrived old new other said a appends = a.comes ∙ ap (λ (l : List ℕ). Some (l ++ a.behind)) (wrote old.held new.held a.before a.bytes said a.was_held a.is_held appends)

-- a greeting that came is that of the site
pub heard : (s t : Seen) (own more : List ℕ) (greets : Greets s own) (g : Greeting) (rest : Option (List ℕ)) → Hears t (Some (own ++ more)) rest g → (g ≡ greeting_of s greets.vector) × (rest ≡ Some more)
heard s t own more greets g None hears = absurd hears.greeting.consumed
heard s t own more greets g (Some rest) hears =
    let one = reads_same (own ++ more) rest more g (greeting_of s greets.vector) hears.greeting (greets_read s own more greets) in
    (ap (λ (p : Greeting × List ℕ). p.0) one, ap (λ (p : Greeting × List ℕ). Some p.1) one)

pub few : (s : Seen) (v : VersionVector) (limit : ℕ) → is_limit limit ≡ true → length s.entries ≤ limit → length (after_vector v s.entries) ≤ most_entries
few s v limit is within =
    let parts = length-filter_both (lacks v) (λ x. not (lacks v x)) (λ x. refl) s.entries in
    let most : limit ≤ 100000 = within_most limit is in
    omega (arith, parts, most, within)
  where
    within_most : (n : ℕ) → is_limit n ≡ true → n ≤ 100000
    within_most n is = grind (arith, nat_tests)

-- a stream that came is what the site sent
received : (s : Seen) (v : VersionVector) (more : List ℕ) (batch : List Entry) (rest : Option (List ℕ)) → AreSent s v → length (after_vector v s.entries) ≤ most_entries
    → ReadsStream (Some (sends s v ++ more)) rest batch → batch ≡ after_vector v s.entries
received s v more batch None sent within reads = absurd reads.consumed
received s v more batch (Some rest) sent within reads =
    same_entries (sends s v ++ more) rest (after_vector v s.entries) batch reads.bytes reads.consumed reads.reads (sends_read_before s v more sent within)

-- ---- the steps

pub keeps_all : InterleavedMeetingKeepsAll
keeps_all s s' t t' after other sound_s sound_s' sound_t sound_t' meet free =
    let l = meet.links in
    let (live, own, greets, written) = meet.greeted.0 in
    let (g, answers, sent, count, flushed) = meet.answered in
    let (h, settles, sent_back, settled_count, settled_flushed) = meet.settled in
    let (live_t, batch, reads, taken, last_count) = meet.finished in
    let first : (g ≡ greeting_of s greets.vector) × ((l 3).left ≡ Some meet.greeting.behind) =
    heard s t own meet.greeting.behind greets g (l 3).left (subst (λ (o : Option (List ℕ)). Hears t o (l 3).left g) (arrived (l 0) (l 1) (l 2) own meet.greeting written) answers.heard) in
    let more = sends t g.vector ++ meet.answer.behind in
    let comes : (l 4).left ≡ Some (answers.own ++ more) =
    arrived (l 2) (l 3) (l 4) (answers.own ++ sends t g.vector) meet.answer answers.written ∙ ap Some (append_assoc answers.own (sends t g.vector) meet.answer.behind) in
    let second : (h ≡ greeting_of t answers.greets.vector) × (settles.between ≡ Some more) =
    heard t s' answers.own more answers.greets h settles.between (subst (λ (o : Option (List ℕ)). Hears s' o settles.between h) comes settles.heard) in
    let is_first : settles.batch ≡ after_vector g.vector t.entries =
    received t g.vector meet.answer.behind settles.batch (l 5).left sent (few t g.vector t.limit sound_t.limit sound_t.within)
    (subst (λ (o : Option (List ℕ)). ReadsStream o (l 5).left settles.batch) second.1 settles.reads) in
    let fits = added s'.entries s'.limit settles.batch sound_s'.set sound_s'.ranges (subst (λ (r : Result ℕ CheckError). IsOk r) (sym settles.takes.fresh) refl) in
    let within : length after.entries ≤ s'.limit = subst (λ (u : Seen). length u.entries ≤ s'.limit) (sym settles.takes.union) fits.2 in
    let is_second : batch ≡ after_vector h.vector after.entries =
    received after h.vector meet.back.behind batch (l 7).left sent_back (few after h.vector s'.limit sound_s'.limit within)
    (subst (λ (o : Option (List ℕ)). ReadsStream o (l 7).left batch) (arrived (l 4) (l 5) (l 6) (sends after h.vector) meet.back settles.written) reads) in
    both_have s s' t t' after other meet.gains meet.gives g.vector h.vector sound_s sound_s' sound_t sound_t' free
    (subst (λ (x : Greeting). IsVector s.entries x.vector) (sym first.0) greets.is)
    (subst (λ (x : Greeting). IsVector t.entries x.vector) (sym second.0) answers.greets.is)
    meet.first meet.second
    (subst (λ (b : List Entry). TakesBatch s' b meet.gains after) is_first settles.takes)
    (subst (λ (b : List Entry). TakesBatch t' b meet.gives other) is_second taken)
