-- What stays at each of two sites that meet.
use Rattle.std.proofs.Common.{◌≡◌, ℕ, Bool, true, false, not, ◌&&◌, ◌||◌, cond, List, [], ◌∷◌, ◌++◌, Result, IsOk, inl, inr, refl, sym, ap, subst, ◌∙◌}
use mathlib.Core.Bool.{false≢true}
use Rattle.std.specs.List.{filter}
use Rattle.std.proofs.lemmas.Bool.{not-true, or_cases, or_left, or_right}
use Rattle.std.proofs.lemmas.Map.Views.{any-filter_same}
use Rattle.td_stamps.specs.Entries.{same}
use Rattle.td_stamps.specs.Sets.{has, is_set}
use Rattle.td_stamps.specs.Vectors.{VersionVector, lacks}
use Rattle.td_stamps.specs.declared.entry.Entry.{Entry}
use Rattle.td_stamps.specs.declared.errors.CheckError.{CheckError}
use Rattle.td_stamps.proofs.EntryLemmas.{same-is}
use Rattle.td_stamps.proofs.SetLemmas.{AddsUp, adds_up, first_holds, fits, or_false, rest_holds}
use Rattle.td_replica.specs.Calls.{TakesBatch}
use Rattle.td_replica.specs.Seen.{Seen, IsSound}
use Rattle.td_replica.specs.declared.calls.Taken.{Taken}
use Rattle.td_checked_meetings.specs.Laws.{BeyondStays, LeftOutStays}
use Rattle.td_checked_meetings.specs.Scopes.{follows, in_sequence, is_in_scope, is_left_out, of_others, sent, taken}
use Rattle.td_checked_meetings.specs.Steps.{Receives}
use Rattle.td_checked_meetings.specs.declared.scope.MeetingScope.{MeetingScope}
use Rattle.td_checked_meetings.specs.declared.taking.Received.{Received}

pub has-filter : (p : Entry → Bool) (z : Entry) (xs : List Entry) → has (filter p xs) z ≡ (p z && has xs z)
has-filter p z xs = any-filter_same (same z) p (p z) (λ x is. ap p (sym (same-is z x is))) xs

-- what a site takes, what it held and the batch
pub joined : (s : Seen) (batch : List Entry) (t : Taken) (after : Seen) → is_set s.entries ≡ true → TakesBatch s batch t after → AddsUp s.entries s.entries batch
joined s batch t after set takes =
    let fit = fits s.entries s.limit batch (subst (λ (r : Result ℕ CheckError). IsOk r) (sym takes.fresh) refl) in
    adds_up s.entries s.entries batch (λ p. refl) set fit.clear

pub took : (s : Seen) (batch : List Entry) (t : Taken) (after : Seen) (e : Entry) → is_set s.entries ≡ true → TakesBatch s batch t after → has after.entries e ≡ (has s.entries e || has batch e)
took s batch t after e set takes = ap (λ (u : Seen). has u.entries e) takes.union ∙ (joined s batch t after set takes).members (same e)

-- ---- what is taken was sent

pub in_sequence_of : (v : VersionVector) (earlier xs : List Entry) (e : Entry) → has (in_sequence v earlier xs) e ≡ true → has xs e ≡ true
unfolding in_sequence
in_sequence_of v earlier [] e here = here
in_sequence_of v earlier (x ∷ xs) e here = elim (follows v earlier x) as (λ b. has (cond b (x ∷ in_sequence v (earlier ++ x ∷ []) xs) (in_sequence v earlier xs)) e ≡ true → (same e x || has xs e) ≡ true) [
  | true ↦ λ h. elim (or_cases (same e x) (has (in_sequence v (earlier ++ x ∷ []) xs) e) h) [
    | inl is ↦ or_left (same e x) (has xs e) is
    | inr later ↦ or_right (same e x) (has xs e) (in_sequence_of v (earlier ++ x ∷ []) xs e later)
  ]
  | false ↦ λ h. or_right (same e x) (has xs e) (in_sequence_of v earlier xs e h)
] here

-- ---- what is left out

-- an entry that is taken is of no site that either leaves out, the sender's vector counts it, and the taker's does not
pub record IsMoved (kept left : List ℕ) (own other : VersionVector) (xs : List Entry) (e : Entry) : Type 0 where
  pub taken_here : is_left_out kept e ≡ false
  pub sent_there : is_left_out left e ≡ false
  pub counted : lacks own e ≡ false
  pub lacked : lacks other e ≡ true
  pub held : has xs e ≡ true

pub of_sent : (kept left : List ℕ) (own other : VersionVector) (xs : List Entry) (e : Entry) → has (of_others kept (sent left own other xs)) e ≡ true → IsMoved kept left own other xs e
of_sent kept left own other xs e here =
    let batch = sent left own other xs in
    let of = sym (has-filter (λ x. not (is_left_out kept x)) e batch) ∙ here in
    let was = sym (has-filter (is_in_scope left own) e (filter (lacks other) xs)) ∙ rest_holds (not (is_left_out kept e)) (has batch e) of in
    let is : is_in_scope left own e ≡ true = first_holds (is_in_scope left own e) (has (filter (lacks other) xs) e) was in
    let there = sym (has-filter (lacks other) e xs) ∙ rest_holds (is_in_scope left own e) (has (filter (lacks other) xs) e) was in
    record {
      taken_here = not-true (is_left_out kept e) (first_holds (not (is_left_out kept e)) (has batch e) of);
      sent_there = not-true (is_left_out left e) (rest_holds (not (lacks own e)) (not (is_left_out left e)) is);
      counted = not-true (lacks own e) (first_holds (not (lacks own e)) (not (is_left_out left e)) is);
      lacked = first_holds (lacks other e) (has xs e) there;
      held = rest_holds (lacks other e) (has xs e) there;
    }

pub moved : (kept left : List ℕ) (v own other : VersionVector) (xs : List Entry) (e : Entry) → has (taken kept v (sent left own other xs)) e ≡ true → IsMoved kept left own other xs e
moved kept left v own other xs e here = of_sent kept left own other xs e (in_sequence_of v [] (of_others kept (sent left own other xs)) e here)

false_of : (b : Bool) → (b ≡ true → ⊥) → b ≡ false
false_of true none = absurd (none refl)
false_of false none = refl

-- nothing that does not move comes
stays : (s : Seen) (c : MeetingScope) (left : List ℕ) (own : VersionVector) (xs : List Entry) (r : Received) (after : Seen) (e : Entry) → IsSound s → Receives s c (sent left own c.vector xs) r after
    → (IsMoved c.left_out.items left own c.vector xs e → ⊥) → has after.entries e ≡ has s.entries e
stays s c left own xs r after e sound receives none =
    let batch = taken c.left_out.items receives.vector (sent left own c.vector xs) in
    took s batch r.taken after e sound.set receives.takes
    ∙ ap (λ (b : Bool). has s.entries e || b) (false_of (has batch e) (λ here. none (moved c.left_out.items left receives.vector own c.vector xs e here)))
    ∙ or_false (has s.entries e)

neither : (a b : Bool) → (a || b) ≡ true → a ≡ false → b ≡ false → ⊥
neither a b one no_a no_b = elim (or_cases a b one) [ inl is ↦ false≢true (sym no_a ∙ is) | inr is ↦ false≢true (sym no_b ∙ is) ]

pub left_out_stays : LeftOutStays
left_out_stays c d s t gains gives after other sound_s sound_t meets e out = (
  stays s c d.left_out.items d.vector t.entries gains after e sound_s meets.first (λ m. neither (is_left_out c.left_out.items e) (is_left_out d.left_out.items e) out m.taken_here m.sent_there),
  stays t d c.left_out.items c.vector after.entries gives other e sound_t meets.second (λ m. neither (is_left_out c.left_out.items e) (is_left_out d.left_out.items e) out m.sent_there m.taken_here),
)

pub beyond_stays : BeyondStays
beyond_stays c d s t gains gives after other sound_s sound_t meets e = (
  λ beyond. stays s c d.left_out.items d.vector t.entries gains after e sound_s meets.first (λ m. false≢true (sym m.counted ∙ beyond)),
  λ beyond. stays t d c.left_out.items c.vector after.entries gives other e sound_t meets.second (λ m. false≢true (sym m.counted ∙ beyond)),
)
