-- What comes of a cut stream is a front of its entries, and a site takes that.
use Rattle.std.proofs.Common.{◌≡◌, ◌≢◌, ◌≤◌, ℕ, zero, suc, Bool, true, not, List, [], ◌∷◌, ◌++◌, length, take}
use Rattle.std.proofs.Common.{Option, Some, None, Result, Ok, Err, IsOk}
use Rattle.std.proofs.Common.{inl, inr, refl, sym, ap, subst, ◌∙◌, append-nil, append_assoc, arith}
use mathlib.Core.Bool.{false≢true}
use Rattle.std.specs.Io.KnownBytes.{Consumes, IsAtEnd}
use Rattle.std.specs.List.{AllByRecursion}
use Rattle.std.proofs.lemmas.Bool.{or_cases, or_left, or_right}
use Rattle.std.proofs.lemmas.List.{length-take, length-take-le}
use Rattle.std.proofs.lemmas.List.Concat.{flat_map-cons}
use Rattle.std.proofs.lemmas.List.Filters.{length-filter_both}
use Rattle.td_stamps.specs.Entries.{same}
use Rattle.td_stamps.specs.Sets.{has}
use Rattle.td_stamps.specs.Vectors.{IsVector, VersionVector, after_vector}
use Rattle.td_stamps.specs.declared.entry.Entry.{Entry}
use Rattle.td_stamps.specs.declared.errors.CheckError.{CheckError}
use Rattle.td_stamps.proofs.SetLemmas.{added}
use Rattle.td_frames.specs.Reading.{Miss, short, magic, version, bad, Entries, end_at, entries_at, frame_at}
use Rattle.td_frames.specs.Reading.{greeting_at, last_frame, most_entries, with_frame}
use Rattle.td_frames.specs.Spelling.{HasFrame, entry_frame, entry_frames, stream}
use Rattle.td_frames.specs.declared.error.FrameError.{FrameError}
use Rattle.td_frames.specs.declared.error.FrameError.TheVariants as frame_error
use Rattle.td_frames.specs.declared.greeting.Greeting.{Greeting}
use Rattle.td_frames.specs.declared.version.Version.{Version}
use Rattle.td_frames.specs.declared.version.Version.TheVariants.{Second}
use Rattle.td_frames.proofs.Again.{frame_again, stream_again}
use Rattle.td_frames.proofs.Loops.{frame_more}
use Rattle.td_replica.specs.Calls.{TakesBatch}
use Rattle.td_replica.specs.Seen.{Seen, IsSound, is_limit}
use Rattle.td_replica.specs.declared.calls.Taken.{Taken}
use Rattle.td_meeting.specs.Reading.{Hears, MissesEntries, MissesGreeting, ReadsGreeting}
use Rattle.td_meeting.specs.Steps.{AreSent}
use Rattle.td_meeting.specs.Writing.{Greets, sends}
use Rattle.td_meeting.proofs.Carrying.{reads_same}
use Rattle.td_meeting.proofs.Exchanged.{greeting_of, greets_read}
use Rattle.td_meeting.proofs.Steady.{stream_reads, stream_refuses}
use Rattle.td_agreement.specs.CutStreams.{CutAnswerTakesSome, CutFinishTakesSome, CutReplyTakesSome, CutSettleTakesSome}
use Rattle.td_agreement.specs.CutStreams.{CutFinishLosesNone, CutSettleLosesNone, CutStreamIsFront}
use Rattle.td_agreement.specs.CutStreams.{ComesWhole, GainsSome, every, kept_after}
use Rattle.td_agreement.proofs.Interleaved.{arrived, few, heard, took, wrote}
use Rattle.td_agreement.proofs.Progress.{filter_all}

-- ---- bytes

abbrev IsFrontOf : List Entry → List Entry → Type 0
IsFrontOf es xs = es ≡ take (length es) xs

last_front : (r : Result (Unit {0} × List ℕ) Miss) (xs : List Entry) → IsFrontOf (last_frame r).0 xs
last_front (Ok x) xs = refl
last_front (Err m) xs = refl

next_front : (v : Version) (n : ℕ) (bytes more : List ℕ)
    → ((bs : List ℕ) → IsFrontOf (entries_at v n bs).0 (entries_at v n (bs ++ more)).0)
    → (r : Result (Option Entry × List ℕ) Miss) → frame_at v bytes ≡ r
    → IsFrontOf (with_frame (entries_at v n) r).0 (with_frame (entries_at v n) (frame_at v (bytes ++ more))).0
next_front v n bytes more others (Ok (None, rest)) is = refl
next_front v n bytes more others (Ok (Some x, rest)) is =
    let read = frame_more v bytes more (Some x, rest) is in
    let front = ap (λ (l : List Entry). x ∷ l) (others rest) in
    subst (λ (r : Result (Option Entry × List ℕ) Miss).
    IsFrontOf (x ∷ (entries_at v n rest).0) (with_frame (entries_at v n) r).0) (sym read) front
next_front v n bytes more others (Err m) is = refl

-- the entries that are read of some bytes are a front of those that are read where others follow
read_front : (v : Version) (n : ℕ) (bytes more : List ℕ)
    → IsFrontOf (entries_at v n bytes).0 (entries_at v n (bytes ++ more)).0
unfolding entries_at
read_front v zero bytes more = last_front (end_at bytes) (last_frame (end_at (bytes ++ more))).0
read_front v (suc n) bytes more =
    next_front v n bytes more (λ bs. read_front v n bs more) (frame_at v bytes) refl

last_none : (bs cs : List ℕ) → bs ++ cs ≡ [] → cs ≡ []
last_none [] cs e = e
last_none (b ∷ bs) cs e = absurd cc

module _ (v : Version) (most : ℕ) (xs es : List Entry) (bytes rest : List ℕ)
    (whole : entries_at v most (bytes ++ rest) ≡ (xs, Ok [])) where
  pub not_refused : (m : Miss) → m ≢ short → entries_at v most bytes ≡ (es, Err m) → ⊥
  not_refused m other read =
      let refused = stream_refuses v most bytes rest es m other read in
      let same : Ok [] ≡ Err m = ap (λ (r : Entries). r.1) (sym whole ∙ refused) in
      absurd cc

  ends_short : (ending : Result (List ℕ) Miss) → rest ≢ [] → entries_at v most bytes ≡ (es, ending) → ending ≡ Err short
  ends_short (Ok left) some read =
      let longer = stream_reads v most bytes rest left es read in
      let same : Ok [] ≡ Ok (left ++ rest) = ap (λ (r : Entries). r.1) (sym whole ∙ longer) in
      absurd (some (last_none left rest cc))
  ends_short (Err short) some read = refl
  ends_short (Err magic) some read = absurd (not_refused magic (λ e. absurd cc) read)
  ends_short (Err version) some read = absurd (not_refused version (λ e. absurd cc) read)
  ends_short (Err bad) some read = absurd (not_refused bad (λ e. absurd cc) read)

-- entries whose frames are whole are read, whatever follows
pub read_all : (v : Version) (most : ℕ) (ys : List Entry) (part : List ℕ) → length ys ≤ most
    → AllByRecursion (HasFrame v) ys → length ys ≤ length (entries_at v most (entry_frames v ys ++ part)).0
unfolding entries_at
read_all v most [] part within framed = omega arith
read_all v zero (y ∷ ys) part within framed = absurd (omega (arith, within))
read_all v (suc n) (y ∷ ys) part within framed =
    let behind = entry_frames v ys ++ part in
    let first : entry_frames v (y ∷ ys) ++ part ≡ entry_frame v y ++ behind =
    ap (λ (l : List ℕ). l ++ part) (flat_map-cons (entry_frame v) y ys)
    ∙ append_assoc (entry_frame v y) (entry_frames v ys) part in
    let read = ap (frame_at v) first ∙ frame_again v y behind framed.0 in
    let later : suc (length ys) ≤ suc (length (entries_at v n behind).0) =
    omega (arith, read_all v n ys part (omega (arith, within)) framed.1) in
    subst (λ (r : Result (Option Entry × List ℕ) Miss). suc (length ys) ≤ length (with_frame (entries_at v n) r).0)
    (sym read) later

pub framed_front : (v : Version) (n : ℕ) (xs : List Entry) → AllByRecursion (HasFrame v) xs
    → AllByRecursion (HasFrame v) (take n xs)
framed_front v zero xs framed = tt
framed_front v (suc n) [] framed = tt
framed_front v (suc n) (x ∷ xs) framed = (framed.0, framed_front v n xs framed.1)

-- what a stream is split into is read as a whole stream
pub read_whole : (v : Version) (most : ℕ) (xs : List Entry) (bytes rest : List ℕ) → length xs ≤ most
    → AllByRecursion (HasFrame v) xs → bytes ++ rest ≡ stream v xs → entries_at v most (bytes ++ rest) ≡ (xs, Ok [])
read_whole v most xs bytes rest within framed split =
    ap (entries_at v most) (split ∙ sym (append-nil (stream v xs))) ∙ stream_again v most xs [] within framed

pub cut_stream_is_front : CutStreamIsFront
cut_stream_is_front v most xs es bytes rest ending within framed split read =
    let whole = read_whole v most xs bytes rest within framed split in
    let of_whole = subst (λ (l : List Entry). IsFrontOf (entries_at v most bytes).0 l) (ap (λ (r : Entries). r.0) whole)
    (read_front v most bytes rest) in (
      subst (λ (l : List Entry). IsFrontOf l xs) (ap (λ (r : Entries). r.0) read) of_whole,
      λ some. ends_short v most xs es bytes rest whole ending some read,
      λ n part le is.
          let few = length-take-le n xs le in
          let all = read_all v most (take n xs) part (omega (arith, few, le, within)) (framed_front v n xs framed) in
          let same = ap (λ (b : List ℕ). length (entries_at v most b).0) (sym is) in
          let count = ap (λ (r : Entries). length r.0) read in
          omega (arith, few, all, same, count),
    )

-- ---- what a site takes of a cut stream

abbrev ReadsShort : List Entry → List ℕ → Type 0
ReadsShort es bytes = entries_at Second most_entries bytes ≡ (es, Err short)

-- a front of a whole stream misses no field but by its end, and its entries are taken as one batch
taken_short : (s : Seen) (e : FrameError) (fresh : ℕ) (left rest : Option (List ℕ)) (old new : ℕ) (after : Seen)
    (m : MissesEntries s e fresh left rest old new after) (xs : List Entry) (more : List ℕ)
    → entries_at Second most_entries (m.bytes ++ more) ≡ (xs, Ok [])
    → ReadsShort m.entries m.bytes × ((gains : Taken) × TakesBatch s m.entries gains after × (fresh ≡ gains.fresh))
taken_short s frame_error.OutOfMemory fresh left rest old new after m xs more whole = absurd m.takes
taken_short s frame_error.ReadFault fresh left rest old new after m xs more whole = (m.told.0, m.takes)
taken_short s frame_error.Cut fresh left rest old new after m xs more whole = (m.told.0, m.takes)
taken_short s frame_error.Magic fresh left rest old new after m xs more whole =
    absurd (not_refused Second most_entries xs m.entries m.bytes more whole magic (λ e. absurd cc) m.told.0)
taken_short s frame_error.Version fresh left rest old new after m xs more whole =
    absurd (not_refused Second most_entries xs m.entries m.bytes more whole version (λ e. absurd cc) m.told.0)
taken_short s frame_error.BadFrame fresh left rest old new after m xs more whole =
    absurd (not_refused Second most_entries xs m.entries m.bytes more whole bad (λ e. absurd cc) m.told.0)

-- what was read of a front, and what is behind it
pub behind : (came lost bytes : List ℕ) (rest : Option (List ℕ)) → Consumes (Some came) rest bytes
    → (more : List ℕ) × (bytes ++ more ≡ came ++ lost)
behind came lost bytes None consumed = absurd consumed
behind came lost bytes (Some rest) consumed =
    (rest ++ lost, sym (append_assoc bytes rest lost) ∙ ap (λ (l : List ℕ). l ++ lost) (sym consumed))

-- the site that sends is within a limit
pub few_kept : (keep : Entry → Bool) (t : Seen) (v : VersionVector) (limit : ℕ) → is_limit limit ≡ true
    → length t.entries ≤ limit → length (kept_after keep v t) ≤ most_entries
few_kept keep t v limit is within =
    let parts = length-filter_both keep (λ x. not (keep x)) (λ x. refl) (after_vector v t.entries) in
    let all = few t v limit is within in
    omega (arith, parts, all)

module _ (keep : Entry → Bool) (s t : Seen) (v : VersionVector) (within : length (kept_after keep v t) ≤ most_entries)
    (is : IsVector s.entries v) (framed : AllByRecursion (HasFrame Second) (kept_after keep v t)) where
  abbrev sent : List Entry
  sent = kept_after keep v t

  pub misses_some : (came lost : List ℕ) (rest : Option (List ℕ)) (e : FrameError) (old new fresh : ℕ) (after : Seen)
      → came ++ lost ≡ stream Second sent → MissesEntries s e fresh (Some came) rest old new after
      → GainsSome keep s t fresh after
  misses_some came lost rest e old new fresh after split m =
      let (more, all) = behind came lost m.bytes rest m.consumed in
      let whole = read_whole Second most_entries sent m.bytes more within framed (all ∙ split) in
      let (read, (gains, takes, same)) = taken_short s e fresh (Some came) rest old new after m sent more whole in
      let front = cut_stream_is_front Second most_entries sent m.entries m.bytes more (Err short) within framed
      (all ∙ split) read in (
        gains,
        record {
          vector = v;
          is = is;
          count = length m.entries;
          takes = subst (λ (batch : List Entry). TakesBatch s batch gains after) front.0 takes;
        },
        same,
      )

-- a longer front has what a front has
pub front_has : (n k : ℕ) (xs : List Entry) (x : Entry) → length (take n xs) ≤ k → has (take n xs) x ≡ true
    → has (take k xs) x ≡ true
front_has zero k xs x le here = absurd (false≢true here)
front_has (suc n) k [] x le here = absurd (false≢true here)
front_has (suc n) zero (y ∷ xs) x le here = absurd (omega (arith, le))
front_has (suc n) (suc k) (y ∷ xs) x le here = elim (or_cases (same x y) (has (take n xs) x) here) [
  | inl first ↦ or_left (same x y) (has (take k xs) x) first
  | inr later ↦ or_right (same x y) (has (take k xs) x) (front_has n k xs x (omega (arith, le)) later)
]

-- what was read, where nothing is left
pub read_to_end : (came bytes : List ℕ) (rest : Option (List ℕ)) → Consumes (Some came) rest bytes → IsAtEnd rest
    → bytes ≡ came
read_to_end came bytes None consumed end = absurd consumed
read_to_end came bytes (Some rest) consumed end =
    sym (consumed ∙ ap (λ (l : List ℕ). bytes ++ l) end ∙ append-nil bytes)

-- an entry whose frame came whole is held
misses_none : (keep : Entry → Bool) (s t : Seen) (v : VersionVector) (came lost : List ℕ) (rest : Option (List ℕ))
    (old new fresh : ℕ) (after : Seen) (x : Entry) → IsSound s → length (kept_after keep v t) ≤ most_entries
    → AllByRecursion (HasFrame Second) (kept_after keep v t) → came ++ lost ≡ stream Second (kept_after keep v t)
    → ComesWhole keep v t came x → MissesEntries s frame_error.Cut fresh (Some came) rest old new after
    → has after.entries x ≡ true
misses_none keep s t v came lost rest old new fresh after x sound within framed split (n, part, is, here) m =
    let sent = kept_after keep v t in
    let bytes = read_to_end came m.bytes rest m.consumed m.told.1 in
    let read = ap (entries_at Second most_entries) (sym bytes) ∙ m.told.0 in
    let front = cut_stream_is_front Second most_entries sent m.entries came lost (Err short) within framed split read in
    let few : length (take n sent) ≤ most_entries = omega (arith, length-take n sent, within) in
    let all = read_all Second most_entries (take n sent) part few (framed_front Second n sent framed) in
    let same_bytes = ap (λ (b : List ℕ). length (entries_at Second most_entries b).0) (sym is) in
    let count = ap (λ (r : Entries). length r.0) read in
    let longer : length (take n sent) ≤ length m.entries = omega (arith, all, same_bytes, count) in
    let in_front = front_has n (length m.entries) sent x longer here in
    let in_batch = subst (λ (l : List Entry). has l x ≡ true) (sym front.0) in_front in
    took s m.entries m.takes.0 after x sound.set m.takes.1 ∙ or_right (has s.entries x) (has m.entries x) in_batch

pub cut_finish_loses_none : CutFinishLosesNone
cut_finish_loses_none keep s t v came lost rest old new fresh after x sound sound_t framed split whole (live, missed) =
    let within = few_kept keep t v t.limit sound_t.limit sound_t.within in
    misses_none keep s t v came lost rest old new fresh after x sound within framed split whole missed

pub cut_finish_takes_some : CutFinishTakesSome
cut_finish_takes_some keep s t v came lost rest e old new fresh after sound is framed split (live, missed) =
    misses_some keep s t v (few_kept keep t v t.limit sound.limit sound.within) is framed came lost rest e old new fresh
    after split missed

-- ---- what is behind a greeting that came whole

-- a greeting that is read of a front is read of all
pub front_greets : (came lost rest : List ℕ) (g : Greeting) → ReadsGreeting (Some came) (Some rest) g
    → ReadsGreeting (Some (came ++ lost)) (Some (rest ++ lost)) g
front_greets came lost rest g reads = record {
  bytes = reads.bytes;
  consumed = ap (λ (l : List ℕ). l ++ lost) reads.consumed ∙ append_assoc reads.bytes rest lost;
  reads = reads.reads;
}

-- what follows it is a front of what was sent
pub behind_greeting : (t : Seen) (own came lost rest more : List ℕ) (g : Greeting) → Greets t own
    → came ++ lost ≡ own ++ more → ReadsGreeting (Some came) (Some rest) g → rest ++ lost ≡ more
behind_greeting t own came lost rest more g greets split reads =
    let is = ap greeting_at split ∙ greets_read t own more greets in
    let all = front_greets came lost rest g reads in
    let one = reads_same (came ++ lost) (rest ++ lost) more g (greeting_of t greets.vector) all is in
    ap (λ (p : Greeting × List ℕ). p.1) one

settles_some : (keep : Entry → Bool) (s t : Seen) (v : VersionVector) (own came lost : List ℕ)
    (between left : Option (List ℕ)) (g : Greeting) (e : FrameError) (old new fresh : ℕ) (after : Seen)
    → IsSound t → IsVector s.entries v → Greets t own
    → AllByRecursion (HasFrame Second) (kept_after keep v t) → came ++ lost ≡ own ++ stream Second (kept_after keep v t)
    → Hears s (Some came) between g → MissesEntries s e fresh between left old new after
    → GainsSome keep s t fresh after
settles_some keep s t v own came lost None left g e old new fresh after sound is greets framed split hears misses =
    absurd hears.greeting.consumed
settles_some keep s t v own came lost (Some more) left g e old new fresh after sound is greets framed split hears miss =
    let sent = stream Second (kept_after keep v t) in
    let part = behind_greeting t own came lost more sent g greets split hears.greeting in
    misses_some keep s t v (few_kept keep t v t.limit sound.limit sound.within) is framed more lost left e old new fresh
    after part miss

pub cut_settle_takes_some : CutSettleTakesSome
cut_settle_takes_some keep s t v own came lost old new e fresh after sound is greets framed comes split settled =
    elim settled.2 [
      | inl unheard ↦ inl (unheard.1, unheard.0.1)
      | inr missed ↦
          let hears = subst (λ (o : Option (List ℕ)). Hears s o missed.0 missed.1) comes missed.2 in
          inr (settles_some keep s t v own came lost missed.0 new.left missed.1 e old.failures new.failures fresh after
          sound is greets framed split hears missed.3)
    ]

-- a greeting that came whole is not told as cut
not_cut : (t : Seen) (own came more : List ℕ) (rest : Option (List ℕ)) (old new : ℕ) → Greets t own → came ≡ own ++ more
    → MissesGreeting frame_error.Cut (Some came) rest old new → ⊥
not_cut t own came more rest old new greets whole (bytes, consumed, told) =
    let is = read_to_end came bytes rest consumed told.1 in
    let read = ap greeting_at (is ∙ whole) ∙ greets_read t own more greets in
    let wrong : ◌≡◌ {A = Result (Greeting × List ℕ) Miss} (Err short) (Ok (greeting_of t greets.vector, more)) =
    sym told.0 ∙ read in
    absurd cc

module _ (keep : Entry → Bool) (s t : Seen) (v : VersionVector) (own came more lost : List ℕ) (x : Entry)
    (sound : IsSound s) (sound_t : IsSound t) (greets : Greets t own)
    (framed : AllByRecursion (HasFrame Second) (kept_after keep v t)) (whole : came ≡ own ++ more)
    (split : more ++ lost ≡ stream Second (kept_after keep v t)) (comes : ComesWhole keep v t more x) where
  settles_none : (between left : Option (List ℕ)) (g : Greeting) (old new fresh : ℕ) (after : Seen)
      → Hears s (Some came) between g → MissesEntries s frame_error.Cut fresh between left old new after
      → has after.entries x ≡ true
  settles_none None left g old new fresh after hears m = absurd hears.greeting.consumed
  settles_none (Some rest) left g old new fresh after hears m =
      let is = ap greeting_at whole ∙ greets_read t own more greets in
      let one = reads_same came rest more g (greeting_of t greets.vector) hears.greeting is in
      let same_rest : rest ≡ more = ap (λ (p : Greeting × List ℕ). p.1) one in
      let within = few_kept keep t v t.limit sound_t.limit sound_t.within in
      misses_none keep s t v more lost left old new fresh after x sound within framed split comes
      (subst (λ (b : List ℕ). MissesEntries s frame_error.Cut fresh (Some b) left old new after) same_rest m)

pub cut_settle_loses_none : CutSettleLosesNone
cut_settle_loses_none keep s t v own came more lost old new fresh after x sound sound_t greets framed =
    λ left whole split comes settled. elim settled.2 [
      | inl unheard ↦
          let told = λ (o : Option (List ℕ)). MissesGreeting frame_error.Cut o new.left old.failures new.failures in
          let misses = subst told left unheard.0.0 in
          absurd (not_cut t own came more new.left old.failures new.failures greets whole misses)
      | inr missed ↦
          let hears = subst (λ (o : Option (List ℕ)). Hears s o missed.0 missed.1) left missed.2 in
          settles_none keep s t v own came more lost x sound sound_t greets framed whole split comes missed.0 new.left
          missed.1 old.failures new.failures fresh after hears missed.3
    ]

-- ---- the steps

module _ (t : Seen) (v : VersionVector) where
  pub every_sent : sends t v ≡ stream Second (kept_after every v t)
  every_sent = ap (stream Second) (sym (filter_all (after_vector v t.entries)))

  every_framed : AreSent t v → AllByRecursion (HasFrame Second) (kept_after every v t)
  every_framed sent = subst (AllByRecursion (HasFrame Second)) (sym (filter_all (after_vector v t.entries))) sent

pub cut_answer_takes_some : CutAnswerTakesSome
cut_answer_takes_some s t after e fresh sound meet =
    let l = meet.links in
    let (live, own, greets, written) = meet.greeted.0 in
    let (g, answers, sent, count, flushed) = meet.answered in
    let came = arrived (l 0) (l 1) (l 2) own meet.greeting written in
    let hears = subst (λ (o : Option (List ℕ)). Hears t o (l 3).left g) came answers.heard in
    let first = heard s t own meet.greeting.behind greets g (l 3).left hears in
    let is = subst (λ (x : Greeting). IsVector s.entries x.vector) (sym first.0) greets.is in
    let a = meet.answer in
    let said = wrote (l 2).held (l 3).held a.before (a.came ++ a.lost) (answers.own ++ sends t g.vector) a.was_held
    a.is_held answers.written in
    let split = said ∙ ap (λ (b : List ℕ). answers.own ++ b) (every_sent t g.vector) in
    cut_settle_takes_some every s t g.vector answers.own a.came a.lost (l 4) (l 5) e fresh after sound is answers.greets
    (every_framed t g.vector sent) a.comes split meet.settled

-- a site that took a batch is within its limit
pub within_limit : (s : Seen) (batch : List Entry) (gains : Taken) (after : Seen) → IsSound s
    → TakesBatch s batch gains after → length after.entries ≤ s.limit
within_limit s batch gains after sound takes =
    let fits = added s.entries s.limit batch sound.set sound.ranges
    (subst (λ (r : Result ℕ CheckError). IsOk r) (sym takes.fresh) refl) in
    subst (λ (u : Seen). length u.entries ≤ s.limit) (sym takes.union) fits.2

pub cut_reply_takes_some : CutReplyTakesSome
cut_reply_takes_some s t after other gains e fresh sound meet =
    let l = meet.links in
    let (g, answers, sent, count, flushed) = meet.answered in
    let (h, settles, sent_back, settled_count, settled_flushed) = meet.settled in
    let (live, missed) = meet.finished in
    let more = sends t g.vector ++ meet.answer.behind in
    let comes : (l 4).left ≡ Some (answers.own ++ more) =
    arrived (l 2) (l 3) (l 4) (answers.own ++ sends t g.vector) meet.answer answers.written
    ∙ ap Some (append_assoc answers.own (sends t g.vector) meet.answer.behind) in
    let hears = subst (λ (o : Option (List ℕ)). Hears s o settles.between h) comes settles.heard in
    let second = heard t s answers.own more answers.greets h settles.between hears in
    let is = subst (λ (x : Greeting). IsVector t.entries x.vector) (sym second.0) answers.greets.is in
    let fits = within_limit s settles.batch gains after sound settles.takes in
    let within = few_kept every after h.vector s.limit sound.limit fits in
    let r = meet.reply in
    let said = wrote (l 4).held (l 5).held r.before (r.came ++ r.lost) (sends after h.vector) r.was_held r.is_held
    settles.written in
    let split = said ∙ every_sent after h.vector in
    let come = subst (λ (o : Option (List ℕ)). MissesEntries t e fresh o (l 7).left (l 6).failures (l 7).failures other)
    r.comes missed in
    misses_some every t after h.vector within is (every_framed after h.vector sent_back) r.came r.lost (l 7).left e
    (l 6).failures (l 7).failures fresh other split come
