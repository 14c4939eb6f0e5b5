-- What comes of a cut stream in a scope is a prefix of what both sites exchange, and a site takes that.
use Rattle.std.proofs.Common.{◌≡◌, ◌≢◌, ◌≤◌, ℕ, Bool, true, false, not, List, [], ◌++◌, length, take}
use Rattle.std.proofs.Common.{Option, Some, None, Result, Ok, Err, inl, inr, refl, sym, ap, subst, ◌∙◌}
use Rattle.std.proofs.Common.{append-nil, append_assoc, arith}
use mathlib.Core.Bool.{false≢true}
use Rattle.std.specs.Io.KnownBytes.{Appends}
use Rattle.std.specs.List.{AllByRecursion}
use Rattle.std.proofs.lemmas.Bool.{and_from, or_right}
use Rattle.std.proofs.lemmas.List.{length-take}
use Rattle.td_io.specs.Streams.{AppendsFront}
use Rattle.td_stamps.specs.Sets.{has, is_set}
use Rattle.td_stamps.specs.Vectors.{VersionVector, after_vector, lacks}
use Rattle.td_stamps.specs.declared.entry.Entry.{Entry}
use Rattle.td_stamps.proofs.Gaps.{vector_is_one}
use Rattle.td_frames.specs.Reading.{Entries, Miss, short, magic, version, bad, entries_at, greeting_at, most_entries}
use Rattle.td_frames.specs.Spelling.{HasFrame, HasGreeting}
use Rattle.td_frames.specs.declared.error.FrameError.{FrameError}
use Rattle.td_frames.specs.declared.error.FrameError.TheVariants as frame_error
use Rattle.td_frames.specs.declared.greeting.Greeting.{Greeting}
use Rattle.td_frames.specs.declared.version.Version.TheVariants.{Second}
use Rattle.td_frames.proofs.GreetedAgain.{greeting_again}
use Rattle.td_replica.specs.Calls.{TakesBatch}
use Rattle.td_replica.specs.Seen.{Seen, IsSound, is_limit}
use Rattle.td_replica.specs.declared.calls.Taken.{Taken}
use Rattle.td_meeting.specs.Reading.{Hears, MissesGreeting, ReadsGreeting, ReadsStream}
use Rattle.td_meeting.specs.Steps.{LinkData}
use Rattle.td_meeting.specs.declared.error.MeetingError.TheVariants.{Frame}
use Rattle.td_meeting.proofs.Carrying.{reads_same}
use Rattle.td_meeting.proofs.Exchanged.{greeting_of}
use Rattle.td_checked_meetings.specs.Scopes.{is_in_scope, is_left_out, of_others, sent, taken}
use Rattle.td_checked_meetings.specs.Steps.{FinishedInScope, NotReceived, Receives, ReceivesCut, SettledInScope}
use Rattle.td_checked_meetings.specs.Steps.{StopsIn, greets, sends_in_scope}
use Rattle.td_checked_meetings.specs.declared.scope.MeetingScope.{MeetingScope}
use Rattle.td_checked_meetings.specs.declared.taking.Received.{Received}
use Rattle.td_checked_meetings.proofs.Prefixes.{prefix_count, taken_all, taken_prefix}
use Rattle.td_agreement.specs.CutStreams.{GainsSome}
use Rattle.td_agreement.specs.CutScopes.{AnswersInPart, AreScopes, ComesInScope, CutAnswerInScope, CutFinishInScope}
use Rattle.td_agreement.specs.CutScopes.{CutFinishInScopeLosesNone, CutLeftOutStays, CutReplyInScope, CutSettleInScope}
use Rattle.td_agreement.specs.CutScopes.{CutSettleInScopeLosesNone, SettlesInPart, is_exchanged}
use Rattle.td_agreement.specs.Progress.{TakesSome}
use Rattle.td_agreement.proofs.CutStreams.{behind, cut_stream_is_front, few_kept, framed_front, front_greets, front_has}
use Rattle.td_agreement.proofs.CutStreams.{not_refused, read_all, read_to_end, read_whole, within_limit}
use Rattle.td_agreement.proofs.CutWriters.{framed_kept, lost_some, wrote_some}
use Rattle.td_agreement.proofs.Interleaved.{arrived, has-filter, joined, took}
use Rattle.td_agreement.proofs.Progress.{cut_meeting_keeps}

-- ---- what a site takes of a cut stream

abbrev ReceivesSome : Seen → MeetingScope → List Entry → ℕ → Seen → Type 0
ReceivesSome s c es fresh after = (r : Received) × Receives s c es r after × (fresh ≡ r.taken.fresh)

module _ (s : Seen) (c : MeetingScope) (es xs : List Entry) (bytes more : List ℕ) (rest : Option (List ℕ))
    (ending : Result (List ℕ) Miss) (fresh : ℕ) (after : Seen)
    (whole : entries_at Second most_entries (bytes ++ more) ≡ (xs, Ok []))
    (read : entries_at Second most_entries bytes ≡ (es, ending)) where
  refused_not : (m : Miss) → m ≢ short → ending ≡ Err m → ⊥
  refused_not m other is =
      let said = subst (λ (r : Result (List ℕ) Miss). entries_at Second most_entries bytes ≡ (es, r)) is read in
      not_refused Second most_entries xs es bytes more whole m other said

  -- a prefix of a whole stream misses no field but by its end
  received_short : (e : FrameError) → StopsIn e ending rest → ReceivesCut s c es e fresh after
      → ReceivesSome s c es fresh after
  received_short frame_error.OutOfMemory stops receives = absurd stops
  received_short frame_error.ReadFault stops receives = receives
  received_short frame_error.Cut stops receives = receives
  received_short frame_error.Magic stops receives = absurd (refused_not magic (λ e. absurd cc) stops)
  received_short frame_error.Version stops receives = absurd (refused_not version (λ e. absurd cc) stops)
  received_short frame_error.BadFrame stops receives = absurd (refused_not bad (λ e. absurd cc) stops)

module _ (c d : MeetingScope) (s t : Seen) (set : is_set t.entries ≡ true) (limit : ℕ) (is : is_limit limit ≡ true)
    (within : length t.entries ≤ limit) (scopes : AreScopes c d s t) where
  abbrev sent_to : List Entry
  sent_to = sent d.left_out.items d.vector c.vector t.entries

  framed_to : AllByRecursion (HasFrame Second) sent_to
  framed_to =
      let after = framed_kept (lacks c.vector) t.entries scopes.framed in
      framed_kept (is_in_scope d.left_out.items d.vector) (after_vector c.vector t.entries) after

  few_to : length sent_to ≤ most_entries
  few_to = few_kept (is_in_scope d.left_out.items d.vector) t c.vector limit is within

  receives_prefix : (n : ℕ) (r : Received) (after : Seen) → Receives s c (take n sent_to) r after
      → TakesSome (is_exchanged c d) s t r.taken after
  receives_prefix n r after receives =
      let one = vector_is_one s.entries receives.vector c.vector receives.own scopes.own in
      let batch = ap (λ (v : VersionVector). taken c.left_out.items v (take n sent_to)) one
      ∙ taken_prefix c.left_out.items d.left_out.items d.vector c.vector t.entries set scopes.counted n in
      record {
        vector = c.vector;
        is = scopes.own;
        count = prefix_count c.left_out.items d.left_out.items d.vector c.vector t.entries set scopes.counted n;
        takes = subst (λ (b : List Entry). TakesBatch s b r.taken after) batch receives.takes;
      }

  received_some : (came lost : List ℕ) (rest : Option (List ℕ)) (e : FrameError) (fresh : ℕ) (after : Seen)
      → came ++ lost ≡ sends_in_scope d c.vector t.entries → NotReceived s c (Some came) rest (Frame e fresh) after
      → GainsSome (is_exchanged c d) s t fresh after
  received_some came lost rest e fresh after split (es, ending, reads, stops, receives) =
      let (more, all) = behind came lost reads.bytes rest reads.consumed in
      let whole = read_whole Second most_entries sent_to reads.bytes more few_to framed_to (all ∙ split) in
      let (r, some, same) =
      received_short s c es sent_to reads.bytes more rest ending fresh after whole reads.reads e stops receives in
      let front = cut_stream_is_front Second most_entries sent_to es reads.bytes more ending few_to framed_to
      (all ∙ split) reads.reads in
      let prefix = subst (λ (l : List Entry). Receives s c l r after) front.0 some in
      (r.taken, receives_prefix (length es) r after prefix, same)

  -- a stream that came complete
  received_all : (came lost : List ℕ) (rest : Option (List ℕ)) (batch : List Entry) (r : Received) (after : Seen)
      → came ++ lost ≡ sends_in_scope d c.vector t.entries → ReadsStream (Some came) rest batch
      → Receives s c batch r after → GainsSome (is_exchanged c d) s t r.taken.fresh after
  received_all came lost rest batch r after split reads receives =
      let (more, all) = behind came lost reads.bytes rest reads.consumed in
      let front = cut_stream_is_front Second most_entries sent_to batch reads.bytes more (Ok []) few_to framed_to
      (all ∙ split) reads.reads in
      let prefix = subst (λ (l : List Entry). Receives s c l r after) front.0 receives in
      (r.taken, receives_prefix (length batch) r after prefix, refl)

  -- an entry whose frame came whole is held
  received_none : (came lost : List ℕ) (rest : Option (List ℕ)) (fresh : ℕ) (after : Seen) (x : Entry)
      → is_set s.entries ≡ true → came ++ lost ≡ sends_in_scope d c.vector t.entries
      → ComesInScope d c.vector t came x → is_left_out c.left_out.items x ≡ false
      → NotReceived s c (Some came) rest (Frame frame_error.Cut fresh) after → has after.entries x ≡ true
  received_none came lost rest fresh after x set_s split (n, part, is_came, here) left_in
      (es, ending, reads, stops, (r, receives, same)) =
      let bytes = read_to_end came reads.bytes rest reads.consumed stops.1 in
      let read = ap (entries_at Second most_entries) (sym bytes) ∙ reads.reads in
      let front = cut_stream_is_front Second most_entries sent_to es came lost ending few_to framed_to split read in
      let few : length (take n sent_to) ≤ most_entries = omega (arith, length-take n sent_to, few_to) in
      let all = read_all Second most_entries (take n sent_to) part few (framed_front Second n sent_to framed_to) in
      let same_bytes = ap (λ (b : List ℕ). length (entries_at Second most_entries b).0) (sym is_came) in
      let count = ap (λ (p : Entries). length p.0) read in
      let longer : length (take n sent_to) ≤ length es = omega (arith, all, same_bytes, count) in
      let in_front = front_has n (length es) sent_to x longer here in
      let others = of_others c.left_out.items (take (length es) sent_to) in
      let in_others : has others x ≡ true =
      has-filter (λ e. not (is_left_out c.left_out.items e)) x (take (length es) sent_to)
      ∙ and_from (not (is_left_out c.left_out.items x)) (has (take (length es) sent_to) x) (ap not left_in) in_front in
      let one = vector_is_one s.entries receives.vector c.vector receives.own scopes.own in
      let batch : taken c.left_out.items receives.vector es ≡ others =
      ap (λ (v : VersionVector). taken c.left_out.items v es) one ∙ ap (taken c.left_out.items c.vector) front.0
      ∙ taken_all c.left_out.items d.left_out.items d.vector c.vector t.entries set scopes.counted (length es) in
      let in_batch : has (taken c.left_out.items receives.vector es) x ≡ true =
      ap (λ (l : List Entry). has l x) batch ∙ in_others in
      took s (taken c.left_out.items receives.vector es) r.taken after x set_s receives.takes
      ∙ or_right (has s.entries x) (has (taken c.left_out.items receives.vector es) x) in_batch

pub cut_finish_in_scope : CutFinishInScope
cut_finish_in_scope c d s t came lost rest e fresh after sound scopes split (live, missed) =
    received_some c d s t sound.set t.limit sound.limit sound.within scopes came lost rest e fresh after split missed

pub cut_finish_in_scope_loses_none : CutFinishInScopeLosesNone
cut_finish_in_scope_loses_none c d s t came lost rest fresh after x sound_s sound scopes split comes left_in finished =
    received_none c d s t sound.set t.limit sound.limit sound.within scopes came lost rest fresh after x sound_s.set
    split comes left_in finished.1

-- ---- what is behind a greeting

scope_read : (t : Seen) (d : MeetingScope) (more : List ℕ) → HasGreeting t.site t.script d.vector
    → greeting_at (greets t d ++ more) ≡ Ok (greeting_of t d.vector, more)
scope_read t d more has = greeting_again t.site t.script d.vector more has

-- a greeting that came whole is that of the scope
scope_heard : (s t : Seen) (c : MeetingScope) (more : List ℕ) (left rest : Option (List ℕ)) (g : Greeting)
    → HasGreeting s.site s.script c.vector → left ≡ Some (greets s c ++ more) → Hears t left rest g
    → g.vector ≡ c.vector
scope_heard s t c more left None g has came hears =
    let here = subst (λ (o : Option (List ℕ)). Hears t o None g) came hears in
    absurd here.greeting.consumed
scope_heard s t c more left (Some rest) g has came hears =
    let here = subst (λ (o : Option (List ℕ)). Hears t o (Some rest) g) came hears in
    let read = scope_read s c more has in
    let one = reads_same (greets s c ++ more) rest more g (greeting_of s c.vector) here.greeting read in
    ap (λ (p : Greeting × List ℕ). p.0.vector) one

-- what follows the greeting is a prefix of what was sent
behind_scope : (t : Seen) (d : MeetingScope) (came lost more said : List ℕ) (g : Greeting)
    → HasGreeting t.site t.script d.vector → came ++ lost ≡ greets t d ++ said
    → ReadsGreeting (Some came) (Some more) g → more ++ lost ≡ said
behind_scope t d came lost more said g has split reads =
    let found = ap greeting_at split ∙ scope_read t d said has in
    let all = front_greets came lost more g reads in
    let one = reads_same (came ++ lost) (more ++ lost) said g (greeting_of t d.vector) all found in
    ap (λ (p : Greeting × List ℕ). p.1) one

settles_received : (c d : MeetingScope) (s t : Seen) (came lost : List ℕ) (between rest : Option (List ℕ))
    (g : Greeting) (e : FrameError) (fresh : ℕ) (after : Seen) → IsSound t → AreScopes c d s t
    → HasGreeting t.site t.script d.vector → came ++ lost ≡ greets t d ++ sends_in_scope d c.vector t.entries
    → Hears s (Some came) between g
    → NotReceived s c between rest (Frame e fresh) after → GainsSome (is_exchanged c d) s t fresh after
settles_received c d s t came lost None rest g e fresh after sound scopes has split hears missed =
    absurd hears.greeting.consumed
settles_received c d s t came lost (Some more) rest g e fresh after sound scopes has split hears missed =
    let part = behind_scope t d came lost more (sends_in_scope d c.vector t.entries) g has split hears.greeting in
    received_some c d s t sound.set t.limit sound.limit sound.within scopes more lost rest e fresh after part missed

settles_all : (c d : MeetingScope) (s t : Seen) (came lost : List ℕ) (between rest : Option (List ℕ)) (g : Greeting)
    (batch : List Entry) (r : Received) (after : Seen) → IsSound t → AreScopes c d s t
    → HasGreeting t.site t.script d.vector → came ++ lost ≡ greets t d ++ sends_in_scope d c.vector t.entries
    → Hears s (Some came) between g → ReadsStream between rest batch → Receives s c batch r after
    → GainsSome (is_exchanged c d) s t r.taken.fresh after
settles_all c d s t came lost None rest g batch r after sound scopes has split hears reads receives =
    absurd hears.greeting.consumed
settles_all c d s t came lost (Some more) rest g batch r after sound scopes has split hears reads receives =
    let part = behind_scope t d came lost more (sends_in_scope d c.vector t.entries) g has split hears.greeting in
    received_all c d s t sound.set t.limit sound.limit sound.within scopes more lost rest batch r after part reads
    receives

pub cut_settle_in_scope : CutSettleInScope
cut_settle_in_scope c d s t came lost rest old new e fresh after sound scopes has split settled = elim settled.2 [
  | inl unheard ↦ inl (unheard.0, unheard.1.2.1)
  | inr missed ↦
      inr (settles_received c d s t came lost missed.0 rest missed.1 e fresh after sound scopes has split missed.2
      missed.3)
]

-- a greeting that came whole is not reported as cut
scope_not_cut : (t : Seen) (d : MeetingScope) (more : List ℕ) (rest : Option (List ℕ)) (old new : ℕ)
    → HasGreeting t.site t.script d.vector
    → MissesGreeting frame_error.Cut (Some (greets t d ++ more)) rest old new → ⊥
scope_not_cut t d more rest old new has (bytes, consumed, told) =
    let is = read_to_end (greets t d ++ more) bytes rest consumed told.1 in
    let read = ap greeting_at is ∙ scope_read t d more has in
    let wrong : ◌≡◌ {A = Result (Greeting × List ℕ) Miss} (Err short) (Ok (greeting_of t d.vector, more)) =
    sym told.0 ∙ read in
    absurd cc

settles_none : (c d : MeetingScope) (s t : Seen) (more lost : List ℕ) (between rest : Option (List ℕ)) (g : Greeting)
    (fresh : ℕ) (after : Seen) (x : Entry) → is_set s.entries ≡ true → IsSound t → AreScopes c d s t
    → HasGreeting t.site t.script d.vector → more ++ lost ≡ sends_in_scope d c.vector t.entries
    → ComesInScope d c.vector t more x → is_left_out c.left_out.items x ≡ false
    → Hears s (Some (greets t d ++ more)) between g
    → NotReceived s c between rest (Frame frame_error.Cut fresh) after → has after.entries x ≡ true
settles_none c d s t more lost None rest g fresh after x set_s sound scopes has split comes left_in hears missed =
    absurd hears.greeting.consumed
settles_none c d s t more lost (Some left) rest g fresh after x set_s sound scopes has split comes left_in hears miss =
    let read = scope_read t d more has in
    let one = reads_same (greets t d ++ more) left more g (greeting_of t d.vector) hears.greeting read in
    let same : left ≡ more = ap (λ (p : Greeting × List ℕ). p.1) one in
    received_none c d s t sound.set t.limit sound.limit sound.within scopes more lost rest fresh after x set_s split
    comes left_in (subst (λ (b : List ℕ). NotReceived s c (Some b) rest (Frame frame_error.Cut fresh) after) same miss)

pub cut_settle_in_scope_loses_none : CutSettleInScopeLosesNone
cut_settle_in_scope_loses_none c d s t more lost rest old new fresh after x sound_s sound scopes has split =
    λ comes left_in settled. elim settled.2 [
      | inl unheard ↦
          absurd (scope_not_cut t d more rest unheard.1.0 unheard.1.1 has unheard.1.2.0)
      | inr missed ↦
          settles_none c d s t more lost missed.0 rest missed.1 fresh after x sound_s.set sound scopes has split comes
          left_in missed.2 missed.3
    ]

-- ---- what is not exchanged

one_of : (a b : Bool) → (b ≡ true → a ≡ true) → (a ≡ true → b ≡ true) → a ≡ b
one_of true b f g = sym (g refl)
one_of false true f g = absurd (false≢true (f refl))
one_of false false f g = refl

pub cut_left_out_stays : CutLeftOutStays
cut_left_out_stays c d s t fresh after sound gains e out = elim gains [
  | inl none ↦ ap (λ (u : Seen). has u.entries e) none.0
  | inr some ↦
      let keeps = cut_meeting_keeps (is_exchanged c d) s t some.0 after sound some.1 e in
      one_of (has after.entries e) (has s.entries e) keeps.0 (λ here. elim (keeps.1 here) [
        | inl held ↦ held
        | inr new ↦ absurd (false≢true (sym out ∙ new.1))
      ])
]

-- ---- the steps

appends_all : (old new : Option (List ℕ)) (bytes : List ℕ) → Appends old new bytes → AppendsFront old new bytes
appends_all old new bytes appends = (bytes, [], sym (append-nil bytes), appends)

abbrev AnswersPrefix : Seen → MeetingScope → LinkData → LinkData → Type 0
AnswersPrefix t d old new =
    (g : Greeting) × Hears t old.left new.left g
    × AppendsFront old.held new.held (greets t d ++ sends_in_scope d g.vector t.entries)

answers_prefix : (t : Seen) (d : MeetingScope) (old new : LinkData) → AnswersInPart t d old new
    → AnswersPrefix t d old new
answers_prefix t d old new part = elim part [
  | inl all ↦
      let answers = all.1.1 in
      let bytes = greets t d ++ sends_in_scope d all.1.0.vector t.entries in
      (all.1.0, answers.heard, appends_all old.held new.held bytes answers.written)
  | inr some ↦ (some.1.0, some.1.1.heard, some.1.1.written)
]

-- so many are new
as_fresh : (keep : Entry → Bool) (s t : Seen) (fresh : ℕ) (gains : Taken) (after : Seen) → fresh ≡ gains.fresh
    → GainsSome keep s t gains.fresh after → GainsSome keep s t fresh after
as_fresh keep s t fresh gains after same some = subst (λ (n : ℕ). GainsSome keep s t n after) (sym same) some

pub cut_answer_in_scope : CutAnswerInScope
cut_answer_in_scope c d s t after fresh sound scopes has meet =
    let l = meet.links in
    let came = arrived (l 0) (l 1) (l 2) (greets s c) meet.greeting meet.greeted.1 in
    let (g, hears, written) = answers_prefix t d (l 2) (l 3) meet.answered in
    let one = scope_heard s t c meet.greeting.behind (l 2).left (l 3).left g has.0 came hears in
    let a = meet.answer in
    let said = greets t d ++ sends_in_scope d g.vector t.entries in
    let some = wrote_some (l 2).held (l 3).held a.before (a.came ++ a.lost) said a.was_held a.is_held written in
    let split = lost_some a.came a.lost some.0 said some.1
    ∙ ap (λ (v : VersionVector). greets t d ++ sends_in_scope d v t.entries) one in
    elim meet.settled [
      | inl all ↦
          let (r, settled, same) = all in
          let settles = settled.1 in
          let hears = subst (λ (o : Option (List ℕ)). Hears s o settles.between settled.0) a.comes settles.heard in
          let gains = settles_all c d s t a.came (a.lost ++ some.0) settles.between (l 5).left settled.0 settles.batch r
          after sound scopes has.1 split hears settles.reads settles.receives in
          inr (as_fresh (is_exchanged c d) s t fresh r.taken after same gains)
      | inr cut ↦
          let settled = subst (λ (o : Option (List ℕ)).
          SettledInScope s c o (l 5).left (l 4).held (Err (Frame cut.0 fresh)) (l 5).held after) a.comes cut.1 in
          cut_settle_in_scope c d s t a.came (a.lost ++ some.0) (l 5).left (l 4).held (l 5).held cut.0 fresh after sound
          scopes has.1 split settled
    ]

-- what the first site took, and the prefix that it wrote
record SettlesPrefix (s : Seen) (c : MeetingScope) (old new : LinkData) (after : Seen) : Type 0 where
  greeting : Greeting
  received : Received
  between : Option (List ℕ)
  batch : List Entry
  heard : Hears s old.left between greeting
  receives : Receives s c batch received after
  written : AppendsFront old.held new.held (sends_in_scope c greeting.vector after.entries)

settles_prefix : (s : Seen) (c : MeetingScope) (old new : LinkData) (after : Seen) → SettlesInPart s c old new after
    → SettlesPrefix s c old new after
settles_prefix s c old new after part = elim part [
  | inl all ↦
      let settles = all.1.1 in
      let bytes = sends_in_scope c all.1.0.vector after.entries in
      record {
        greeting = all.1.0;
        received = all.0;
        between = settles.between;
        batch = settles.batch;
        heard = settles.heard;
        receives = settles.receives;
        written = appends_all old.held new.held bytes settles.written;
      }
  | inr some ↦
      let settles = some.1.2 in
      record {
        greeting = some.1.0;
        received = some.1.1;
        between = settles.between;
        batch = settles.batch;
        heard = settles.heard;
        receives = settles.receives;
        written = settles.written;
      }
]

pub cut_reply_in_scope : CutReplyInScope
cut_reply_in_scope c d s t after other fresh sound scopes has meet =
    let l = meet.links in
    let (g, answers, framed, is) = meet.answered in
    let said = sends_in_scope d g.vector t.entries in
    let more = said ++ meet.answer.behind in
    let came = arrived (l 2) (l 3) (l 4) (greets t d ++ said) meet.answer answers.written
    ∙ ap Some (append_assoc (greets t d) said meet.answer.behind) in
    let p = settles_prefix s c (l 4) (l 5) after meet.settled in
    let one = scope_heard t s d more (l 4).left p.between p.greeting has.1 came p.heard in
    let batch = taken c.left_out.items p.receives.vector p.batch in
    let within = within_limit s batch p.received.taken after sound p.receives.takes in
    let up = joined s batch p.received.taken after sound.set p.receives.takes in
    let set = ap (λ (u : Seen). is_set u.entries) p.receives.takes.union ∙ up.set in
    let r = meet.reply in
    let sends = sends_in_scope c p.greeting.vector after.entries in
    let some = wrote_some (l 4).held (l 5).held r.before (r.came ++ r.lost) sends r.was_held r.is_held p.written in
    let split = lost_some r.came r.lost some.0 sends some.1
    ∙ ap (λ (v : VersionVector). sends_in_scope c v after.entries) one in
    elim meet.finished [
      | inl all ↦
          let (x, finished, same) = all in
          let reads = subst (λ (o : Option (List ℕ)). ReadsStream o (l 7).left finished.1) r.comes finished.2 in
          let gains = received_all d c t after set s.limit sound.limit within scopes r.came (r.lost ++ some.0)
          (l 7).left finished.1 x other split reads finished.3 in
          as_fresh (is_exchanged d c) t after fresh x.taken other same gains
      | inr cut ↦
          let finished = subst (λ (o : Option (List ℕ)).
          FinishedInScope t d o (l 7).left (Err (Frame cut.0 fresh)) other) r.comes cut.1 in
          received_some d c t after set s.limit sound.limit within scopes r.came (r.lost ++ some.0) (l 7).left cut.0
          fresh other split finished.1
    ]
