-- What comes of a step whose write fails is a prefix of its stream, and a site takes that.
use Rattle.std.proofs.Common.{◌≡◌, ◌≤◌, ℕ, Bool, true, false, cond, List, [], ◌∷◌, ◌++◌, length, Option, Some, None}
use Rattle.std.proofs.Common.{Ok, inl, inr, refl, sym, ap, subst, ◌∙◌, append_assoc}
use Rattle.std.specs.List.{AllByRecursion, filter}
use Rattle.td_io.specs.Streams.{AppendsFront}
use Rattle.td_stamps.specs.Vectors.{IsVector, VersionVector, after_vector, lacks}
use Rattle.td_stamps.specs.declared.entry.Entry.{Entry}
use Rattle.td_frames.specs.Reading.{most_entries}
use Rattle.td_frames.specs.Spelling.{HasFrame, stream}
use Rattle.td_frames.specs.declared.greeting.Greeting.{Greeting}
use Rattle.td_frames.specs.declared.version.Version.TheVariants.{Second}
use Rattle.td_replica.specs.Seen.{Seen, IsSound}
use Rattle.td_replica.specs.Calls.{TakesBatch}
use Rattle.td_replica.specs.declared.calls.Taken.{Taken}
use Rattle.td_meeting.specs.Reading.{Hears, MissesEntries, ReadsStream}
use Rattle.td_meeting.specs.Steps.{LinkData}
use Rattle.td_meeting.specs.Writing.{Greets, sends}
use Rattle.td_agreement.specs.CutStreams.{GainsAtMost, GainsSome, every, kept_after}
use Rattle.td_agreement.specs.CutWriters.{AreFramed, FailedAnswerTakesSome, FailedAnswerWritesPrefix}
use Rattle.td_agreement.specs.CutWriters.{FailedReplyTakesSome, FailedSettleWritesPrefix, SettledOverCut}
use Rattle.td_agreement.proofs.CutStreams.{behind, behind_greeting, cut_settle_takes_some, cut_stream_is_front}
use Rattle.td_agreement.proofs.CutStreams.{every_sent, few_kept, misses_some, within_limit}
use Rattle.td_agreement.proofs.Interleaved.{arrived, heard, wrote}

-- what passes a test, of entries that have frames
pub framed_kept : (keep : Entry → Bool) (xs : List Entry) → AllByRecursion (HasFrame Second) xs
    → AllByRecursion (HasFrame Second) (filter keep xs)
framed_kept keep [] framed = tt
framed_kept keep (x ∷ xs) framed =
    let rest = framed_kept keep xs framed.1 in
    elim (keep x) as (λ b. AllByRecursion (HasFrame Second) (cond b (x ∷ filter keep xs) (filter keep xs))) [
      | true ↦ (framed.0, rest)
      | false ↦ rest
    ]

framed_sent : (t : Seen) (v : VersionVector) → AreFramed t → AllByRecursion (HasFrame Second) (kept_after every v t)
framed_sent t v framed = framed_kept every (after_vector v t.entries) (framed_kept (lacks v) t.entries framed)

-- what a writer appended before it failed, with what it did not
pub wrote_some : (old new : Option (List ℕ)) (before bytes said : List ℕ) → old ≡ Some before
    → new ≡ Some (before ++ bytes) → AppendsFront old new said → (rest : List ℕ) × (bytes ++ rest ≡ said)
wrote_some old new before bytes said was is (front, rest, all, appends) =
    (rest, ap (λ (l : List ℕ). l ++ rest) (wrote old new before bytes front was is appends) ∙ sym all)

-- and with what was lost of it
pub lost_some : (came lost rest said : List ℕ) → (came ++ lost) ++ rest ≡ said → came ++ (lost ++ rest) ≡ said
lost_some came lost rest said is = sym (append_assoc came lost rest) ∙ is

pub failed_answer_writes_prefix : FailedAnswerWritesPrefix
failed_answer_writes_prefix s old new count bytes (g, answers, failed, none) (before, was, is) =
    let some = wrote_some old.held new.held before bytes (answers.own ++ sends s g.vector) was is answers.written in
    (g, answers.own, some.0, answers.greets, some.1)

pub failed_settle_writes_prefix : FailedSettleWritesPrefix
failed_settle_writes_prefix s after old new count bytes (g, gains, settles, failed, took) (before, was, is) =
    let some = wrote_some old.held new.held before bytes (sends after g.vector) was is settles.written in
    (g, some.0, some.1)

-- ---- a stream that came complete

module _ (keep : Entry → Bool) (s t : Seen) (v : VersionVector) (within : length (kept_after keep v t) ≤ most_entries)
    (is : IsVector s.entries v) (framed : AllByRecursion (HasFrame Second) (kept_after keep v t)) where
  reads_some : (came lost : List ℕ) (rest : Option (List ℕ)) (batch : List Entry) (gains : Taken) (after : Seen)
      → came ++ lost ≡ stream Second (kept_after keep v t) → ReadsStream (Some came) rest batch
      → TakesBatch s batch gains after → GainsSome keep s t gains.fresh after
  reads_some came lost rest batch gains after split reads takes =
      let sent = kept_after keep v t in
      let (more, all) = behind came lost reads.bytes rest reads.consumed in
      let front = cut_stream_is_front Second most_entries sent batch reads.bytes more (Ok []) within framed
      (all ∙ split) reads.reads in (
        gains,
        record {
          vector = v;
          is = is;
          count = length batch;
          takes = subst (λ (b : List Entry). TakesBatch s b gains after) front.0 takes;
        },
        refl,
      )

  settles_all : (own came lost : List ℕ) (between left : Option (List ℕ)) (g : Greeting) (batch : List Entry)
      (gains : Taken) (after : Seen) → Greets t own → came ++ lost ≡ own ++ stream Second (kept_after keep v t)
      → Hears s (Some came) between g → ReadsStream between left batch → TakesBatch s batch gains after
      → GainsSome keep s t gains.fresh after
  settles_all own came lost None left g batch gains after greets split hears reads takes =
      absurd hears.greeting.consumed
  settles_all own came lost (Some more) left g batch gains after greets split hears reads takes =
      let sent = stream Second (kept_after keep v t) in
      let part = behind_greeting t own came lost more sent g greets split hears.greeting in
      reads_some more lost left batch gains after part reads takes

-- so many are new
as_fresh : (keep : Entry → Bool) (s t : Seen) (fresh : ℕ) (gains : Taken) (after : Seen) → fresh ≡ gains.fresh
    → GainsSome keep s t gains.fresh after → GainsSome keep s t fresh after
as_fresh keep s t fresh gains after same some = subst (λ (n : ℕ). GainsSome keep s t n after) (sym same) some

settled_some : (keep : Entry → Bool) (s t : Seen) (v : VersionVector) (own came lost : List ℕ) (old new : LinkData)
    (fresh : ℕ) (after : Seen) → IsSound t → IsVector s.entries v → Greets t own
    → AllByRecursion (HasFrame Second) (kept_after keep v t) → old.left ≡ Some came
    → came ++ lost ≡ own ++ stream Second (kept_after keep v t) → SettledOverCut s old new fresh after
    → GainsAtMost keep s t fresh after
settled_some keep s t v own came lost old new fresh after sound is greets framed comes split part = elim part [
  | inl all ↦
      let (gains, settled, same) = all in
      let settles = settled.1 in
      let hears = subst (λ (o : Option (List ℕ)). Hears s o settles.between settled.0) comes settles.heard in
      let within = few_kept keep t v t.limit sound.limit sound.within in
      let some = settles_all keep s t v within is framed own came lost settles.between new.left settled.0 settles.batch
      gains after greets split hears settles.reads settles.takes in
      inr (as_fresh keep s t fresh gains after same some)
  | inr cut ↦
      cut_settle_takes_some keep s t v own came lost old new cut.0 fresh after sound is greets framed comes split cut.1
]

pub failed_answer_takes_some : FailedAnswerTakesSome
failed_answer_takes_some s t after fresh sound framed meet =
    let l = meet.links in
    let (live, own, greets, written) = meet.greeted.0 in
    let (g, answers, failed, none) = meet.answered in
    let came = arrived (l 0) (l 1) (l 2) own meet.greeting written in
    let hears = subst (λ (o : Option (List ℕ)). Hears t o (l 3).left g) came answers.heard in
    let first = heard s t own meet.greeting.behind greets g (l 3).left hears in
    let is = subst (λ (x : Greeting). IsVector s.entries x.vector) (sym first.0) greets.is in
    let a = meet.answer in
    let some = wrote_some (l 2).held (l 3).held a.before (a.came ++ a.lost) (answers.own ++ sends t g.vector) a.was_held
    a.is_held answers.written in
    let split = lost_some a.came a.lost some.0 (answers.own ++ sends t g.vector) some.1
    ∙ ap (λ (b : List ℕ). answers.own ++ b) (every_sent t g.vector) in
    settled_some every s t g.vector answers.own a.came (a.lost ++ some.0) (l 4) (l 5) fresh after sound is
    answers.greets (framed_sent t g.vector framed) a.comes split meet.settled

pub failed_reply_takes_some : FailedReplyTakesSome
failed_reply_takes_some s t after other took fresh sound framed meet =
    let l = meet.links in
    let (g, answers, sent, count, flushed) = meet.answered in
    let (h, gains, settles, failed, gained) = meet.settled in
    let more = sends t g.vector ++ meet.answer.behind in
    let comes : (l 4).left ≡ Some (answers.own ++ more) =
    arrived (l 2) (l 3) (l 4) (answers.own ++ sends t g.vector) meet.answer answers.written
    ∙ ap Some (append_assoc answers.own (sends t g.vector) meet.answer.behind) in
    let hears = subst (λ (o : Option (List ℕ)). Hears s o settles.between h) comes settles.heard in
    let second = heard t s answers.own more answers.greets h settles.between hears in
    let is = subst (λ (x : Greeting). IsVector t.entries x.vector) (sym second.0) answers.greets.is in
    let fits = within_limit s settles.batch gains after sound settles.takes in
    let within = few_kept every after h.vector s.limit sound.limit fits in
    let r = meet.reply in
    let some = wrote_some (l 4).held (l 5).held r.before (r.came ++ r.lost) (sends after h.vector) r.was_held r.is_held
    settles.written in
    let split = lost_some r.came r.lost some.0 (sends after h.vector) some.1 ∙ every_sent after h.vector in
    let sent = framed_sent after h.vector framed in
    elim meet.finished [
      | inl all ↦
          let (gives, finished, same) = all in
          let reads = subst (λ (o : Option (List ℕ)). ReadsStream o (l 7).left finished.1) r.comes finished.2 in
          as_fresh every t after fresh gives other same (reads_some every t after h.vector within is sent r.came
          (r.lost ++ some.0) (l 7).left finished.1 gives other split reads finished.3)
      | inr cut ↦
          let missed = subst (λ (o : Option (List ℕ)).
          MissesEntries t cut.0 fresh o (l 7).left (l 6).failures (l 7).failures other) r.comes cut.1.1 in
          misses_some every t after h.vector within is sent r.came (r.lost ++ some.0) (l 7).left cut.0 (l 6).failures
          (l 7).failures fresh other split missed
    ]
