-- Four steps over links whose bytes are known.
use Rattle.std.proofs.Common.{◌≡◌, ℕ, List, [], ◌++◌, Option, Some, None, Result, Ok, sym, ap, subst, ◌∙◌}
use Rattle.std.proofs.lemmas.List.{append_cancel_left}
use Rattle.td_frames.specs.Reading.{Miss, entries_at, most_entries}
use Rattle.td_frames.specs.declared.greeting.Greeting.{Greeting}
use Rattle.td_frames.specs.declared.version.Version.TheVariants.{Second}
use Rattle.td_stamps.specs.Vectors.{after_vector}
use Rattle.td_stamps.specs.declared.entry.Entry.{Entry}
use Rattle.td_replica.specs.Calls.{TakesBatch}
use Rattle.td_replica.specs.Seen.{Seen, IsSound}
use Rattle.td_replica.specs.declared.calls.Taken.{Taken}
use Rattle.td_meeting.specs.ForProofs.Carried.{IsAnswer, ReceivesIn, Settling}
use Rattle.td_meeting.specs.Laws.{MeetBySteps}
use Rattle.td_meeting.specs.Meetings.{AreOpen, AreTwo, MeetsWhole}
use Rattle.td_meeting.specs.Reading.{Hears, ReadsStream}
use Rattle.td_meeting.specs.Steps.{AreSent}
use Rattle.td_meeting.specs.Writing.{Greets, sends}
use Rattle.td_meeting.proofs.Carrying.{reads_same, same_entries}
use Rattle.td_meeting.proofs.Exchanged.{found_before, greeting_of, greets_read, meets_whole, stream_before}
use Rattle.td_meeting.proofs.Steady.{stream_reads}

-- the second site heard the first one's greeting
heard_first :
    (s t : Seen) (greeting more behind : List ℕ) (greets : Greets s greeting) (g : Greeting) → Hears t (Some (greeting ++ more)) (Some behind) g
    → g ≡ greeting_of s greets.vector
heard_first s t greeting more behind greets g hears =
    ap (λ (p : Greeting × List ℕ). p.0) (reads_same (greeting ++ more) behind more g (greeting_of s greets.vector) hears.greeting (greets_read s greeting more greets))

-- what the first site then reads
heard_second :
    (s t : Seen) (answer more : List ℕ) (is : IsAnswer s t answer) (between : Option (List ℕ)) (g : Greeting) → Hears s (Some (answer ++ more)) between g
    → (g ≡ greeting_of t is.greets.vector) × (between ≡ Some (sends t is.vector ++ more))
heard_second s t answer more is None g hears = absurd hears.greeting.consumed
heard_second s t answer more is (Some rest) g hears =
    let same = reads_same (answer ++ more) rest (sends t is.vector ++ more) g (greeting_of t is.greets.vector) hears.greeting (found_before s t answer more is) in
    (ap (λ (p : Greeting × List ℕ). p.0) same, ap (λ (p : Greeting × List ℕ). Some p.1) same)

stream_is :
    {ending : Result (List ℕ) Miss} (left rest : List ℕ) (es batch : List Entry) → ReadsStream (Some left) (Some rest) batch
    → entries_at Second most_entries left ≡ (es, ending) → batch ≡ es
stream_is left rest es batch reads is = same_entries left rest es batch reads.bytes reads.consumed reads.reads is

receives :
    (t : Seen) (back more last : List ℕ) (batch : List Entry) (x : Taken) (other : Seen) → ReadsStream (Some (back ++ more)) (Some last) batch → TakesBatch t batch x other
    → ReceivesIn t back (Ok x) other
receives t back more last batch x other reads takes = λ es is.
    subst (λ (l : List Entry). TakesBatch t l x other) (stream_is (back ++ more) last es batch reads (stream_reads Second most_entries back more [] es is)) takes

pub leave_exchange : (s t : Seen) (gains gives : Taken) (after other : Seen) → IsSound s → IsSound t → MeetBySteps s t gains gives after other
    → MeetsWhole s t (record { fresh_a = gains.fresh; fresh_b = gives.fresh }) after other
leave_exchange s t gains gives after other sound_s sound_t steps =
    let (live, own, greets_own, written) = steps.greeted.0 in
    let greets : Greets s steps.greeting = subst (Greets s) (sym (append_cancel_left steps.first_held steps.greeting own written)) greets_own in
    let (g, answers, sent, count, flushed) = steps.answered in
    let is_first = heard_first s t steps.greeting steps.behind_greeting steps.unread_by_second greets g answers.heard in
    let answer : IsAnswer s t steps.answer = record {
      vector = greets.vector;
      is = greets.is;
      own = answers.own;
      greets = answers.greets;
      whole = append_cancel_left steps.second_held steps.answer (answers.own ++ sends t g.vector) answers.written ∙ ap (λ (x : Greeting). answers.own ++ sends t x.vector) is_first;
      sent = subst (λ (x : Greeting). AreSent t x.vector) is_first sent;
    } in
    let two : AreTwo s t = (sym (ap (λ (x : Greeting). x.script) is_first) ∙ answers.heard.script, λ same. answers.heard.other (ap (λ (x : Greeting). x.site) is_first ∙ same)) in
    let both : AreOpen s t = (live, answers.live) in
    let (h, settles, sent_back, settled_count, settled_flushed) = steps.settled in
    let more = steps.behind_answer in
    let is_second = heard_second s t steps.answer more answer settles.between h settles.heard in
    let left = sends t greets.vector ++ more in
    let reads : ReadsStream (Some left) (Some steps.unread_by_first) settles.batch = subst (λ (o : Option (List ℕ)). ReadsStream o (Some steps.unread_by_first) settles.batch) is_second.1 settles.reads in
    let batch : settles.batch ≡ after_vector greets.vector t.entries =
    stream_is left steps.unread_by_first (after_vector greets.vector t.entries) settles.batch reads (stream_before s t steps.answer more answer sound_t) in
    let settled : Settling s (greeting_of t answers.greets.vector) (after_vector greets.vector t.entries) (Ok (gains, steps.back)) after = (
      subst (λ (l : List Entry). TakesBatch s l gains after) batch settles.takes,
      append_cancel_left (steps.first_held ++ steps.greeting) steps.back (sends after h.vector) settles.written ∙ ap (λ (x : Greeting). sends after x.vector) is_second.0,
      subst (λ (x : Greeting). AreSent after x.vector) is_second.0 sent_back,
    ) in
    let (live_t, last_batch, last_reads, last_takes, last_count) = steps.finished in
    meets_whole s t steps.answer answer both two gains steps.back after sound_s settled gives other
    (receives t steps.back steps.behind_back steps.left_at_last last_batch gives other last_reads last_takes)
