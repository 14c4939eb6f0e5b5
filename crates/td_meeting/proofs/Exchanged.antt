-- A meeting in memory: what one site wrote is what the other one reads.
use Rattle.std.proofs.Common.{◌≡◌, ◌≤◌, ℕ, suc, Bool, true, false, cond, inl, inr, List, [], ◌∷◌, ◌++◌, length, Result, Ok, Err, IsOk, refl, sym, ap, subst, ◌∙◌, append-nil, append_assoc, arith}
use Rattle.std.specs.List.{filter}
use Rattle.std.proofs.lemmas.Bool.Decides.{nat_tests}
use Rattle.td_stamps.specs.Sets.{union}
use Rattle.td_stamps.specs.Vectors.{VersionVector, after_vector, lacks}
use Rattle.td_stamps.specs.declared.entry.Entry.{Entry}
use Rattle.td_stamps.specs.declared.errors.CheckError.{CheckError}
use Rattle.td_stamps.proofs.SetLemmas.{added}
use Rattle.td_frames.specs.Reading.{entries_at, greeting_at, most_entries}
use Rattle.td_frames.specs.declared.greeting.Greeting.{Greeting}
use Rattle.td_frames.proofs.Again.{stream_again}
use Rattle.td_frames.proofs.GreetedAgain.{greeting_again}
use Rattle.td_frames.specs.declared.version.Version.TheVariants.{Second}
use Rattle.td_replica.specs.Calls.{Takes}
use Rattle.td_replica.specs.Seen.{Seen, IsSound, is_limit}
use Rattle.td_replica.specs.declared.calls.Taken.{Taken}
use Rattle.td_replica.specs.declared.refusal.TakeError.{TakeError}
use Rattle.td_replica.specs.declared.refusal.TakeError.TheVariants as take_error
use Rattle.td_meeting.specs.declared.error.MeetingError.{MeetingError}
use Rattle.td_meeting.specs.declared.error.MeetingError.TheVariants.{Broken, OutOfMemory, Frame, OtherScript, SameSite, WriteFault, Take}
use Rattle.td_meeting.specs.declared.meeting.MeetingRefusal.{MeetingRefusal}
use Rattle.td_meeting.specs.Writing.{Greets, sends}
use Rattle.td_meeting.specs.Steps.{AreSent}
use Rattle.td_meeting.specs.Meetings.{AreOpen, AreTwo, MeetsNot, MeetsWhole, TakesFrom}
use Rattle.td_meeting.specs.ForProofs.Carried.{AnswersIn, Heard, HearsIn, IsAnswer, NoReply, ReceivesIn, Settling, SettlesIn, SettlesNot}
use Rattle.td_meeting.specs.ForProofs.Parts.{Untaken}

-- ---- what is read

-- the greeting of a site
abbrev pub greeting_of : (s : Seen) → VersionVector → Greeting
greeting_of s v = record { site = s.site; script = s.script; vector = v }

pub greets_read : (s : Seen) (own more : List ℕ) (g : Greets s own) → greeting_at (own ++ more) ≡ Ok (greeting_of s g.vector, more)
greets_read s own more g = ap (λ (l : List ℕ). greeting_at (l ++ more)) g.spelled ∙ greeting_again s.site s.script g.vector more g.has

fewer_step : (p : Entry → Bool) (b : Bool) (x : Entry) (xs : List Entry) (n : ℕ) → length (filter p xs) ≤ n → length (cond b (x ∷ filter p xs) (filter p xs)) ≤ suc n
fewer_step p true x xs n le = omega (arith, le)
fewer_step p false x xs n le = omega (arith, le)

fewer : (p : Entry → Bool) (xs : List Entry) → length (filter p xs) ≤ length xs
fewer p [] = omega arith
fewer p (x ∷ xs) = fewer_step p (p x) x xs (length xs) (fewer p xs)

within_most : (n : ℕ) → is_limit n ≡ true → n ≤ 100000
within_most n is = grind (arith, nat_tests)

few_held : (s : Seen) (v : VersionVector) → is_limit s.limit ≡ true → length s.entries ≤ s.limit → length (after_vector v s.entries) ≤ most_entries
few_held s v limit within = let most = within_most s.limit limit in let some = fewer (lacks v) s.entries in omega (arith, most, some, within)

pub sends_read_before :
    (s : Seen) (v : VersionVector) (more : List ℕ) → AreSent s v → length (after_vector v s.entries) ≤ most_entries
    → entries_at Second most_entries (sends s v ++ more) ≡ (after_vector v s.entries, Ok more)
sends_read_before s v more sent few = stream_again Second most_entries (after_vector v s.entries) more few sent

sends_read : (s : Seen) (v : VersionVector) → AreSent s v → length (after_vector v s.entries) ≤ most_entries → entries_at Second most_entries (sends s v) ≡ (after_vector v s.entries, Ok [])
sends_read s v sent few = ap (entries_at Second most_entries) (sym (append-nil (sends s v))) ∙ sends_read_before s v [] sent few

-- ---- a greeting that is not answered

heard_not : (s : Seen) (g : Greeting) (more : List ℕ) (e : MeetingError) (rest : List ℕ) → Heard s g more (Err e) rest → NoReply s g e
heard_not s g more Broken rest u = absurd u
heard_not s g more OutOfMemory rest u = u
heard_not s g more (Frame e n) rest u = absurd u
heard_not s g more OtherScript rest u = u
heard_not s g more SameSite rest u = u
heard_not s g more (WriteFault n) rest u = absurd u
heard_not s g more (Take e) rest u = absurd u

pub no_reply : (s : Seen) (left bytes rest : List ℕ) (e : MeetingError) → left ≡ bytes → HearsIn s left (Err e) rest → AnswersIn s bytes (Err e)
no_reply s left bytes rest e same hears = λ g is. heard_not s g [] e rest (hears g [] (ap greeting_at same ∙ is))

-- ---- a stream that is not settled

unheard_settles : (s : Seen) (g : Greeting) (es : List Entry) (more : List ℕ) (e : MeetingError) (rest : List ℕ) → Heard s g more (Err e) rest → SettlesNot s g es e 0 s
unheard_settles s g es more Broken rest u = absurd u
unheard_settles s g es more OutOfMemory rest u = inl (refl, refl)
unheard_settles s g es more (Frame e n) rest u = absurd u
unheard_settles s g es more OtherScript rest u = u
unheard_settles s g es more SameSite rest u = u
unheard_settles s g es more (WriteFault n) rest u = absurd u
unheard_settles s g es more (Take e) rest u = absurd u

abbrev none_took : MeetingError → MeetingRefusal
none_took e = record { error = e; first_took = 0 }

pub settles_unheard : (s : Seen) (left bytes rest : List ℕ) (e : MeetingError) (r : MeetingRefusal) → left ≡ bytes → r ≡ none_took e → HearsIn s left (Err e) rest → SettlesIn s bytes (Err r) s
settles_unheard s left bytes rest e r same is hears = λ g more es found read.
    subst (λ (x : MeetingRefusal). SettlesNot s g es x.error x.first_took s) (sym is) (unheard_settles s g es more e rest (hears g more (ap greeting_at same ∙ found)))

untaken_settles : (s : Seen) (g : Greeting) (es : List Entry) (e : MeetingError) (after : Seen) → Untaken s es e after → SettlesNot s g es e 0 after
untaken_settles s g es Broken after u = absurd u
untaken_settles s g es OutOfMemory after u = inl (u, refl)
untaken_settles s g es (Frame e n) after u = absurd u
untaken_settles s g es OtherScript after u = absurd u
untaken_settles s g es SameSite after u = absurd u
untaken_settles s g es (WriteFault n) after u = absurd u
untaken_settles s g es (Take e) after u = (u, refl)

pub settles_untaken : (s : Seen) (left bytes rest : List ℕ) (x : Greeting) (e : MeetingError) (r : MeetingRefusal) (after : Seen) → left ≡ bytes → r ≡ none_took e → HearsIn s left (Ok x) rest → ReceivesIn s rest (Err e) after
    → SettlesIn s bytes (Err r) after
settles_untaken s left bytes rest x e r after same is hears receives = λ g more es found read.
    let heard = hears g more (ap greeting_at same ∙ found) in
    subst (λ (x : MeetingRefusal). SettlesNot s g es x.error x.first_took after) (sym is) (untaken_settles s g es e after (receives es (ap (entries_at Second most_entries) heard.1 ∙ read)))

-- ---- the last two steps

-- what the first site reads
found : (s t : Seen) (bytes : List ℕ) (answer : IsAnswer s t bytes) → greeting_at bytes ≡ Ok (greeting_of t answer.greets.vector, sends t answer.vector)
found s t bytes answer = ap greeting_at answer.whole ∙ greets_read t answer.own (sends t answer.vector) answer.greets

pub found_before :
    (s t : Seen) (bytes more : List ℕ) (answer : IsAnswer s t bytes)
    → greeting_at (bytes ++ more) ≡ Ok (greeting_of t answer.greets.vector, sends t answer.vector ++ more)
found_before s t bytes more answer =
    ap (λ (l : List ℕ). greeting_at (l ++ more)) answer.whole ∙ ap greeting_at (append_assoc answer.own (sends t answer.vector) more)
    ∙ greets_read t answer.own (sends t answer.vector ++ more) answer.greets

pub stream_before :
    (s t : Seen) (bytes more : List ℕ) (answer : IsAnswer s t bytes) → IsSound t
    → entries_at Second most_entries (sends t answer.vector ++ more) ≡ (after_vector answer.vector t.entries, Ok more)
stream_before s t bytes more answer sound = sends_read_before t answer.vector more answer.sent (few_held t answer.vector sound.limit sound.within)

whole_stream : (s t : Seen) (bytes : List ℕ) (answer : IsAnswer s t bytes) → IsSound t → entries_at Second most_entries (sends t answer.vector) ≡ (after_vector answer.vector t.entries, Ok [])
whole_stream s t bytes answer sound = sends_read t answer.vector answer.sent (few_held t answer.vector sound.limit sound.within)

module _ (s t : Seen) (bytes : List ℕ) (answer : IsAnswer s t bytes) (both : AreOpen s t) (two : AreTwo s t) where
  pub takes_first : (r : Result Taken TakeError) (after : Seen) → Takes s (after_vector answer.vector t.entries) r after → TakesFrom s t r after
  takes_first r after takes = record { both = both; batch = after_vector answer.vector t.entries; lacks = record { vector = answer.vector; first = answer.is; rest = refl }; takes = takes }

  stops_take : (e : TakeError) (took : ℕ) (after : Seen) → Untaken s (after_vector answer.vector t.entries) (Take e) after → took ≡ 0 → MeetsNot s t (Take e) took after t
  stops_take take_error.Broken took after u none = u
  stops_take take_error.OutOfMemory took after u none = u
  stops_take take_error.BadEntry took after u none = (two, inl (takes_first (Err take_error.BadEntry) after u, refl, none))
  stops_take (take_error.Clash a b) took after u none = (two, inl (takes_first (Err (take_error.Clash a b)) after u, refl, none))
  stops_take take_error.Full took after u none = (two, inl (takes_first (Err take_error.Full) after u, refl, none))
  stops_take take_error.JournalWrite took after u none = (two, inl (takes_first (Err take_error.JournalWrite) after u, refl, none))

  stops_by : (e : MeetingError) (took : ℕ) (after : Seen) → SettlesNot s (greeting_of t answer.greets.vector) (after_vector answer.vector t.entries) e took after → MeetsNot s t e took after t
  stops_by Broken took after u = absurd u
  stops_by OutOfMemory took after (inl (stays, none)) = (both, two, inl (stays, refl, none))
  stops_by OutOfMemory took after (inr (x, takes, fresh)) = (both, two, inr (x, takes_first (Ok x) after takes, refl, fresh))
  stops_by (Frame e n) took after u = absurd u
  stops_by OtherScript took after u = absurd (u (sym two.0))
  stops_by SameSite took after u = absurd (two.1 (sym u))
  stops_by (WriteFault n) took after u = absurd u
  stops_by (Take e) took after u = stops_take e took after u.0 u.1

  pub settles : (r : Result (Taken × List ℕ) MeetingRefusal) (after : Seen) → IsSound t → SettlesIn s bytes r after → Settling s (greeting_of t answer.greets.vector) (after_vector answer.vector t.entries) r after
  settles r after sound told =
      told (greeting_of t answer.greets.vector) (sends t answer.vector) (after_vector answer.vector t.entries) (found s t bytes answer) (whole_stream s t bytes answer sound)

  pub meets_stopped : (r : MeetingRefusal) (after : Seen) → IsSound t → SettlesIn s bytes (Err r) after → MeetsNot s t r.error r.first_took after t
  meets_stopped r after sound told = stops_by r.error r.first_took after (settles (Err r) after sound told)

  module _ (gains : Taken) (out : List ℕ) (after : Seen) (sound : IsSound s) (settled : Settling s (greeting_of t answer.greets.vector) (after_vector answer.vector t.entries) (Ok (gains, out)) after) where
    -- the first site holds no more than its limit
    few_then : length (after_vector answer.greets.vector after.entries) ≤ most_entries
    few_then =
        let fits = added s.entries s.limit (after_vector answer.vector t.entries) sound.set sound.ranges (subst (λ (r : Result ℕ CheckError). IsOk r) (sym settled.0.fresh) refl) in
        subst (λ (u : Seen). length (after_vector answer.greets.vector u.entries) ≤ most_entries) (sym settled.0.union)
        (few_held (record { script = s.script; site = s.site; limit = s.limit; entries = union s.entries (after_vector answer.vector t.entries); live = s.live }) answer.greets.vector sound.limit fits.2)

    sent_back : entries_at Second most_entries out ≡ (after_vector answer.greets.vector after.entries, Ok [])
    sent_back = ap (entries_at Second most_entries) settled.1 ∙ sends_read after answer.greets.vector settled.2 few_then

    takes_second : (r : Result Taken TakeError) (other : Seen) → Takes t (after_vector answer.greets.vector after.entries) r other → TakesFrom t after r other
    takes_second r other takes = record {
      both = (both.1, ap (λ (u : Seen). u.live) settled.0.union ∙ both.0);
      batch = after_vector answer.greets.vector after.entries;
      lacks = record { vector = answer.greets.vector; first = answer.greets.is; rest = refl };
      takes = takes;
    }

    pub meets_whole : (gives : Taken) (other : Seen) → ReceivesIn t out (Ok gives) other → MeetsWhole s t (record { fresh_a = gains.fresh; fresh_b = gives.fresh }) after other
    meets_whole gives other told = record {
      two = two;
      gains = gains;
      gives = gives;
      first = takes_first (Ok gains) after settled.0;
      second = takes_second (Ok gives) other (told (after_vector answer.greets.vector after.entries) sent_back);
      first_fresh = refl;
      second_fresh = refl;
    }

    halts_take : (e : TakeError) (other : Seen) → Untaken t (after_vector answer.greets.vector after.entries) (Take e) other → MeetsNot s t (Take e) gains.fresh after other
    halts_take take_error.Broken other u = u
    halts_take take_error.OutOfMemory other u = u
    halts_take take_error.BadEntry other u = (two, inr (gains, takes_first (Ok gains) after settled.0, takes_second (Err take_error.BadEntry) other u, refl))
    halts_take (take_error.Clash a b) other u = (two, inr (gains, takes_first (Ok gains) after settled.0, takes_second (Err (take_error.Clash a b)) other u, refl))
    halts_take take_error.Full other u = (two, inr (gains, takes_first (Ok gains) after settled.0, takes_second (Err take_error.Full) other u, refl))
    halts_take take_error.JournalWrite other u = (two, inr (gains, takes_first (Ok gains) after settled.0, takes_second (Err take_error.JournalWrite) other u, refl))

    halts : (e : MeetingError) (other : Seen) → Untaken t (after_vector answer.greets.vector after.entries) e other → MeetsNot s t e gains.fresh after other
    halts Broken other u = absurd u
    halts OutOfMemory other u = (both, two, inr (gains, takes_first (Ok gains) after settled.0, u, refl))
    halts (Frame e n) other u = absurd u
    halts OtherScript other u = absurd u
    halts SameSite other u = absurd u
    halts (WriteFault n) other u = absurd u
    halts (Take e) other u = halts_take e other u

    pub meets_halted : (e : MeetingError) (other : Seen) → ReceivesIn t out (Err e) other → MeetsNot s t e gains.fresh after other
    meets_halted e other told = halts e other (told (after_vector answer.greets.vector after.entries) sent_back)

-- ---- the first two steps

unanswered : (s t : Seen) (v : VersionVector) (e : MeetingError) → AreOpen s t → AreTwo s t → NoReply t (greeting_of s v) e → MeetsNot s t e 0 s t
unanswered s t v Broken both two u = absurd u
unanswered s t v OutOfMemory both two u = (both, two, inl (refl, refl, refl))
unanswered s t v (Frame e n) both two u = absurd u
unanswered s t v OtherScript both two u = absurd (u two.0)
unanswered s t v SameSite both two u = absurd (two.1 u)
unanswered s t v (WriteFault n) both two u = absurd u
unanswered s t v (Take e) both two u = absurd u

pub not_answered : (s t : Seen) (own bytes : List ℕ) (e : MeetingError) (r : MeetingRefusal) → bytes ≡ own → Greets s own → AreOpen s t → AreTwo s t → r ≡ none_took e → AnswersIn t bytes (Err e) → MeetsNot s t r.error r.first_took s t
not_answered s t own bytes e r same greets both two is told =
    subst (λ (x : MeetingRefusal). MeetsNot s t x.error x.first_took s t) (sym is)
    (unanswered s t greets.vector e both two (told (greeting_of s greets.vector) (ap greeting_at (same ∙ sym (append-nil own)) ∙ greets_read s own [] greets)))

pub is_answer : (s t : Seen) (own bytes answer given : List ℕ) → bytes ≡ own → given ≡ answer → Greets s own → AnswersIn t bytes (Ok answer) → IsAnswer s t given
is_answer s t own bytes answer given same handed greets told =
    let (reply, own_greets, whole, sent) = told (greeting_of s greets.vector) (ap greeting_at (same ∙ sym (append-nil own)) ∙ greets_read s own [] greets) in
    record { vector = greets.vector; is = greets.is; own = reply; greets = own_greets; whole = handed ∙ whole; sent = sent }
