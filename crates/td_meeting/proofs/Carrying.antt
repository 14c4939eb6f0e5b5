-- Bytes that are there whole are read whole: no field of theirs misses.
use Rattle.std.proofs.Common.{◌≡◌, ◌≢◌, ℕ, inl, inr, List, [], ◌++◌, Some, Result, Ok, Err, sym, ap, subst, ◌∙◌, append-nil}
use Rattle.std.specs.Result.{IfErr, IfOk}
use Rattle.td_io.specs.Counted.{counted}
use Rattle.td_stamps.specs.declared.entry.Entry.{Entry}
use Rattle.td_frames.specs.Reading.{Miss, short, magic, version, bad, entries_at, greeting_at, most_entries}
use Rattle.td_frames.specs.declared.error.FrameError.{FrameError}
use Rattle.td_frames.specs.declared.error.FrameError.TheVariants as frame_error
use Rattle.td_frames.specs.declared.greeting.Greeting.{Greeting}
use Rattle.td_frames.specs.declared.version.Version.TheVariants.{Second}
use Rattle.td_replica.specs.Calls.{Takes, TakesBatch}
use Rattle.td_replica.specs.Seen.{Seen}
use Rattle.td_replica.specs.declared.calls.Taken.{Taken}
use Rattle.td_replica.specs.declared.refusal.TakeError.{TakeError}
use Rattle.td_replica.specs.declared.refusal.TakeError.TheVariants as take_error
use Rattle.td_meeting.specs.declared.error.MeetingError.{MeetingError}
use Rattle.td_meeting.specs.declared.error.MeetingError.TheVariants.{Broken, OutOfMemory, Frame, OtherScript, SameSite, WriteFault, Take}
use Rattle.td_meeting.specs.Reading.{Hears, IsTaken, MissesEntries, MissesGreeting, ReadsGreeting, ReadsStream, Refuses, Unheard, Unreceived}
use Rattle.td_meeting.specs.ForProofs.Carried.{Heard, HearsIn, ReceivesIn}
use Rattle.td_meeting.specs.ForProofs.Parts.{Untaken}
use Rattle.td_meeting.proofs.Steady.{greeting_steady, stream_reads, stream_refuses}

not_counted : 0 ≡ counted 0 → ⊥
not_counted e = absurd cc

-- ---- a greeting

abbrev Found : Type 0
Found = Result (Greeting × List ℕ) Miss

ok_is : (x y : Greeting × List ℕ) → ◌≡◌ {A = Found} (Ok x) (Ok y) → x ≡ y
ok_is x y e = cc

ok_err : (x : Greeting × List ℕ) (m : Miss) → ◌≡◌ {A = Found} (Ok x) (Err m) → ⊥
ok_err x m e = absurd cc

pub reads_same : (left rest more : List ℕ) (x g : Greeting) → ReadsGreeting (Some left) (Some rest) x → greeting_at left ≡ Ok (g, more) → ◌≡◌ {A = Greeting × List ℕ} (x, rest) (g, more)
reads_same left rest more x g read is = ok_is (x, rest) (g, more) (sym (read.reads rest) ∙ ap greeting_at (sym read.consumed) ∙ is)

refused_not : (left rest bytes : List ℕ) (y : Greeting × List ℕ) (m : Miss) → m ≢ short → left ≡ bytes ++ rest → greeting_at bytes ≡ Err m → greeting_at left ≡ Ok y → ⊥
refused_not left rest bytes y m not_short split e is = ok_err y m (sym is ∙ ap greeting_at split ∙ greeting_steady.refuses bytes rest m not_short e)

magic_not : magic ≢ short
magic_not e = absurd cc

version_not : version ≢ short
version_not e = absurd cc

bad_not : bad ≢ short
bad_not e = absurd cc

misses_not : (left rest : List ℕ) (y : Greeting × List ℕ) (e : FrameError) → MissesGreeting e (Some left) (Some rest) 0 0 → greeting_at left ≡ Ok y → ⊥
misses_not left rest y frame_error.OutOfMemory told is = told
misses_not left rest y frame_error.ReadFault (bytes, split, told) is = not_counted told.1
misses_not left rest y frame_error.Cut (bytes, split, told) is = ok_err y short (sym is ∙ ap greeting_at (split ∙ ap (λ (l : List ℕ). bytes ++ l) told.1 ∙ append-nil bytes) ∙ told.0)
misses_not left rest y frame_error.Magic (bytes, split, told) is = refused_not left rest bytes y magic magic_not split told.0 is
misses_not left rest y frame_error.Version (bytes, split, told) is = refused_not left rest bytes y version version_not split told.0 is
misses_not left rest y frame_error.BadFrame (bytes, split, told) is = refused_not left rest bytes y bad bad_not split told.0 is

unheard_in : (s : Seen) (left rest : List ℕ) (e : MeetingError) (g : Greeting) (more : List ℕ) → Unheard s e (Some left) (Some rest) 0 0 → greeting_at left ≡ Ok (g, more) → Heard s g more (Err e) rest
unheard_in s left rest Broken g more u is = absurd u
unheard_in s left rest OutOfMemory g more u is = tt
unheard_in s left rest (Frame e n) g more u is = absurd (misses_not left rest (g, more) e u.0 is)
unheard_in s left rest OtherScript g more (x, read, differs, count) is = λ same. differs (ap (λ (p : Greeting × List ℕ). p.0.script) (reads_same left rest more x g read is) ∙ same)
unheard_in s left rest SameSite g more (x, read, script, site, count) is = sym (ap (λ (p : Greeting × List ℕ). p.0.site) (reads_same left rest more x g read is)) ∙ site
unheard_in s left rest (WriteFault n) g more u is = absurd u
unheard_in s left rest (Take e) g more u is = absurd u

pub heard_in : (s : Seen) (left rest : List ℕ) (r : Result Greeting MeetingError) → IfOk r (λ g. Hears s (Some left) (Some rest) g × (◌≡◌ {A = ℕ} 0 0)) → IfErr r (λ e. Unheard s e (Some left) (Some rest) 0 0) → HearsIn s left r rest
heard_in s left rest (Ok x) ok err = λ g more is.
    let same = reads_same left rest more x g ok.0.greeting is in
    (ap (λ (p : Greeting × List ℕ). p.0) same, ap (λ (p : Greeting × List ℕ). p.1) same)
heard_in s left rest (Err e) ok err = λ g more is. unheard_in s left rest e g more err is

-- ---- a stream

abbrev Stream : Type 0
Stream = List Entry × Result (List ℕ) Miss

whole_err : (es fs : List Entry) (rest : List ℕ) (m : Miss) → ◌≡◌ {A = Stream} (es, Ok rest) (fs, Err m) → ⊥
whole_err es fs rest m e = let ends = ap (λ (p : Stream). p.1) e in absurd cc

pub same_entries :
    {ending : Result (List ℕ) Miss} (left rest : List ℕ) (es fs : List Entry) (bytes : List ℕ) → left ≡ bytes ++ rest → entries_at Second most_entries bytes ≡ (fs, Ok [])
    → entries_at Second most_entries left ≡ (es, ending) → fs ≡ es
same_entries left rest es fs bytes split read is = ap (λ (p : Stream). p.0) (sym (stream_reads Second most_entries bytes rest [] fs read) ∙ ap (entries_at Second most_entries) (sym split) ∙ is)

cut_not : (left rest bytes : List ℕ) (es fs : List Entry) → left ≡ bytes ++ rest → rest ≡ [] → entries_at Second most_entries bytes ≡ (fs, Err short) → entries_at Second most_entries left ≡ (es, Ok []) → ⊥
cut_not left rest bytes es fs split end read is = whole_err es fs [] short (sym is ∙ ap (entries_at Second most_entries) (split ∙ ap (λ (l : List ℕ). bytes ++ l) end ∙ append-nil bytes) ∙ read)

bad_stream_not : (left rest bytes : List ℕ) (es fs : List Entry) (m : Miss) → m ≢ short → left ≡ bytes ++ rest → entries_at Second most_entries bytes ≡ (fs, Err m) → entries_at Second most_entries left ≡ (es, Ok []) → ⊥
bad_stream_not left rest bytes es fs m not_short split read is = whole_err es fs [] m (sym is ∙ ap (entries_at Second most_entries) split ∙ stream_refuses Second most_entries bytes rest fs m not_short read)

misses_entries_not : (s : Seen) (left rest : List ℕ) (es : List Entry) (e : FrameError) (n : ℕ) (t : Seen) → MissesEntries s e n (Some left) (Some rest) 0 0 t → entries_at Second most_entries left ≡ (es, Ok []) → ⊥
misses_entries_not s left rest es frame_error.OutOfMemory n t u is = u.takes
misses_entries_not s left rest es frame_error.ReadFault n t u is = not_counted u.told.1
misses_entries_not s left rest es frame_error.Cut n t u is = cut_not left rest u.bytes es u.entries u.consumed u.told.1 u.told.0 is
misses_entries_not s left rest es frame_error.Magic n t u is = bad_stream_not left rest u.bytes es u.entries magic magic_not u.consumed u.told.0 is
misses_entries_not s left rest es frame_error.Version n t u is = bad_stream_not left rest u.bytes es u.entries version version_not u.consumed u.told.0 is
misses_entries_not s left rest es frame_error.BadFrame n t u is = bad_stream_not left rest u.bytes es u.entries bad bad_not u.consumed u.told.0 is

refuses_by : (s : Seen) (left rest : List ℕ) (es fs : List Entry) (bytes : List ℕ) (e : TakeError) (t : Seen) (ending : Result (List ℕ) Miss) → IsTaken ending (Some rest) 0 0 → left ≡ bytes ++ rest → entries_at Second most_entries bytes ≡ (fs, ending)
    → Takes s fs (Err e) t → entries_at Second most_entries left ≡ (es, Ok []) → Takes s es (Err e) t
refuses_by s left rest es fs bytes e t (Ok end) taken split read takes is =
    subst (λ (l : List Entry). Takes s l (Err e) t) (same_entries left rest es fs bytes split (read ∙ ap (λ (l : List ℕ). (fs, Ok l)) taken.0) is) takes
refuses_by s left rest es fs bytes e t (Err short) (inl cut) split read takes is = absurd (cut_not left rest bytes es fs split cut.0 read is)
refuses_by s left rest es fs bytes e t (Err short) (inr failed) split read takes is = absurd (not_counted failed)
refuses_by s left rest es fs bytes e t (Err magic) taken split read takes is = absurd taken
refuses_by s left rest es fs bytes e t (Err version) taken split read takes is = absurd taken
refuses_by s left rest es fs bytes e t (Err bad) taken split read takes is = absurd taken

refuses_in : (s : Seen) (left rest : List ℕ) (es : List Entry) (e : TakeError) (t : Seen) → Refuses s e (Some left) (Some rest) 0 0 t → entries_at Second most_entries left ≡ (es, Ok []) → Takes s es (Err e) t
refuses_in s left rest es e t u is = refuses_by s left rest es u.entries u.reads.bytes e t u.ending u.is_taken u.reads.consumed u.reads.reads u.takes is

unreceived_in : (s : Seen) (left rest : List ℕ) (es : List Entry) (e : MeetingError) (t : Seen) → Unreceived s e (Some left) (Some rest) 0 0 t → entries_at Second most_entries left ≡ (es, Ok []) → Untaken s es e t
unreceived_in s left rest es Broken t u is = absurd u
unreceived_in s left rest es OutOfMemory t u is = u.0
unreceived_in s left rest es (Frame e n) t u is = absurd (misses_entries_not s left rest es e n t u is)
unreceived_in s left rest es OtherScript t u is = u
unreceived_in s left rest es SameSite t u is = u
unreceived_in s left rest es (WriteFault n) t u is = u
unreceived_in s left rest es (Take take_error.Broken) t u is = u
unreceived_in s left rest es (Take take_error.OutOfMemory) t u is = u
unreceived_in s left rest es (Take take_error.BadEntry) t u is = refuses_in s left rest es take_error.BadEntry t u is
unreceived_in s left rest es (Take (take_error.Clash a b)) t u is = refuses_in s left rest es (take_error.Clash a b) t u is
unreceived_in s left rest es (Take take_error.Full) t u is = refuses_in s left rest es take_error.Full t u is
unreceived_in s left rest es (Take take_error.JournalWrite) t u is = refuses_in s left rest es take_error.JournalWrite t u is

pub received_in : (s : Seen) (left rest : List ℕ) (r : Result Taken MeetingError) (after : Seen)
    → IfOk r (λ t. (batch : List Entry) × ReadsStream (Some left) (Some rest) batch × TakesBatch s batch t after × (◌≡◌ {A = ℕ} 0 0)) → IfErr r (λ e. Unreceived s e (Some left) (Some rest) 0 0 after) → ReceivesIn s left r after
received_in s left rest (Ok t) after (batch, reads, takes, count) err = λ es is.
    subst (λ (l : List Entry). TakesBatch s l t after) (same_entries left rest es batch reads.bytes reads.consumed reads.reads is) takes
received_in s left rest (Err e) after ok err = λ es is. unreceived_in s left rest es e after err is
