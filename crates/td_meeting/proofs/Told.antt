-- What the steps tell, put together from what their parts tell.
use Rattle.std.proofs.Common.{◌≡◌, ◌⊎◌, inl, inr, ℕ, true, List, [], Option, Result, Ok, Err, refl, sym, subst}
use Rattle.std.specs.FinMap as by_site
use Rattle.std.specs.Io.KnownBytes.{Consumes, IsAtEnd}
use Rattle.td_io.specs.Counted.{counted}
use Rattle.std.specs.Result.{IfErr, IfOk}
use Rattle.td_stamps.specs.Vectors.{VersionVector, IsVector, sites_fit}
use Rattle.td_stamps.specs.declared.entry.Entry.{Entry}
use Rattle.td_frames.specs.Reading.{Miss, short, magic, version, bad, ToldEntries, entries_at, most_entries}
use Rattle.td_frames.specs.declared.error.FrameError.{FrameError}
use Rattle.td_frames.specs.declared.error.FrameError.TheVariants as frame_error
use Rattle.td_frames.specs.declared.version.Version.TheVariants.{Second}
use Rattle.td_replica.specs.Calls.{TakesBatch}
use Rattle.td_replica.specs.Seen.{Seen}
use Rattle.td_replica.specs.declared.calls.Taken.{Taken}
use Rattle.td_replica.specs.declared.refusal.TakeError.TheVariants as take_error
use Rattle.td_meeting.specs.declared.error.MeetingError.{MeetingError}
use Rattle.td_meeting.specs.declared.error.MeetingError.TheVariants.{Broken, OutOfMemory, Frame, OtherScript, SameSite, WriteFault, Take}
use Rattle.td_meeting.specs.Reading.{IsTaken, MissesEntries, TakesFront, Unreceived}
use Rattle.td_meeting.specs.ForProofs.Parts.{ArePlaces, StopsAt, TakesShort, Untaken}

pub places_told : {V E : Type 0} (es : List Entry) (v : VersionVector) (r : Result V E) (items : V → List (ℕ × ℕ)) → IsVector es v
    → IfOk r (λ x. items x ≡ by_site.entries v) → IfOk r (λ x. sites_fit (items x) ≡ true) → IfOk r (λ x. ArePlaces es (items x))
places_told es v (Ok x) items is places fit = record { vector = v; is = is; places = places; fit = fit }
places_told es v (Err x) items is places fit = tt

-- ---- entries that are not taken

-- a link before and after entries were read from it, and these
pub record Read (left after : Option (List ℕ)) (old new : ℕ) (es : List Entry) (ending : Result (List ℕ) Miss) : Type 0 where
  pub bytes : List ℕ
  pub consumed : Consumes left after bytes
  pub reads : entries_at Second most_entries bytes ≡ (es, ending)
  pub is_taken : IsTaken ending after old new

counted_once : (ending : Result (List ℕ) Miss) (after : Option (List ℕ)) (old new : ℕ) → IsTaken ending after old new → (new ≡ old) ⊎ (new ≡ counted old)
counted_once (Ok rest) after old new taken = inl taken.1
counted_once (Err short) after old new (inl cut) = inl cut.1
counted_once (Err short) after old new (inr failed) = inr failed
counted_once (Err magic) after old new taken = absurd taken
counted_once (Err version) after old new taken = absurd taken
counted_once (Err bad) after old new taken = absurd taken

pub refused : (s : Seen) (left after : Option (List ℕ)) (old new : ℕ) (es : List Entry) (t : Seen) (ending : Result (List ℕ) Miss) (e : MeetingError) → Read left after old new es ending → Untaken s es e t → Unreceived s e left after old new t
refused s left after old new es t ending (Take take_error.Broken) read u = u
refused s left after old new es t ending (Take take_error.OutOfMemory) read u = u
refused s left after old new es t ending (Take take_error.BadEntry) read u = record { entries = es; ending = ending; reads = record { bytes = read.bytes; consumed = read.consumed; reads = read.reads }; is_taken = read.is_taken; takes = u }
refused s left after old new es t ending (Take (take_error.Clash site seq)) read u = record { entries = es; ending = ending; reads = record { bytes = read.bytes; consumed = read.consumed; reads = read.reads }; is_taken = read.is_taken; takes = u }
refused s left after old new es t ending (Take take_error.Full) read u = record { entries = es; ending = ending; reads = record { bytes = read.bytes; consumed = read.consumed; reads = read.reads }; is_taken = read.is_taken; takes = u }
refused s left after old new es t ending (Take take_error.JournalWrite) read u = record { entries = es; ending = ending; reads = record { bytes = read.bytes; consumed = read.consumed; reads = read.reads }; is_taken = read.is_taken; takes = u }
refused s left after old new es t ending OutOfMemory read u = (u, read.bytes, read.consumed, counted_once ending after old new read.is_taken)
refused s left after old new es t ending Broken read u = absurd u
refused s left after old new es t ending (Frame f n) read u = absurd u
refused s left after old new es t ending OtherScript read u = u
refused s left after old new es t ending SameSite read u = u
refused s left after old new es t ending (WriteFault n) read u = u

pub refused_if : (s : Seen) (left after : Option (List ℕ)) (old new : ℕ) (es batch : List Entry) (t : Seen) (bytes : List ℕ) (x : Unit {0}) (told : Result (Unit {0}) FrameError) (r : Result Taken MeetingError)
    → Consumes left after bytes → ToldEntries told es (entries_at Second most_entries bytes) after old new → told ≡ Ok x → batch ≡ es → IfErr r (λ e. Untaken s batch e t) → IfErr r (λ e. Unreceived s e left after old new t)
refused_if s left after old new es batch t bytes x told (Ok y) consumed tells is same u = tt
refused_if s left after old new es batch t bytes x told (Err e) consumed tells is same u =
    let all : ToldEntries (Ok x) es (entries_at Second most_entries bytes) after old new = subst (λ (r : Result (Unit {0}) FrameError). ToldEntries r es (entries_at Second most_entries bytes) after old new) is tells in
    refused s left after old new es t (Ok []) e (record { bytes = bytes; consumed = consumed; reads = all.0; is_taken = (refl, all.1) }) (subst (λ (l : List Entry). Untaken s l e t) same u)

-- ---- a stream that isn't whole

takes_short : (s : Seen) (left after : Option (List ℕ)) (old new : ℕ) (es : List Entry) (t : Seen) (bytes : List ℕ) (error : FrameError) (e : MeetingError)
    → Consumes left after bytes → entries_at Second most_entries bytes ≡ (es, Err short) → ToldEntries (Err error) es (entries_at Second most_entries bytes) after old new
    → (IsAtEnd after × (new ≡ old)) ⊎ (new ≡ counted old) → ((n : ℕ) (x : Taken) → n ≡ x.fresh → TakesBatch s es x t → TakesFront s es error n t) → TakesShort s es error e t → Unreceived s e left after old new t
takes_short s left after old new es t bytes error (Frame f n) consumed reads told why front u =
    subst (λ (f : FrameError). MissesEntries s f n left after old new t) (sym u.0) (record { entries = es; bytes = bytes; consumed = consumed; told = told; takes = front n u.1 u.3 u.2 })
takes_short s left after old new es t bytes error (Take x) consumed reads told why front u = refused s left after old new es t (Err short) (Take x) (record { bytes = bytes; consumed = consumed; reads = reads; is_taken = why }) u
takes_short s left after old new es t bytes error OutOfMemory consumed reads told why front u = (u, bytes, consumed, counted_once (Err short) after old new why)
takes_short s left after old new es t bytes error Broken consumed reads told why front u = absurd u
takes_short s left after old new es t bytes error OtherScript consumed reads told why front u = u
takes_short s left after old new es t bytes error SameSite consumed reads told why front u = u
takes_short s left after old new es t bytes error (WriteFault n) consumed reads told why front u = u

misses : (s : Seen) (left after : Option (List ℕ)) (old new : ℕ) (es : List Entry) (t : Seen) (bytes : List ℕ) (error : FrameError) (e : MeetingError)
    → Consumes left after bytes → ToldEntries (Err error) es (entries_at Second most_entries bytes) after old new → TakesFront s es error 0 t → e ≡ Frame error 0 → Unreceived s e left after old new t
misses s left after old new es t bytes error e consumed told takes is =
    subst (λ (e : MeetingError). Unreceived s e left after old new t) (sym is) (record { entries = es; bytes = bytes; consumed = consumed; told = told; takes = takes })

stops : (s : Seen) (left after : Option (List ℕ)) (old new : ℕ) (es : List Entry) (t : Seen) (bytes : List ℕ) (error : FrameError) (e : MeetingError)
    → Consumes left after bytes → ToldEntries (Err error) es (entries_at Second most_entries bytes) after old new → StopsAt s es error e t → Unreceived s e left after old new t
stops s left after old new es t bytes frame_error.OutOfMemory e consumed told u = subst (λ (e : MeetingError). Unreceived s e left after old new t) (sym u.0) (u.1, bytes, consumed, inl told)
stops s left after old new es t bytes frame_error.ReadFault e consumed told u = takes_short s left after old new es t bytes frame_error.ReadFault e consumed told.0 told (inr told.1) (λ n x same takes. (x, takes, same)) u
stops s left after old new es t bytes frame_error.Cut e consumed told u = takes_short s left after old new es t bytes frame_error.Cut e consumed told.0 told (inl (told.1, told.2)) (λ n x same takes. (x, takes, same)) u
stops s left after old new es t bytes frame_error.Magic e consumed told u = misses s left after old new es t bytes frame_error.Magic e consumed told (u.1, refl) u.0
stops s left after old new es t bytes frame_error.Version e consumed told u = misses s left after old new es t bytes frame_error.Version e consumed told (u.1, refl) u.0
stops s left after old new es t bytes frame_error.BadFrame e consumed told u = misses s left after old new es t bytes frame_error.BadFrame e consumed told (u.1, refl) u.0

pub stops_told : (s : Seen) (left after : Option (List ℕ)) (old new : ℕ) (es batch : List Entry) (t : Seen) (bytes : List ℕ) (error : FrameError) (told : Result (Unit {0}) FrameError) (e : MeetingError)
    → Consumes left after bytes → ToldEntries told es (entries_at Second most_entries bytes) after old new → told ≡ Err error → batch ≡ es → StopsAt s batch error e t → Unreceived s e left after old new t
stops_told s left after old new es batch t bytes error told e consumed tells is same u =
    stops s left after old new es t bytes error e consumed (subst (λ (r : Result (Unit {0}) FrameError). ToldEntries r es (entries_at Second most_entries bytes) after old new) is tells) (subst (λ (l : List Entry). StopsAt s l error e t) same u)
