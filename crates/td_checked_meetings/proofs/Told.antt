-- Why entries that came are not taken.
use Rattle.std.proofs.Common.{◌≡◌, ℕ, inl, inr, true, List, [], Option, Result, Ok, Err, refl, sym, subst, ◌∙◌}
use mathlib.Core.Bool.{false≢true}
use Rattle.std.specs.Io.KnownBytes.{Consumes}
use Rattle.std.specs.Result.{IfErr}
use Rattle.td_stamps.specs.declared.entry.Entry.{Entry}
use Rattle.td_frames.specs.Reading.{Miss, short, magic, version, bad, ToldEntries, entries_at, most_entries}
use Rattle.td_frames.specs.declared.error.FrameError.{FrameError}
use Rattle.td_frames.specs.declared.error.FrameError.TheVariants as frame_error
use Rattle.td_frames.specs.declared.version.Version.TheVariants.{Second}
use Rattle.td_replica.specs.Calls.{Takes, TakesBatch}
use Rattle.td_replica.specs.Seen.{Seen}
use Rattle.td_replica.specs.declared.calls.Taken.{Taken}
use Rattle.td_replica.specs.declared.refusal.TakeError.{TakeError}
use Rattle.td_replica.specs.declared.refusal.TakeError.TheVariants as take_error
use Rattle.td_meeting.specs.Reading.{ReadsEntries}
use Rattle.td_meeting.specs.declared.error.MeetingError.{MeetingError}
use Rattle.td_meeting.specs.declared.error.MeetingError.TheVariants.{Broken, OutOfMemory, Frame, OtherScript, SameSite, WriteFault, Take}
use Rattle.td_checked_meetings.specs.ForProofs.{IsSifted, NotTaken, StopsAt, TakesPrefix, not_taken}
use Rattle.td_checked_meetings.specs.Steps.{IsReceived, NotReceived, Receives, ReceivesCut, RefusesReceived, StopsIn}
use Rattle.td_checked_meetings.specs.declared.scope.MeetingScope.{MeetingScope}
use Rattle.td_checked_meetings.specs.declared.sifting.Sifted.{Sifted}
use Rattle.td_checked_meetings.specs.declared.taking.Received.{Received}

-- ---- a batch

module _ (s : Seen) (c : MeetingScope) (es : List Entry) (x : Sifted) (batch : List Entry) (after : Seen) (live : s.live ≡ true) (sifted : IsSifted s c es x) (same : batch ≡ x.entries.items) where
  pub received : (t : Taken) → TakesBatch s batch t after → Receives s c es (record { taken = t; dropped = x.dropped; beyond = x.beyond }) after
  received t takes = record {
    vector = sifted.vector;
    own = sifted.own;
    takes = subst (λ (l : List Entry). TakesBatch s l t after) (same ∙ sifted.entries) takes;
    dropped = sifted.dropped;
    beyond = sifted.beyond;
  }

  refuses : (e : TakeError) → Takes s batch (Err e) after → RefusesReceived s c es e after
  refuses e takes = record { vector = sifted.vector; own = sifted.own; takes = subst (λ (l : List Entry). Takes s l (Err e) after) (same ∙ sifted.entries) takes }

  pub refused : (e : TakeError) → Takes s batch (Err e) after → NotTaken s c es (not_taken e) after
  refused take_error.Broken takes = absurd (false≢true (sym takes.0 ∙ live))
  refused take_error.OutOfMemory takes = takes.0.1
  refused take_error.BadEntry takes = refuses take_error.BadEntry takes
  refused (take_error.Clash site seq) takes = refuses (take_error.Clash site seq) takes
  refused take_error.Full takes = refuses take_error.Full takes
  refused take_error.JournalWrite takes = refuses take_error.JournalWrite takes

-- ---- a stream that is not whole

module _ (s : Seen) (c : MeetingScope) (es : List Entry) (after : Seen) where
  pub takes_none : (error : FrameError) (e : MeetingError) → NotTaken s c es e after → TakesPrefix s c es error e after
  takes_none error Broken none = absurd none
  takes_none error OutOfMemory none = none
  takes_none error (Frame f n) none = absurd none
  takes_none error OtherScript none = absurd none
  takes_none error SameSite none = absurd none
  takes_none error (WriteFault n) none = absurd none
  takes_none error (Take e) none = none

  module _ (left rest : Option (List ℕ)) where
    not_received : (ending : Result (List ℕ) Miss) (e : MeetingError) → ReadsEntries left rest es ending → IsReceived ending → NotTaken s c es e after → NotReceived s c left rest e after
    not_received ending Broken reads is none = absurd none
    not_received ending OutOfMemory reads is none = none
    not_received ending (Frame f n) reads is none = absurd none
    not_received ending OtherScript reads is none = none
    not_received ending SameSite reads is none = none
    not_received ending (WriteFault n) reads is none = none
    not_received ending (Take take_error.Broken) reads is none = absurd none
    not_received ending (Take take_error.OutOfMemory) reads is none = absurd none
    not_received ending (Take take_error.BadEntry) reads is none = (es, ending, reads, is, none)
    not_received ending (Take (take_error.Clash site seq)) reads is none = (es, ending, reads, is, none)
    not_received ending (Take take_error.Full) reads is none = (es, ending, reads, is, none)
    not_received ending (Take take_error.JournalWrite) reads is none = (es, ending, reads, is, none)

    frame_stops : (error : FrameError) (ending : Result (List ℕ) Miss) (e : MeetingError) → ReadsEntries left rest es ending → StopsIn error ending rest → ReceivesCut s c es error 0 after → e ≡ Frame error 0 → NotReceived s c left rest e after
    frame_stops error ending e reads stops cut is = subst (λ (e : MeetingError). NotReceived s c left rest e after) (sym is) (es, ending, reads, stops, cut)

    short_stops : (error : FrameError) (e : MeetingError) → ReadsEntries left rest es (Err short) → StopsIn error (Err short) rest → ((n : ℕ) (r : Received) → Receives s c es r after → n ≡ r.taken.fresh → ReceivesCut s c es error n after)
        → TakesPrefix s c es error e after → NotReceived s c left rest e after
    short_stops error Broken reads stops front told = absurd told
    short_stops error OutOfMemory reads stops front told = told
    short_stops error (Frame f n) reads stops front told =
        subst (λ (d : FrameError). NotReceived s c left rest (Frame d n) after) (sym told.0) (es, Err short, reads, stops, front n told.1 told.2 told.3)
    short_stops error OtherScript reads stops front told = absurd told
    short_stops error SameSite reads stops front told = absurd told
    short_stops error (WriteFault n) reads stops front told = absurd told
    short_stops error (Take e) reads stops front told = not_received (Err short) (Take e) reads (inr refl) told

    module _ (old new : ℕ) (bytes : List ℕ) (consumed : Consumes left rest bytes) where
      read_so : (ending : Result (List ℕ) Miss) → entries_at Second most_entries bytes ≡ (es, ending) → ReadsEntries left rest es ending
      read_so ending reads = record { bytes = bytes; consumed = consumed; reads = reads }

      stops : (error : FrameError) (e : MeetingError) → ToldEntries (Err error) es (entries_at Second most_entries bytes) rest old new → StopsAt s c es error e after → NotReceived s c left rest e after
      stops frame_error.OutOfMemory e told u = subst (λ (e : MeetingError). NotReceived s c left rest e after) (sym u.0) u.1
      stops frame_error.ReadFault e told u = short_stops frame_error.ReadFault e (read_so (Err short) told.0) refl (λ n r takes same. (r, takes, same)) u
      stops frame_error.Cut e told u = short_stops frame_error.Cut e (read_so (Err short) told.0) (refl, told.1) (λ n r takes same. (r, takes, same)) u
      stops frame_error.Magic e told u = frame_stops frame_error.Magic (Err magic) e (read_so (Err magic) told.0) refl (u.1, refl) u.0
      stops frame_error.Version e told u = frame_stops frame_error.Version (Err version) e (read_so (Err version) told.0) refl (u.1, refl) u.0
      stops frame_error.BadFrame e told u = frame_stops frame_error.BadFrame (Err bad) e (read_so (Err bad) told.0) refl (u.1, refl) u.0

      -- where the reading of a stream stopped
      pub stops_told : (told : Result (Unit {0}) FrameError) (error : FrameError) (e : MeetingError) → ToldEntries told es (entries_at Second most_entries bytes) rest old new → told ≡ Err error → StopsAt s c es error e after
          → NotReceived s c left rest e after
      stops_told told error e tells is u = stops error e (subst (λ (r : Result (Unit {0}) FrameError). ToldEntries r es (entries_at Second most_entries bytes) rest old new) is tells) u

      -- what was read whole is not taken
      pub refused_if : (told : Result (Unit {0}) FrameError) (x : Unit {0}) (r : Result Received MeetingError) → ToldEntries told es (entries_at Second most_entries bytes) rest old new → told ≡ Ok x
          → IfErr r (λ e. NotTaken s c es e after) → IfErr r (λ e. NotReceived s c left rest e after)
      refused_if told x (Ok r) tells is none = tt
      refused_if told x (Err e) tells is none =
          let all : ToldEntries (Ok x) es (entries_at Second most_entries bytes) rest old new = subst (λ (r : Result (Unit {0}) FrameError). ToldEntries r es (entries_at Second most_entries bytes) rest old new) is tells in
          not_received (Ok []) e (read_so (Ok []) all.0) (inl refl) none
