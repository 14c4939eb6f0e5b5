-- A site keeps its script over a link.
use Rattle.std.proofs.Common.{◌≡◌, inl, inr, ℕ, List, Option, Result, Ok, Err}
use Rattle.std.specs.declared.net.parser.AddrParseError.{AddrParseError}
use Rattle.std.specs.declared.net.socket_addr.SocketAddr.{SocketAddr}
use Rattle.td_stamps.specs.declared.entry.Entry.{Entry}
use Rattle.td_frames.specs.declared.error.FrameError.{FrameError}
use Rattle.td_frames.specs.declared.error.FrameError.TheVariants as frame_error
use Rattle.td_replica.specs.Seen.{Seen}
use Rattle.td_replica.specs.declared.calls.Taken.{Taken}
use Rattle.td_replica.specs.declared.refusal.TakeError.TheVariants as take_error
use Rattle.td_meeting.specs.Reading.{TakesFront, Unreceived}
use Rattle.td_meeting.specs.Steps.{Answered, Finished, Greeted, LinkData, Settled, Unsettled}
use Rattle.td_meeting.specs.declared.error.MeetingError.{MeetingError}
use Rattle.td_meeting.specs.declared.error.MeetingError.TheVariants as meeting_error
use Rattle.td_answers.specs.Linked.{CallsOver, InTurn, ServesOver, TellsAddress, TwoSteps}
use Rattle.td_answers.proofs.Scripts.{same_script, take_keeps}

-- ---- a stream that isn't taken whole

front_keeps : (s : Seen) (es : List Entry) (e : FrameError) (taken : ℕ) (t : Seen) → TakesFront s es e taken t → t.script ≡ s.script
front_keeps s es frame_error.ReadFault taken t (x, told, count) = take_keeps s es (Ok x) t told
front_keeps s es frame_error.Cut taken t (x, told, count) = take_keeps s es (Ok x) t told
front_keeps s es frame_error.OutOfMemory taken t told = absurd told
front_keeps s es frame_error.Magic taken t told = same_script s t told.0
front_keeps s es frame_error.Version taken t told = same_script s t told.0
front_keeps s es frame_error.BadFrame taken t told = same_script s t told.0

unreceived_keeps : (s : Seen) (e : MeetingError) (left after : Option (List ℕ)) (old new : ℕ) (t : Seen) → Unreceived s e left after old new t → t.script ≡ s.script
unreceived_keeps s (meeting_error.Frame e taken) left after old new t told = front_keeps s told.entries e taken t told.takes
unreceived_keeps s (meeting_error.Take take_error.Broken) left after old new t told = absurd told
unreceived_keeps s (meeting_error.Take take_error.OutOfMemory) left after old new t told = absurd told
unreceived_keeps s (meeting_error.Take take_error.BadEntry) left after old new t told = take_keeps s told.entries (Err take_error.BadEntry) t told.takes
unreceived_keeps s (meeting_error.Take (take_error.Clash site seq)) left after old new t told = take_keeps s told.entries (Err (take_error.Clash site seq)) t told.takes
unreceived_keeps s (meeting_error.Take take_error.Full) left after old new t told = take_keeps s told.entries (Err take_error.Full) t told.takes
unreceived_keeps s (meeting_error.Take take_error.JournalWrite) left after old new t told = take_keeps s told.entries (Err take_error.JournalWrite) t told.takes
unreceived_keeps s meeting_error.OutOfMemory left after old new t told = same_script s t told.0
unreceived_keeps s meeting_error.Broken left after old new t told = absurd told
unreceived_keeps s meeting_error.OtherScript left after old new t told = absurd told
unreceived_keeps s meeting_error.SameSite left after old new t told = absurd told
unreceived_keeps s (meeting_error.WriteFault taken) left after old new t told = absurd told

-- ---- the two steps that change a site

finish_keeps : (s : Seen) (left rest : Option (List ℕ)) (old new : ℕ) (r : Result Taken MeetingError) (after : Seen) → Finished s left rest old new r after → after.script ≡ s.script
finish_keeps s left rest old new (Ok t) after (live, batch, reads, takes, count) = take_keeps s batch (Ok t) after takes
finish_keeps s left rest old new (Err meeting_error.Broken) after told = same_script s after told.3
finish_keeps s left rest old new (Err meeting_error.OutOfMemory) after told = unreceived_keeps s meeting_error.OutOfMemory left rest old new after told.1
finish_keeps s left rest old new (Err (meeting_error.Frame e taken)) after told = unreceived_keeps s (meeting_error.Frame e taken) left rest old new after told.1
finish_keeps s left rest old new (Err meeting_error.OtherScript) after told = unreceived_keeps s meeting_error.OtherScript left rest old new after told.1
finish_keeps s left rest old new (Err meeting_error.SameSite) after told = unreceived_keeps s meeting_error.SameSite left rest old new after told.1
finish_keeps s left rest old new (Err (meeting_error.WriteFault taken)) after told = unreceived_keeps s (meeting_error.WriteFault taken) left rest old new after told.1
finish_keeps s left rest old new (Err (meeting_error.Take e)) after told = unreceived_keeps s (meeting_error.Take e) left rest old new after told.1

unsettled_keeps : (s : Seen) (old : LinkData) (e : MeetingError) (new : LinkData) (after : Seen) → Unsettled s old e new after → after.script ≡ s.script
unsettled_keeps s old e new after (inl (unheard, same)) = same_script s after same
unsettled_keeps s old e new after (inr (between, g, heard, told)) = unreceived_keeps s e between new.left old.failures new.failures after told

settle_keeps : (s : Seen) (old : LinkData) (r : Result Taken MeetingError) (new : LinkData) (after : Seen) → Settled s old r new after → after.script ≡ s.script
settle_keeps s old (Ok t) new after told = take_keeps s told.1.batch (Ok t) after told.1.takes
settle_keeps s old (Err (meeting_error.WriteFault taken)) new after told = take_keeps s told.2.batch (Ok told.1) after told.2.takes
settle_keeps s old (Err meeting_error.Broken) new after told = same_script s after told.1
settle_keeps s old (Err meeting_error.OutOfMemory) new after told = unsettled_keeps s old meeting_error.OutOfMemory new after told.2
settle_keeps s old (Err (meeting_error.Frame e taken)) new after told = unsettled_keeps s old (meeting_error.Frame e taken) new after told.2
settle_keeps s old (Err meeting_error.OtherScript) new after told = unsettled_keeps s old meeting_error.OtherScript new after told.2
settle_keeps s old (Err meeting_error.SameSite) new after told = unsettled_keeps s old meeting_error.SameSite new after told.2
settle_keeps s old (Err (meeting_error.Take e)) new after told = unsettled_keeps s old (meeting_error.Take e) new after told.2

-- ---- two steps, and a line

abbrev pub KeepsScript : TwoSteps → Type 0
KeepsScript Two = (s : Seen) (old : LinkData) (r : Result Taken MeetingError) (new : LinkData) (after : Seen) → Two s old r new after → after.script ≡ s.script

turns_keep : (First : Seen → LinkData → Result (Unit {0}) MeetingError → LinkData → Type 0) (Second : TwoSteps) → KeepsScript Second → KeepsScript (InTurn First Second)
turns_keep First Second keeps s old r new after (inl (e, is, first, same)) = same_script s after same
turns_keep First Second keeps s old r new after (inr (mid, first, second)) = keeps s mid r new after second

pub serves_keep : KeepsScript ServesOver
serves_keep = turns_keep Answered _ (λ s old r new after told. finish_keeps s old.left new.left old.failures new.failures r after told.0)

pub calls_keep : KeepsScript CallsOver
calls_keep = turns_keep Greeted Settled settle_keeps

pub link_keeps : (Two : TwoSteps) (done : List ℕ) (n : ℕ) (r : Result SocketAddr AddrParseError) (s : Seen) (text : List ℕ) (after : Seen) → KeepsScript Two → TellsAddress Two done n r s text after → after.script ≡ s.script
link_keeps Two done n (Err e) s text after keeps told = same_script s after told.1
link_keeps Two done n (Ok a) s text after keeps (inl told) = same_script s after told.1
link_keeps Two done n (Ok a) s text after keeps (inr told) = keeps s told.old told.answer told.new after told.two
