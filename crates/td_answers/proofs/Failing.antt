-- The text that tells of a failed journal is told for nothing else, where entries are taken.
use Rattle.std.proofs.Common.{◌≡◌, ◌≢◌, ◌||◌, nat_eq, ℕ, Bool, true, false, List, ◌++◌, codes, decimal, refl, sym, ap, ◌∙◌}
use Rattle.std.specs.List.{list_any}
use Rattle.std.specs.Str.{bytes_eq}
use Rattle.std.proofs.lemmas.Bool.{false≢true}
use Rattle.std.proofs.lemmas.List.Folds.{list_any-append}
use Rattle.td_replica.specs.declared.calls.Issued.{Issued}
use Rattle.td_replica.specs.declared.refusal.IssueError.{IssueError}
use Rattle.td_replica.specs.declared.refusal.IssueError.TheVariants as issue_error
use Rattle.td_replica.specs.declared.refusal.TakeError.{TakeError}
use Rattle.td_replica.specs.declared.refusal.TakeError.TheVariants as take_error
use Rattle.td_frames.specs.declared.error.FrameError.{FrameError}
use Rattle.td_frames.specs.declared.error.FrameError.TheVariants as frame_error
use Rattle.td_meeting.specs.declared.error.MeetingError.{MeetingError}
use Rattle.td_meeting.specs.declared.error.MeetingError.TheVariants as meeting_error
use Rattle.td_meeting.specs.declared.meeting.Met.{Met}
use Rattle.td_listings.specs.Texts.{shown_outcome, shown_stamp}
use Rattle.td_answers.specs.Answers.{issued_line, met_line}
use Rattle.td_answers.specs.Faults.{frame_fault, issue_fault, link_fault, meeting_fault, take_fault}
use Rattle.td_answers.specs.declared.links.LinkError.{LinkError}
use Rattle.td_answers.specs.declared.links.LinkError.TheVariants as link_error

abbrev pub journal_text : List ℕ
journal_text = codes "fault journal\n"

-- a text that differs from it
pub other : {P : Type 0} (text : List ℕ) → bytes_eq text journal_text ≡ false → text ≡ journal_text → P
other text differs same = absurd (false≢true (sym differs ∙ ap (λ l. bytes_eq l journal_text) same ∙ refl))

pub issue_alone : (e : IssueError) → issue_fault e ≡ journal_text → e ≡ issue_error.JournalWrite
issue_alone issue_error.Broken h = other (codes "fault broken\n") refl h
issue_alone issue_error.Syntax h = other (codes "fault syntax\n") refl h
issue_alone issue_error.IllTyped h = other (codes "fault type\n") refl h
issue_alone issue_error.ClockEnd h = other (codes "fault clock\n") refl h
issue_alone issue_error.Full h = other (codes "fault full\n") refl h
issue_alone issue_error.OutOfMemory h = other (codes "fault memory\n") refl h
issue_alone issue_error.JournalWrite h = refl

-- a stamp has a full stop
abbrev is_stop : ℕ → Bool
is_stop c = nat_eq c 46

behind : (b : Bool) → (b || true) ≡ true
behind true = refl
behind false = refl

in_front : (xs ys : List ℕ) → list_any is_stop xs ≡ true → list_any is_stop (xs ++ ys) ≡ true
in_front xs ys has = list_any-append is_stop xs ys ∙ ap (λ b. b || list_any is_stop ys) has

pub issued_alone : {P : Type 0} (i : Issued) → issued_line i ≡ journal_text → P
issued_alone i h =
    let clock = decimal i.stamp.clock in
    let stop : list_any is_stop (clock ++ codes ".") ≡ true = list_any-append is_stop clock (codes ".") ∙ behind (list_any is_stop clock) in
    let stamp = in_front (clock ++ codes ".") (decimal i.stamp.site) stop in
    let outcome = in_front (shown_stamp i.stamp ++ codes " ") (shown_outcome i.outcome) (in_front (shown_stamp i.stamp) (codes " ") stamp) in
    let has : list_any is_stop (issued_line i) ≡ true = in_front (shown_stamp i.stamp ++ codes " " ++ shown_outcome i.outcome) (codes "\n") outcome in
    let none : list_any is_stop journal_text ≡ false = refl in
    absurd (false≢true (sym none ∙ sym (ap (list_any is_stop) h) ∙ has))

frame_alone : {P : Type 0} (e : FrameError) (n : ℕ) → frame_fault e n ≡ journal_text → P
frame_alone frame_error.OutOfMemory n h = other (codes "fault memory\n") refl h
frame_alone frame_error.ReadFault n h = other (frame_fault frame_error.ReadFault n) refl h
frame_alone frame_error.Cut n h = other (frame_fault frame_error.Cut n) refl h
frame_alone frame_error.Magic n h = other (codes "fault magic\n") refl h
frame_alone frame_error.Version n h = other (codes "fault version\n") refl h
frame_alone frame_error.BadFrame n h = other (codes "fault frame\n") refl h

take_alone : (e : TakeError) → take_fault e ≡ journal_text → e ≡ take_error.JournalWrite
take_alone take_error.Broken h = other (codes "fault broken\n") refl h
take_alone take_error.BadEntry h = other (codes "fault entry\n") refl h
take_alone (take_error.Clash site seq) h = other (take_fault (take_error.Clash site seq)) refl h
take_alone take_error.Full h = other (codes "fault full\n") refl h
take_alone take_error.OutOfMemory h = other (codes "fault memory\n") refl h
take_alone take_error.JournalWrite h = refl

pub meeting_alone : (e : MeetingError) → meeting_fault e ≡ journal_text → e ≡ meeting_error.Take take_error.JournalWrite
meeting_alone meeting_error.Broken h = other (codes "fault broken\n") refl h
meeting_alone meeting_error.OutOfMemory h = other (codes "fault memory\n") refl h
meeting_alone (meeting_error.Frame e n) h = frame_alone e n h
meeting_alone meeting_error.OtherScript h = other (codes "fault script\n") refl h
meeting_alone meeting_error.SameSite h = other (codes "fault same site\n") refl h
meeting_alone (meeting_error.WriteFault n) h = other (meeting_fault (meeting_error.WriteFault n)) refl h
meeting_alone (meeting_error.Take e) h = ap meeting_error.Take (take_alone e h)

pub link_alone : {P : Type 0} (e : LinkError) → link_fault e ≡ journal_text → P
link_alone link_error.NetFault h = other (codes "fault net\n") refl h
link_alone link_error.OutOfMemory h = other (codes "fault memory\n") refl h

pub met_alone : {P : Type 0} (n m : ℕ) (met : Met) → met_line n m met ≡ journal_text → P
met_alone n m met h = other (met_line n m met) refl h
