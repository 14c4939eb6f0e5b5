-- What an open keeper's writer holds is its journal after each call, where it was before.
use Rattle.std.proofs.Common.{◌≡◌, true, true≢false, List, ℕ, Result, Ok, Err, sym, ap, ◌∙◌}
use Rattle.td_io.specs.Views.{Output}
use Rattle.td_stamps.specs.declared.entry.Entry.{Entry}
use Rattle.td_replica.specs.Calls.{Issues, StaysClosed, Takes}
use Rattle.td_replica.specs.Seen.{Seen, IsSound}
use Rattle.td_replica.specs.declared.calls.Issued.{Issued}
use Rattle.td_replica.specs.declared.calls.Taken.{Taken}
use Rattle.td_replica.specs.declared.refusal.IssueError.{IssueError}
use Rattle.td_replica.specs.declared.refusal.IssueError.TheVariants as issue_error
use Rattle.td_replica.specs.declared.refusal.TakeError.{TakeError}
use Rattle.td_replica.specs.declared.refusal.TakeError.TheVariants as take_error
use Rattle.td_journal.specs.Keepers.{IsJournaled}
use Rattle.td_journal.specs.Keeping.{JournalsBatch, JournalsIssue}
use Rattle.td_journal.proofs.Grown.{issue_keeps, take_keeps}

never_open : (s after : Seen) → StaysClosed s after → after.live ≡ true → s.live ≡ true
never_open s after h live = absurd (true≢false (sym live ∙ ap (λ (t : Seen). t.live) h.1 ∙ h.0))

-- a site that is open after a call was open before it
was_open_to_issue : (s after : Seen) (text : List ℕ) (r : Result Issued IssueError) → Issues s text r after → after.live ≡ true → s.live ≡ true
was_open_to_issue s after text (Ok i) h live = h.live
was_open_to_issue s after text (Err issue_error.Broken) h live = never_open s after h live
was_open_to_issue s after text (Err issue_error.Syntax) h live = h.0.0
was_open_to_issue s after text (Err issue_error.IllTyped) h live = h.0.0
was_open_to_issue s after text (Err issue_error.ClockEnd) h live = h.0.0
was_open_to_issue s after text (Err issue_error.Full) h live = h.0.0
was_open_to_issue s after text (Err issue_error.OutOfMemory) h live = h.0.0
was_open_to_issue s after text (Err issue_error.JournalWrite) (statement, e, next, closes) live = closes.0

was_open_to_take : (s after : Seen) (batch : List Entry) (r : Result Taken TakeError) → Takes s batch r after → after.live ≡ true → s.live ≡ true
was_open_to_take s after batch (Ok t) h live = h.live
was_open_to_take s after batch (Err take_error.Broken) h live = never_open s after h live
was_open_to_take s after batch (Err take_error.BadEntry) h live = h.0.0
was_open_to_take s after batch (Err (take_error.Clash site seq)) h live = h.0.0
was_open_to_take s after batch (Err take_error.Full) h live = h.0.0
was_open_to_take s after batch (Err take_error.OutOfMemory) h live = h.0.0
was_open_to_take s after batch (Err take_error.JournalWrite) (n, check, some, closes) live = closes.0

pub issue_stays :
    (s after : Seen) (text : List ℕ) (r : Result Issued IssueError) (old new : Output) → Issues s text r after → JournalsIssue s r after old new
    → IsJournaled s old → IsJournaled after new
issue_stays s after text r old new h written was live =
    let before = was_open_to_issue s after text r h live in
    let (bytes, held, j) = was before in
    issue_keeps s after text bytes r old new held j h written before live

pub take_stays :
    (s after : Seen) (batch : List Entry) (r : Result Taken TakeError) (old new : Output) → IsSound s → Takes s batch r after → JournalsBatch s batch r old new
    → IsJournaled s old → IsJournaled after new
take_stays s after batch r old new sound h written was live =
    let before = was_open_to_take s after batch r h live in
    let (bytes, held, j) = was before in
    take_keeps s after batch bytes r old new sound held j h written before live
