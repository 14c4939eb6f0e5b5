-- The journal of a keeper: as long as it is open, the header, and a frame for each entry that it holds, in the order in
-- which it accepted them; all in the second version of the formats.
use Rattle.std.specs.Prelude.{◌≡◌, ◌≤◌, ℕ, true, List, [], length, take, Some, Result, Ok, Err}
use Rattle.std.specs.List.{AllByRecursion}
use Rattle.td_io.specs.Views.{Input, Output, output_of}
use Rattle.td_io.specs.declared.streams.Sink as sink
use Rattle.td_stamps.specs.Sets.{union}
use Rattle.td_stamps.specs.declared.entry.Entry.{Entry}
use Rattle.td_frames.specs.Spelling.{HasFrame}
use Rattle.td_frames.specs.declared.version.Version.{Version}
use Rattle.td_frames.specs.declared.version.Version.TheVariants.{Second}
use Rattle.td_replica.specs.Calls.{Issues, Takes}
use Rattle.td_replica.specs.Seen.{Seen, IsSound}
use Rattle.td_replica.specs.declared.replica.Replica as replica
use Rattle.td_replica.specs.declared.calls.Issued.{Issued}
use Rattle.td_replica.specs.declared.calls.Taken.{Taken}
use Rattle.td_replica.specs.declared.refusal.IssueError.{IssueError}
use Rattle.td_replica.specs.declared.refusal.IssueError.TheVariants as issue_error
use Rattle.td_replica.specs.declared.refusal.TakeError.{TakeError}
use Rattle.td_replica.specs.declared.refusal.TakeError.TheVariants as take_error
use Rattle.td_journal.specs.Keeping.{JournalsBatch, JournalsIssue, Starts}
use Rattle.td_journal.specs.Laws.{left_of}
use Rattle.td_journal.specs.Reading.{journal_at}
use Rattle.td_journal.specs.Reopening.{ReopensSite}
use Rattle.td_journal.specs.Spelling.{header, journal}
use Rattle.td_journal.specs.Views.{KeeperData, seen_of}

-- these bytes are the journal, of this version, of what the site holds
pub record IsJournalOf (v : Version) (s : Seen) (bytes : List ℕ) : Type 0 where
  pub entries : List Entry
  pub spelled : bytes ≡ journal v s.site s.script entries
  pub has : AllByRecursion (HasFrame v) entries
  pub holds : union [] entries ≡ s.entries
  pub once : length entries ≡ length s.entries

-- of the version that is written
abbrev pub IsJournal : Seen → List ℕ → Type 0
IsJournal s bytes = IsJournalOf Second s bytes

-- while a site is open, its writer is known to hold its journal
abbrev pub IsJournaled : Seen → Output → Type 0
IsJournaled s w = s.live ≡ true → (bytes : List ℕ) × (w.held ≡ Some bytes) × IsJournal s bytes

abbrev pub KeepsJournal : {R W : Type 0} → replica.Ghosts R → sink.Ghosts W → KeeperData R W → Type 0
KeepsJournal site writer k = IsJournaled (seen_of site k) (output_of writer k.writer)

-- what a writer that held nothing holds is the journal of the site that was started
abbrev pub StartsJournal : Type 0
StartsJournal = (s : Seen) (old new : Output) → IsSound s → old.held ≡ Some [] → Starts s old new → (bytes : List ℕ) × (new.held ≡ Some bytes) × IsJournal s bytes

-- and it is the keeper's journal after each call that leaves it open, whatever that answered
abbrev pub IssueKeepsJournal : Type 0
IssueKeepsJournal =
    (s after : Seen) (text bytes : List ℕ) (r : Result Issued IssueError) (old new : Output) → old.held ≡ Some bytes → IsJournal s bytes → Issues s text r after
    → JournalsIssue s r after old new → s.live ≡ true → after.live ≡ true → (more : List ℕ) × (new.held ≡ Some more) × IsJournal after more

abbrev pub TakeKeepsJournal : Type 0
TakeKeepsJournal =
    (s after : Seen) (batch : List Entry) (bytes : List ℕ) (r : Result Taken TakeError) (old new : Output) → IsSound s → old.held ≡ Some bytes → IsJournal s bytes → Takes s batch r after
    → JournalsBatch s batch r old new → s.live ≡ true → after.live ≡ true → (more : List ℕ) × (new.held ≡ Some more) × IsJournal after more

-- Where the journal failed the writer holds a front of the journal of what the site within holds then, with all that
-- stood there before.
abbrev pub LeavesFront : List ℕ → Seen → Output → Type 0
LeavesFront bytes after new = (all : List ℕ) × IsJournal after all × (k : ℕ) × (length bytes ≤ k) × (new.held ≡ Some (take k all))

abbrev pub FailedIssueLeavesFront : Type 0
FailedIssueLeavesFront =
    (s after : Seen) (text bytes : List ℕ) (old new : Output) → old.held ≡ Some bytes → IsJournal s bytes → Issues s text (Err issue_error.JournalWrite) after
    → JournalsIssue s (Err issue_error.JournalWrite) after old new → LeavesFront bytes after new

abbrev pub FailedTakeLeavesFront : Type 0
FailedTakeLeavesFront =
    (s after : Seen) (batch : List Entry) (bytes : List ℕ) (old new : Output) → IsSound s → old.held ≡ Some bytes → IsJournal s bytes
    → Takes s batch (Err take_error.JournalWrite) after → JournalsBatch s batch (Err take_error.JournalWrite) old new → LeavesFront bytes after new

-- read whole it says what the site holds, and cut after whatever byte the front of it that stands whole; so does one of
-- the first version
abbrev pub JournalSaysAll : Type 0
JournalSaysAll =
    (v : Version) (s : Seen) (bytes : List ℕ) → IsSound s → IsJournalOf v s bytes
    → (es : List Entry) × (union [] es ≡ s.entries) × (journal_at s.site s.script bytes ≡ Ok (es, length bytes, v))
    × ((k : ℕ) → journal_at s.site s.script (take k bytes) ≡ Ok (left_of v s.site s.script es k))

-- a site that was reopened from a front of a journal has what stands whole there for its journal: so it may go on with
-- it
abbrev pub ReopenedHasJournal : Type 0
ReopenedHasJournal =
    (s after : Seen) (bytes front : List ℕ) (k limit whole : ℕ) (version : Version) (old new : Input) → IsSound s → IsJournal s bytes → length (header Second s.site s.script) ≤ k
    → front ≡ take k bytes → old.left ≡ Some front → ReopensSite s.script s.site limit old new after whole version → IsJournal after (take whole front)
