-- What a keeper does to its journal, which is of the second version: it writes the frame of each fresh entry, in the
-- order in which they came, and hands them on; a call that brings nothing fresh leaves the writer as it was.
use Rattle.std.specs.Prelude.{◌≡◌, true, false, List, [], ◌∷◌, ◌++◌, Result, Ok, Err}
use Rattle.std.specs.List.{AllByRecursion}
use Rattle.td_io.specs.Streams.{AppendsFront}
use Rattle.td_io.specs.Views.{Output}
use Rattle.td_stamps.specs.Checks.{fresh_of}
use Rattle.td_stamps.specs.declared.entry.Entry.{Entry}
use Rattle.td_frames.specs.Spelling.{HasFrame, entry_frames}
use Rattle.td_frames.specs.declared.version.Version.TheVariants.{Second}
use Rattle.td_replica.specs.Seen.{Seen}
use Rattle.td_replica.specs.declared.calls.Issued.{Issued}
use Rattle.td_replica.specs.declared.calls.Taken.{Taken}
use Rattle.td_replica.specs.declared.refusal.IssueError.{IssueError}
use Rattle.td_replica.specs.declared.refusal.IssueError.TheVariants as issue_error
use Rattle.td_replica.specs.declared.refusal.TakeError.{TakeError}
use Rattle.td_replica.specs.declared.refusal.TakeError.TheVariants as take_error
use Rattle.td_journal.specs.Spelling.{journal}
use Rattle.td_journal.specs.Written.{HandsOn, WritesPart}
use Rattle.td_journal.specs.declared.keeper.StartError.{StartError}
use Rattle.td_journal.specs.declared.keeper.StartError.TheVariants.{Broken, WriteFault}

-- the frames of these entries, handed on; where there is none, the writer isn't touched
abbrev pub Accepts : List Entry → Output → Output → Type 0
Accepts [] old new = new ≡ old
Accepts (e ∷ es) old new = HandsOn old new (entry_frames Second (e ∷ es)) × AllByRecursion (HasFrame Second) (e ∷ es)

-- a front of these frames, behind which the journal failed
abbrev pub LeavesPart : List Entry → Output → Output → Type 0
LeavesPart es old new = AppendsFront old.held new.held (entry_frames Second es) × AllByRecursion (HasFrame Second) es

-- ---- start: the journal of all that is held, in stamp order

abbrev pub Starts : Seen → Output → Output → Type 0
Starts s old new = (s.live ≡ true) × HandsOn old new (journal Second s.site s.script s.entries) × AllByRecursion (HasFrame Second) s.entries

abbrev pub StartsNot : Seen → StartError → Output → Output → Type 0
StartsNot s Broken old new = (s.live ≡ false) × (new ≡ old)
StartsNot s WriteFault old new = (s.live ≡ true) × WritesPart old new (journal Second s.site s.script s.entries)

-- ---- issue: the entry that the site then has more

abbrev pub JournalsIssue : Seen → Result Issued IssueError → Seen → Output → Output → Type 0
JournalsIssue s (Ok i) after old new = (e : Entry) × (after.entries ≡ s.entries ++ e ∷ []) × Accepts (e ∷ []) old new
JournalsIssue s (Err issue_error.JournalWrite) after old new = (e : Entry) × (after.entries ≡ s.entries ++ e ∷ []) × LeavesPart (e ∷ []) old new
JournalsIssue s (Err e) after old new = new ≡ old

-- ---- take: the fresh entries of the batch, a repeat at its first place

abbrev pub JournalsBatch : Seen → List Entry → Result Taken TakeError → Output → Output → Type 0
JournalsBatch s batch (Ok t) old new = Accepts (fresh_of s.entries batch) old new
JournalsBatch s batch (Err take_error.JournalWrite) old new = LeavesPart (fresh_of s.entries batch) old new
JournalsBatch s batch (Err e) old new = new ≡ old
