-- The lines that tell why a call is refused, or which error a query or a relvar raises.
use Rattle.std.specs.Prelude.{ℕ, List, ◌++◌, codes, decimal}
use Rattle.td_values.specs.declared.raises.Raise.{Raise}
use Rattle.td_replica.specs.declared.refusal.AskError.{AskError}
use Rattle.td_replica.specs.declared.refusal.AskError.TheVariants as ask_error
use Rattle.td_replica.specs.declared.refusal.IssueError.{IssueError}
use Rattle.td_replica.specs.declared.refusal.IssueError.TheVariants as issue_error
use Rattle.td_replica.specs.declared.refusal.PastError.{PastError}
use Rattle.td_replica.specs.declared.refusal.PastError.TheVariants as past_error
use Rattle.td_replica.specs.declared.refusal.TakeError.{TakeError}
use Rattle.td_replica.specs.declared.refusal.TakeError.TheVariants as take_error
use Rattle.td_frames.specs.declared.error.FrameError.{FrameError}
use Rattle.td_frames.specs.declared.error.FrameError.TheVariants as frame_error
use Rattle.td_meeting.specs.declared.error.MeetingError.{MeetingError}
use Rattle.td_meeting.specs.declared.error.MeetingError.TheVariants as meeting_error
use Rattle.td_listings.specs.Texts.{shown_raise}
use Rattle.td_listings.specs.declared.error.ListError.{ListError}
use Rattle.td_listings.specs.declared.error.ListError.TheVariants as list_error
use Rattle.td_listings.specs.declared.error.TableError.{TableError}
use Rattle.td_listings.specs.declared.error.TableError.TheVariants as table_error
use Rattle.td_answers.specs.declared.links.LinkError.{LinkError}
use Rattle.td_answers.specs.declared.links.LinkError.TheVariants as link_error

-- raised E
abbrev pub raised_line : Raise → List ℕ
raised_line e = codes "raised " ++ shown_raise e ++ codes "\n"

abbrev pub issue_fault : IssueError → List ℕ
issue_fault issue_error.Broken = codes "fault broken\n"
issue_fault issue_error.Syntax = codes "fault syntax\n"
issue_fault issue_error.IllTyped = codes "fault type\n"
issue_fault issue_error.ClockEnd = codes "fault clock\n"
issue_fault issue_error.Full = codes "fault full\n"
issue_fault issue_error.OutOfMemory = codes "fault memory\n"
issue_fault issue_error.JournalWrite = codes "fault journal\n"

abbrev pub ask_fault : AskError → List ℕ
ask_fault ask_error.Broken = codes "fault broken\n"
ask_fault ask_error.Syntax = codes "fault syntax\n"
ask_fault ask_error.IllTyped = codes "fault type\n"
ask_fault ask_error.OutOfMemory = codes "fault memory\n"

abbrev pub past_fault : PastError → List ℕ
past_fault past_error.Broken = codes "fault broken\n"
past_fault past_error.Syntax = codes "fault syntax\n"
past_fault past_error.IllTyped = codes "fault type\n"
past_fault past_error.NoPlace = codes "fault place\n"
past_fault past_error.OutOfMemory = codes "fault memory\n"

-- fault clash SITE SEQ
abbrev pub clash_line : ℕ → ℕ → List ℕ
clash_line site seq = codes "fault clash " ++ decimal site ++ codes " " ++ decimal seq ++ codes "\n"

abbrev pub take_fault : TakeError → List ℕ
take_fault take_error.Broken = codes "fault broken\n"
take_fault take_error.BadEntry = codes "fault entry\n"
take_fault (take_error.Clash site seq) = clash_line site seq
take_fault take_error.Full = codes "fault full\n"
take_fault take_error.OutOfMemory = codes "fault memory\n"
take_fault take_error.JournalWrite = codes "fault journal\n"

-- fault WHAT TAKEN
abbrev pub counted_line : List ℕ → ℕ → List ℕ
counted_line what taken = codes "fault " ++ what ++ codes " " ++ decimal taken ++ codes "\n"

abbrev pub frame_fault : FrameError → ℕ → List ℕ
frame_fault frame_error.OutOfMemory taken = codes "fault memory\n"
frame_fault frame_error.ReadFault taken = counted_line (codes "read") taken
frame_fault frame_error.Cut taken = counted_line (codes "cut") taken
frame_fault frame_error.Magic taken = codes "fault magic\n"
frame_fault frame_error.Version taken = codes "fault version\n"
frame_fault frame_error.BadFrame taken = codes "fault frame\n"

abbrev pub meeting_fault : MeetingError → List ℕ
meeting_fault meeting_error.Broken = codes "fault broken\n"
meeting_fault meeting_error.OutOfMemory = codes "fault memory\n"
meeting_fault (meeting_error.Frame e taken) = frame_fault e taken
meeting_fault meeting_error.OtherScript = codes "fault script\n"
meeting_fault meeting_error.SameSite = codes "fault same site\n"
meeting_fault (meeting_error.WriteFault taken) = counted_line (codes "write") taken
meeting_fault (meeting_error.Take e) = take_fault e

abbrev pub list_fault : ListError → List ℕ
list_fault list_error.Broken = codes "fault broken\n"
list_fault list_error.OutOfMemory = codes "fault memory\n"

-- a relvar that raises is told as a query that raises is
abbrev pub table_fault : TableError → List ℕ
table_fault table_error.Unknown = codes "fault relvar\n"
table_fault table_error.NoAttributes = codes "fault csv\n"
table_fault table_error.Broken = codes "fault broken\n"
table_fault (table_error.Raised e) = raised_line e
table_fault table_error.OutOfMemory = codes "fault memory\n"

abbrev pub link_fault : LinkError → List ℕ
link_fault link_error.NetFault = codes "fault net\n"
link_fault link_error.OutOfMemory = codes "fault memory\n"
