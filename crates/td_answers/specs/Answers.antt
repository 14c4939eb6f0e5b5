-- What each line is answered, and what it leaves: said of what the sites are seen as, and of the catalogue of their
-- script alone. Of the faults of a line the first that stands is told: its form, its sites, its address or relvar, and
-- then what the call is refused for. Want of memory may be told in place of what a call on an open site has not reached
-- yet.
use Rattle.std.specs.Prelude.{◌≡◌, ℕ, nat_lt, if◌then◌else◌, true, false, List, [], ◌++◌, codes, decimal, Option, Some, None, Result, Ok, Err, slice_set}
use Rattle.td_values.specs.Shown.{shown}
use Rattle.td_headings.specs.Catalogues.{CatalogueData}
use Rattle.td_stamps.specs.Vectors.{VersionVector, IsVector}
use Rattle.td_stamps.specs.declared.entry.Stamp.{Stamp}
use Rattle.td_replica.specs.Calls.{Asks, Issues}
use Rattle.td_replica.specs.Past.{AsksAt}
use Rattle.td_replica.specs.Seen.{Seen}
use Rattle.td_replica.specs.declared.calls.Issued.{Issued}
use Rattle.td_semantics.specs.declared.answer.Answer.{Answer}
use Rattle.td_semantics.specs.declared.answer.Answer.TheVariants as answer
use Rattle.td_replica.specs.declared.refusal.AskError.{AskError}
use Rattle.td_replica.specs.declared.refusal.IssueError.{IssueError}
use Rattle.td_replica.specs.declared.refusal.PastError.{PastError}
use Rattle.td_listings.specs.Calls.{Lists, Logs, Tabulates}
use Rattle.td_listings.specs.Texts.{shown_outcome, shown_stamp, vector_of}
use Rattle.td_listings.specs.declared.error.ListError.{ListError}
use Rattle.td_listings.specs.declared.error.ListError.TheVariants as list_error
use Rattle.td_listings.specs.declared.error.TableError.{TableError}
use Rattle.td_commands.specs.Lines.{Line, nothing, quit, issue, query, query_at, meet, listing, log, vector, table, serve, call, faulty}
use Rattle.td_answers.specs.Faults.{ask_fault, issue_fault, list_fault, meeting_fault, past_fault, raised_line, table_fault}
use Rattle.td_meeting.specs.Meetings.{Meets}
use Rattle.td_meeting.specs.declared.meeting.Met.{Met}
use Rattle.td_meeting.specs.declared.meeting.MeetingRefusal.{MeetingRefusal}
use Rattle.td_answers.specs.Linked.{CallsOver, LinkAnswered, ServesOver}
use Rattle.td_answers.specs.Sites.{Sites, Placed, TellsNoSite, site_of, sites_of}
use Rattle.td_values.specs.Data.{Datum}

-- a site is asked, and no site changes
abbrev pub SiteAnswered : (Seen → List ℕ → Type 0) → Sites → Option Placed → List ℕ → Sites → Type 0
SiteAnswered Asked old None text new = TellsNoSite old text new
SiteAnswered Asked old (Some p) text new = Asked p.1 text × (new ≡ old)

-- ---- n: text

-- CLOCK.SITE OUTCOME
abbrev pub issued_line : Issued → List ℕ
issued_line i = shown_stamp i.stamp ++ codes " " ++ shown_outcome i.outcome ++ codes "\n"

abbrev pub issue_answer : Result Issued IssueError → List ℕ
issue_answer (Ok i) = issued_line i
issue_answer (Err e) = issue_fault e

pub record TellsIssued (t : List ℕ) (s : Seen) (text : List ℕ) (after : Seen) : Type 0 where
  pub answer : Result Issued IssueError
  pub issues : Issues s t answer after
  pub line : text ≡ issue_answer answer

abbrev pub IssueAnswered : List ℕ → Sites → Option Placed → List ℕ → Sites → Type 0
IssueAnswered t old None text new = TellsNoSite old text new
IssueAnswered t old (Some p) text new = (after : Seen) × TellsIssued t p.1 text after × (new ≡ slice_set old p.0 after)

-- ---- n? text

-- the shown value, or raised E
abbrev pub reply_line : Answer Datum → List ℕ
reply_line (answer.Value v) = shown v ++ codes "\n"
reply_line (answer.Raised e) = raised_line e

abbrev pub ask_answer : Result (Answer Datum) AskError → List ℕ
ask_answer (Ok r) = reply_line r
ask_answer (Err e) = ask_fault e

pub record TellsAsked (t : List ℕ) (s : Seen) (text : List ℕ) : Type 0 where
  pub answer : Result (Answer Datum) AskError
  pub asks : Asks s t answer
  pub line : text ≡ ask_answer answer

-- ---- n? text @ CLOCK.SITE

-- a number that no site has stands for a stamp that no entry has
abbrev pub stamp_at : ℕ × ℕ → Stamp
stamp_at p = if nat_lt p.1 65536 then record { clock = p.0; site = p.1 } else record { clock = 0; site = 0 }

abbrev pub past_answer : Result (Answer Datum) PastError → List ℕ
past_answer (Ok r) = reply_line r
past_answer (Err e) = past_fault e

pub record TellsPast (t : List ℕ) (at : ℕ × ℕ) (s : Seen) (text : List ℕ) : Type 0 where
  pub answer : Result (Answer Datum) PastError
  pub asks : AsksAt s t (stamp_at at) answer
  pub line : text ≡ past_answer answer

-- ---- .listing n, .log n, .vector n

abbrev pub list_answer : Result (List ℕ) ListError → List ℕ
list_answer (Ok text) = text
list_answer (Err e) = list_fault e

pub record TellsListing (s : Seen) (text : List ℕ) : Type 0 where
  pub answer : Result (List ℕ) ListError
  pub lists : Lists s answer
  pub lines : text ≡ list_answer answer

pub record TellsLog (s : Seen) (text : List ℕ) : Type 0 where
  pub answer : Result (List ℕ) ListError
  pub logs : Logs s answer
  pub lines : text ≡ list_answer answer

-- the version vector of what a site holds
pub record IsVectorLine (s : Seen) (text : List ℕ) : Type 0 where
  pub vector : VersionVector
  pub counts : IsVector s.entries vector
  pub line : text ≡ vector_of vector

abbrev pub CountsEntries : Seen → Result (List ℕ) ListError → Type 0
CountsEntries s (Ok text) = (s.live ≡ true) × IsVectorLine s text
CountsEntries s (Err list_error.Broken) = s.live ≡ false
CountsEntries s (Err list_error.OutOfMemory) = s.live ≡ true

pub record TellsVector (s : Seen) (text : List ℕ) : Type 0 where
  pub answer : Result (List ℕ) ListError
  pub counts : CountsEntries s answer
  pub line : text ≡ list_answer answer

-- ---- .csv n R

abbrev pub table_answer : Result (List ℕ) TableError → List ℕ
table_answer (Ok text) = text
table_answer (Err e) = table_fault e

pub record TellsTable (c : CatalogueData) (x : List ℕ) (s : Seen) (text : List ℕ) : Type 0 where
  pub answer : Result (List ℕ) TableError
  pub tabulates : Tabulates c s x answer
  pub records : text ≡ table_answer answer

-- ---- .meet n m

-- met n m fresh A B
abbrev pub met_line : ℕ → ℕ → Met → List ℕ
met_line n m met = codes "met " ++ decimal n ++ codes " " ++ decimal m ++ codes " fresh " ++ decimal met.fresh_a ++ codes " " ++ decimal met.fresh_b ++ codes "\n"

abbrev pub meet_answer : ℕ → ℕ → Result Met MeetingRefusal → List ℕ
meet_answer n m (Ok met) = met_line n m met
meet_answer n m (Err r) = meeting_fault r.error

pub record TellsMet (n m : ℕ) (s t : Seen) (text : List ℕ) (after other : Seen) : Type 0 where
  pub answer : Result Met MeetingRefusal
  pub meets : Meets s t answer after other
  pub line : text ≡ meet_answer n m answer

abbrev pub MeetAnswered : ℕ → ℕ → Sites → Option (Placed × Placed) → List ℕ → Sites → Type 0
MeetAnswered n m old None text new = TellsNoSite old text new
MeetAnswered n m old (Some two) text new =
    (after : Seen) × (other : Seen) × TellsMet n m two.0.1 two.1.1 text after other × (new ≡ slice_set (slice_set old two.0.0 after) two.1.0 other)

-- ---- the lines

-- an entry may be taken, and so written to a journal
abbrev pub MayTakeEntries : Line → Type 0
MayTakeEntries (issue n t) = Unit {0}
MayTakeEntries (meet n m) = Unit {0}
MayTakeEntries (serve n address) = Unit {0}
MayTakeEntries (call n address) = Unit {0}
MayTakeEntries line = ⊥

abbrev pub LineAnswered : CatalogueData → Sites → Line → List ℕ → Sites → Type 0
LineAnswered c old nothing text new = (text ≡ []) × (new ≡ old)
LineAnswered c old quit text new = (text ≡ []) × (new ≡ old)
LineAnswered c old faulty text new = (text ≡ codes "fault line\n") × (new ≡ old)
LineAnswered c old (issue n t) text new = IssueAnswered t old (site_of n old) text new
LineAnswered c old (query n t) text new = SiteAnswered (TellsAsked t) old (site_of n old) text new
LineAnswered c old (query_at n t at) text new = SiteAnswered (TellsPast t at) old (site_of n old) text new
LineAnswered c old (meet n m) text new = MeetAnswered n m old (sites_of n m old) text new
LineAnswered c old (listing n) text new = SiteAnswered TellsListing old (site_of n old) text new
LineAnswered c old (log n) text new = SiteAnswered TellsLog old (site_of n old) text new
LineAnswered c old (vector n) text new = SiteAnswered TellsVector old (site_of n old) text new
LineAnswered c old (table n x) text new = SiteAnswered (TellsTable c x) old (site_of n old) text new
LineAnswered c old (serve n address) text new = LinkAnswered ServesOver (codes "served") n address old (site_of n old) text new
LineAnswered c old (call n address) text new = LinkAnswered CallsOver (codes "called") n address old (site_of n old) text new
