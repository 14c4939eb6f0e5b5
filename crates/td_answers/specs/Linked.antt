-- Meetings with sites of other programs, and the lines that ask for one. Which bytes come over a link is not known, so
-- a meeting is told by a link that was new, and by the two steps that were made over it.
use Rattle.std.specs.Prelude.{◌≡◌, ◌⊎◌, ℕ, true, List, ◌++◌, codes, decimal, Option, Some, None, Result, Ok, Err, slice_set}
use Rattle.std.specs.Io.KnownBytes.{Keeps}
use Rattle.std.specs.Net.Grammar.{IsSocketText, Parses}
use Rattle.std.specs.declared.net.parser.AddrParseError.{AddrParseError}
use Rattle.std.specs.declared.net.socket_addr.SocketAddr.{SocketAddr}
use Rattle.td_replica.specs.Seen.{Seen}
use Rattle.td_replica.specs.declared.calls.Taken.{Taken}
use Rattle.td_meeting.specs.Steps as steps
use Rattle.td_meeting.specs.Steps.{LinkData}
use Rattle.td_meeting.specs.declared.error.MeetingError.{MeetingError}
use Rattle.td_answers.specs.Faults.{meeting_fault}
use Rattle.td_answers.specs.Sites.{Placed, Sites, TellsNoSite}

-- ---- two steps over a link

-- it has not failed, and nothing that was written to it is kept back
abbrev pub IsNewLink : LinkData → Type 0
IsNewLink link = (link.failures ≡ 0) × (link.is_flushed ≡ true)

-- what two steps make of a site and of a link, and what they end in
abbrev pub TwoSteps : Type 1
TwoSteps = Seen → LinkData → Result Taken MeetingError → LinkData → Seen → Type 0

-- the fourth step, which writes nothing
abbrev pub FinishedOver : TwoSteps
FinishedOver s old r new after = steps.Finished s old.left new.left old.failures new.failures r after × Keeps old.held new.held

-- the first of them leaves the site as it is, and the second is made where it ended well
abbrev pub InTurn : (Seen → LinkData → Result (Unit {0}) MeetingError → LinkData → Type 0) → TwoSteps → TwoSteps
InTurn First Second s old r new after =
    ((e : MeetingError) × (r ≡ Err e) × First s old (Err e) new × (after ≡ s)) ⊎ ((mid : LinkData) × First s old (Ok tt) mid × Second s mid r new after)

-- the second site of a meeting answers the greeting, and takes what then comes
abbrev pub ServesOver : TwoSteps
ServesOver = InTurn steps.Answered FinishedOver

-- the first one greets, takes what it is answered, and sends what the other site lacks
abbrev pub CallsOver : TwoSteps
CallsOver = InTurn steps.Greeted steps.Settled

-- ---- the lines

-- served n fresh A, called n fresh A
abbrev pub linked_line : List ℕ → ℕ → ℕ → List ℕ
linked_line done n fresh = done ++ codes " " ++ decimal n ++ codes " fresh " ++ decimal fresh ++ codes "\n"

abbrev pub linked_answer : List ℕ → ℕ → Result Taken MeetingError → List ℕ
linked_answer done n (Ok taken) = linked_line done n taken.fresh
linked_answer done n (Err e) = meeting_fault e

-- two steps were made over a new link, and what they ended in is told
pub record MeetsOver (Two : TwoSteps) (done : List ℕ) (n : ℕ) (s : Seen) (text : List ℕ) (after : Seen) : Type 0 where
  pub old : LinkData
  pub new : LinkData
  pub answer : Result Taken MeetingError
  pub is_new : IsNewLink old
  pub two : Two s old answer new after
  pub line : text ≡ linked_answer done n answer

-- no link was opened, and the site stays: the address could not be bound, nothing connected, or memory was wanting
abbrev pub IsUnlinked : Seen → List ℕ → Seen → Type 0
IsUnlinked s text after = ((text ≡ codes "fault net\n") ⊎ (text ≡ codes "fault memory\n")) × (after ≡ s)

-- by what the address is parsed as
abbrev pub TellsAddress : TwoSteps → List ℕ → ℕ → Result SocketAddr AddrParseError → Seen → List ℕ → Seen → Type 0
TellsAddress Two done n (Err e) s text after = (text ≡ codes "fault address\n") × (after ≡ s)
TellsAddress Two done n (Ok a) s text after = IsUnlinked s text after ⊎ MeetsOver Two done n s text after

pub record TellsLink (Two : TwoSteps) (done : List ℕ) (n : ℕ) (address : List ℕ) (s : Seen) (text : List ℕ) (after : Seen) : Type 0 where
  pub answer : Result SocketAddr AddrParseError
  pub parses : Parses IsSocketText address answer
  pub told : TellsAddress Two done n answer s text after

abbrev pub LinkAnswered : TwoSteps → List ℕ → ℕ → List ℕ → Sites → Option Placed → List ℕ → Sites → Type 0
LinkAnswered Two done n address old None text new = TellsNoSite old text new
LinkAnswered Two done n address old (Some p) text new = (after : Seen) × TellsLink Two done n address p.1 text after × (new ≡ slice_set old p.0 after)
