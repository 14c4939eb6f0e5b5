-- Links that are asked for, and what is told of them.
use Rattle.std.specs.Prelude.{◌≡◌, ℕ, List, codes, Result, Ok, Err}
use Rattle.std.specs.Net.Grammar.{IsSocketText, Parses}
use Rattle.std.specs.declared.net.parser.AddrParseError.{AddrParseError}
use Rattle.std.specs.declared.net.socket_addr.SocketAddr.{SocketAddr}
use Rattle.td_replica.specs.Seen.{Seen}
use Rattle.td_replica.specs.declared.calls.Taken.{Taken}
use Rattle.td_meeting.specs.Steps.{LinkData}
use Rattle.td_meeting.specs.declared.error.MeetingError.{MeetingError}
use Rattle.td_answers.specs.Asking.{AreAskedFor, LinkRequest}
use Rattle.td_answers.specs.Linked.{IsNewLink, TellsAddress, TwoSteps}

-- the word is this address
abbrev pub IsAddress : List ℕ → SocketAddr → Type 0
IsAddress word a = Parses {E = AddrParseError} IsSocketText word (Ok a)

-- why the network isn't asked, by what the address is parsed as
abbrev pub fault_before : Result SocketAddr AddrParseError → List ℕ
fault_before (Ok a) = codes "fault memory\n"
fault_before (Err e) = codes "fault address\n"

abbrev pub IsUnready : List ℕ → List ℕ → Type 0
IsUnready address fault = (r : Result SocketAddr AddrParseError) × Parses IsSocketText address r × (fault ≡ fault_before r)

-- what a site is told and is then, and how links were asked for it
abbrev pub TellsAndAsks : {L : Type 0} → TwoSteps → LinkRequest L → List ℕ → ℕ → List ℕ → Seen → List ℕ → Seen → L → L → Type 0
TellsAndAsks Two Ask done n address s text after old new =
    (r : Result SocketAddr AddrParseError) × Parses IsSocketText address r × TellsAddress Two done n r s text after × AreAskedFor Ask r text old new

-- two steps over a link that was new
abbrev pub IsOverNew : TwoSteps → Seen → Result Taken MeetingError → Seen → Type 0
IsOverNew Two s r after = (old : LinkData) × (new : LinkData) × IsNewLink old × Two s old r new after
