-- When the network is asked, and for what: once for a line whose site is there and whose address is one, unless memory
-- is wanting for the answer; never else.
use Rattle.std.specs.Prelude.{◌≡◌, ◌⊎◌, ℕ, List, codes, Option, Some, None, Result, Ok, Err}
use Rattle.std.specs.Net.Grammar.{IsSocketText, Parses}
use Rattle.std.specs.declared.net.parser.AddrParseError.{AddrParseError}
use Rattle.std.specs.declared.net.socket_addr.SocketAddr.{SocketAddr}
use Rattle.td_commands.specs.Lines.{Line, serve, call}
use Rattle.td_answers.specs.Sites.{Placed, Sites, site_of}

-- links were asked once for an address, and what they are then
abbrev pub LinkRequest : Type 0 → Type 1
LinkRequest L = L → SocketAddr → L → Type 0

abbrev pub AreAskedFor : {L : Type 0} → LinkRequest L → Result SocketAddr AddrParseError → List ℕ → L → L → Type 0
AreAskedFor Ask (Err e) text old new = new ≡ old
AreAskedFor Ask (Ok a) text old new = Ask old a new ⊎ ((text ≡ codes "fault memory\n") × (new ≡ old))

abbrev pub AreAskedAt : {L : Type 0} → LinkRequest L → List ℕ → Option Placed → List ℕ → L → L → Type 0
AreAskedAt Ask address None text old new = new ≡ old
AreAskedAt Ask address (Some p) text old new = (r : Result SocketAddr AddrParseError) × Parses IsSocketText address r × AreAskedFor Ask r text old new

-- what links are behind a line that was answered by this text
abbrev pub AreAsked : {L : Type 0} → LinkRequest L → LinkRequest L → Sites → Line → List ℕ → L → L → Type 0
AreAsked Serves Calls ss (serve n address) text old new = AreAskedAt Serves address (site_of n ss) text old new
AreAsked Serves Calls ss (call n address) text old new = AreAskedAt Calls address (site_of n ss) text old new
AreAsked Serves Calls ss line text old new = new ≡ old
