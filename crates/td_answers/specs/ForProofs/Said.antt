-- What a reply says, and texts with room.
use Rattle.std.specs.Prelude.{◌≡◌, ◌≤◌, ℕ, List, [], Some, string_bytes, string_len, string_capacity, String}
use Rattle.std.specs.Global.{Global}
use Rattle.td_answers.specs.Replies.{words}
use Rattle.td_replica.specs.Seen.{Seen}
use Rattle.td_answers.specs.Answers.{SiteAnswered}
use Rattle.td_answers.specs.Sites.{Placed, Sites, site_of}
use Rattle.td_answers.specs.declared.reply.Reply.{Reply}
use Rattle.td_answers.specs.declared.reply.Reply.TheVariants as reply

-- the reply is a text of which this holds
abbrev pub Says : (List ℕ → Type 0) → Reply → Type 0
Says P reply.Quit = ⊥
Says P r = P (words r)

-- an empty text with room for any line that is told after a site has changed
pub record IsBlank (text : String Global) : Type 0 where
  pub bytes : string_bytes text ≡ []
  pub len : string_len text ≡ 0
  pub room : 160 ≤ string_capacity text

abbrev pub place_in : Placed → ℕ
place_in p = p.0

-- the site is the first of this number
abbrev pub IsSiteOf : ℕ → Sites → Seen → Type 0
IsSiteOf n ss s = (at : ℕ) × (site_of n ss ≡ Some (at, s))

-- the first site of this number is asked
abbrev pub TellsIn : (Seen → List ℕ → Type 0) → ℕ → Sites → List ℕ → Type 0
TellsIn Asked n ss text = SiteAnswered Asked ss (site_of n ss) text ss
