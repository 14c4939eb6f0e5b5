-- The table of calls: where each one is, what it takes, and who may make it.
use Rattle.std.specs.Prelude.{◌≡◌, ◌⊎◌, ℕ, List, [], ◌∷◌, ◌++◌, codes}
use Rattle.td_client_tokens.specs.declared.rights.Rights.{Rights}
use Rattle.td_client_tokens.specs.declared.rights.Rights.TheVariants.{Read, Write, All}
use Rattle.td_http_api.specs.declared.members.Member.{Member}
use Rattle.td_http_api.specs.declared.members.Member.TheVariants.{Counts, After, Before, Last, Author, Contains, Text, At, Order, First, Count, Key, Stamp, Address}
use Rattle.td_http_api.specs.declared.members.Member.TheVariants as member
use Rattle.td_http_api.specs.declared.resources.Methods.{Methods}
use Rattle.td_http_api.specs.declared.resources.Methods.TheVariants.{Get, GetAndHead, Post}
use Rattle.td_http_api.specs.declared.resources.Path.{Path}
use Rattle.td_http_api.specs.declared.resources.Path.TheVariants.{Whole, Around}
use Rattle.td_http_api.specs.declared.resources.Resource.{Resource}
use Rattle.td_http_api.specs.declared.resources.Resource.TheVariants.{Page, Health, Site, Client, Relvars, Table, Refused, Attention, Log, Script, Schema, Digest, Metrics, Query, Statement, Trial, Acknowledge, AcknowledgeAlarms, Meet, Stop}
use Rattle.td_http_api.specs.declared.resources.Right.{Right}
use Rattle.td_http_api.specs.declared.resources.Right.TheVariants.{Everyone, Bearer}

-- the path with this name in it
abbrev pub path_text : Path → List ℕ → List ℕ
path_text (Whole text) name = text.now
path_text (Around before after) name = before.now ++ (name ++ after.now)

-- the method is one of these
abbrev pub Allows : Methods → List ℕ → Type 0
Allows Get method = method ≡ codes "GET"
Allows GetAndHead method = (method ≡ codes "GET") ⊎ (method ≡ codes "HEAD")
Allows Post method = method ≡ codes "POST"

-- the methods of a resource, its path by the name in it, who may ask for it, and the members that it takes
pub record ResourceRow : Type 0 where
  pub methods : Methods
  pub path : List ℕ → List ℕ
  pub right : Right
  pub members : List Member

-- a call by GET, for whoever may read
abbrev pub row_read : List ℕ → List Member → ResourceRow
row_read path members = record { methods = Get; path = λ name. path; right = Bearer Read; members = members }

-- a call by POST, for whoever has these rights
abbrev pub row_posted : List ℕ → Rights → List Member → ResourceRow
row_posted path rights members = record { methods = Post; path = λ name. path; right = Bearer rights; members = members }

-- what everyone may look at
abbrev pub row_shown : List ℕ → ResourceRow
row_shown path = record { methods = GetAndHead; path = λ name. path; right = Everyone; members = [] }

-- everyone may ask for the page and whether the site takes statements; all else needs a token
abbrev pub row_of : Resource → ResourceRow
row_of Page = row_shown (codes "/")
row_of Health = row_shown (codes "/api/health")
row_of Site = row_read (codes "/api/site") []
row_of Client = row_read (codes "/api/client") []
row_of Relvars = row_read (codes "/api/relvars") (Counts ∷ [])
row_of Table = record { methods = Get; path = λ name. codes "/api/relvars/" ++ (name ++ codes ".csv"); right = Bearer Read; members = [] }
row_of Refused = row_read (codes "/api/refused") []
row_of Attention = row_read (codes "/api/attention") []
row_of Log = row_read (codes "/api/log") (After ∷ Before ∷ member.Relvar ∷ Key ∷ Author ∷ Contains ∷ Last ∷ [])
row_of Script = row_read (codes "/api/script") []
row_of Schema = row_read (codes "/api/schema") []
row_of Digest = row_read (codes "/api/digest") []
row_of Metrics = row_read (codes "/metrics") []
row_of Query = row_posted (codes "/api/query") Read (Text ∷ At ∷ Order ∷ Contains ∷ First ∷ Count ∷ [])
row_of Statement = row_posted (codes "/api/statement") Write (Text ∷ Key ∷ [])
row_of Trial = row_posted (codes "/api/try") Read (Text ∷ [])
row_of Acknowledge = row_posted (codes "/api/acknowledge") Write (Stamp ∷ [])
row_of AcknowledgeAlarms = row_posted (codes "/api/alarms/acknowledge") Write (member.Site ∷ [])
row_of Meet = row_posted (codes "/api/meet") All (Address ∷ [])
row_of Stop = row_posted (codes "/api/stop") All []
