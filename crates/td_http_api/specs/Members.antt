-- The names of members.
use Rattle.std.specs.Prelude.{ℕ, Bool, List, codes}
use Rattle.std.specs.List.{list_any}
use Rattle.std.specs.Str.{bytes_eq}
use Rattle.td_http_api.specs.declared.members.Member.{Member}
use Rattle.td_http_api.specs.declared.members.Member.TheVariants.{Counts, After, Before, Relvar, Author, Last, Text, At, Order, Contains, First, Count, Key, Stamp, Site, Address}

abbrev pub member_name : Member → List ℕ
member_name Counts = codes "counts"
member_name After = codes "after"
member_name Before = codes "before"
member_name Relvar = codes "relvar"
member_name Author = codes "author"
member_name Last = codes "last"
member_name Text = codes "text"
member_name At = codes "at"
member_name Order = codes "order"
member_name Contains = codes "contains"
member_name First = codes "first"
member_name Count = codes "count"
member_name Key = codes "key"
member_name Stamp = codes "stamp"
member_name Site = codes "site"
member_name Address = codes "address"

-- one of these members has this name
abbrev pub is_member_name : List Member → List ℕ → Bool
is_member_name members name = list_any (λ m. bytes_eq (member_name m) name) members
