-- The order of tuples that a body asks for: a list of pairs, each of an attribute and `up` or `down`.
use Rattle.std.specs.Prelude.{◌≡◌, ℕ, ◌+◌, Bool, true, false, List, [], ◌∷◌, Option, Some, None, codes, option_and_then, string_bytes}
use Rattle.json.specs.Find.{as_str, at, get}
use Rattle.json.specs.Json.{Json}
use Rattle.td_http_api.specs.declared.calls.OrderBy.{OrderBy}
use Rattle.td_http_api.specs.declared.members.Member.TheVariants.{Order}
use Rattle.td_http_api.specs.Members.{member_name}

abbrev pub direction_text : Bool → List ℕ
direction_text true = codes "down"
direction_text false = codes "up"

-- the pair of an attribute and its direction
pub record IsOrderBy (pair : Json) (order : OrderBy) : Type 0 where
  pub attribute : option_and_then as_str (at 0 pair) ≡ Some (string_bytes order.attribute)
  pub direction : option_and_then as_str (at 1 pair) ≡ Some (direction_text order.is_descending)

-- the list's items from this index on are the pairs of these attributes
abbrev pub ListsOrders : ℕ → Json → List OrderBy → Type 0
ListsOrders i list [] = at i list ≡ None
ListsOrders i list (order ∷ orders) = ((pair : Json) × (at i list ≡ Some pair) × IsOrderBy pair order) × ListsOrders (i + 1) list orders

-- what a member says, where there is one
abbrev pub SaysOrders : Option Json → List OrderBy → Type 0
SaysOrders None orders = orders ≡ []
SaysOrders (Some list) orders = ListsOrders 0 list orders

-- the body asks for this order
abbrev pub HasOrder : Json → List OrderBy → Type 0
HasOrder body orders = SaysOrders (get (member_name Order) body) orders
