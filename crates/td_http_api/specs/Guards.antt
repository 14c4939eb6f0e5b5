-- Which requests are let in.
use Rattle.std.specs.Prelude.{◌≡◌, ◌⊎◌, ℕ, nat_le, true, List, [], ◌∷◌, ◌++◌, Option, Some, None, codes, map, option_map, Any, Contains, String, string_bytes}
use Rattle.std.specs.declared.alloc.Global.{Global}
use Rattle.http.specs.declared.request.Request.{Request}
use Rattle.http.specs.Request.{head_of}
use Rattle.http_header.specs.FieldValue.{FieldValue}
use Rattle.http_header.specs.HeaderMap.{get_all}
use Rattle.std.specs.Char.{to_ascii_lowercase}
use Rattle.td_client_tokens.specs.Grants.{rights_rank}
use Rattle.td_client_tokens.specs.declared.rights.Rights.{Rights}
use Rattle.td_client_tokens.specs.declared.token.ClientToken.{ClientToken}
use Rattle.td_http_api.specs.declared.guard.Guard.{Guard}
use Rattle.td_http_api.specs.declared.resources.Right.{Right}
use Rattle.td_http_api.specs.declared.resources.Right.TheVariants.{Everyone, Bearer}

-- the values of a field of a request
abbrev pub values_of : Request (List ℕ) → List ℕ → List FieldValue
values_of request name = get_all (head_of request).headers name

-- the one value; none where there is no value or several
abbrev pub only_value : List FieldValue → Option (List ℕ)
only_value [] = None
only_value (v ∷ []) = Some v.bytes
only_value (v ∷ w ∷ vs) = None

-- the host is one of those of the guard, in whatever case
abbrev pub IsHost : List (String Global) → List ℕ → Type 0
IsHost hosts host = Any (λ own. map to_ascii_lowercase (string_bytes own) ≡ map to_ascii_lowercase host) hosts

abbrev pub HasHost : List (String Global) → Request (List ℕ) → Type 0
HasHost hosts request = (host : List ℕ) × (only_value (values_of request (codes "host")) ≡ Some host) × IsHost hosts host

-- the origin of a page of one of these hosts, which may be reached through TLS (RFC 6454)
abbrev pub IsOrigin : List (String Global) → List ℕ → Type 0
IsOrigin hosts origin =
    (host : List ℕ) × ((origin ≡ codes "http://" ++ host) ⊎ (origin ≡ codes "https://" ++ host)) × IsHost hosts host

-- a browser names no origin, or this site's own
abbrev pub HasOrigin : List (String Global) → Request (List ℕ) → Type 0
HasOrigin hosts request =
    (values_of request (codes "origin") ≡ [])
    ⊎ ((origin : List ℕ) × (only_value (values_of request (codes "origin")) ≡ Some origin) × IsOrigin hosts origin)

-- the one authorization of a request bears the token (RFC 6750, 2.1)
abbrev pub Bears : ClientToken → Request (List ℕ) → Type 0
Bears token request = only_value (values_of request (codes "authorization")) ≡ Some (codes "Bearer " ++ string_bytes token.secret)

-- the name of a token, if it has one
abbrev pub token_name : ClientToken → Option (List ℕ)
token_name token = option_map string_bytes token.name

-- the request is let in by this token
pub record Admits (guard : Guard) (request : Request (List ℕ)) (token : ClientToken) : Type 0 where
  pub host : HasHost guard.hosts.items request
  pub origin : HasOrigin guard.hosts.items request
  pub listed : Contains guard.tokens.items token
  pub bears : Bears token request

-- the token has these rights
abbrev pub HasRights : ClientToken → Rights → Type 0
HasRights token rights = nat_le (rights_rank rights) (rights_rank token.rights) ≡ true

-- the token has the right
abbrev pub Permits : ClientToken → Right → Type 0
Permits token Everyone = Unit {0}
Permits token (Bearer rights) = HasRights token rights

-- the request has the right: that of everyone, for which no token is asked, or that of a token
abbrev pub Holds : Guard → Request (List ℕ) → Right → Option ClientToken → Type 0
Holds guard request Everyone None = HasHost guard.hosts.items request
Holds guard request Everyone (Some token) = ⊥
Holds guard request (Bearer rights) None = ⊥
Holds guard request (Bearer rights) (Some token) = Admits guard request token × HasRights token rights
