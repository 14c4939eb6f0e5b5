-- Tokens as values: their texts, and not where these are in memory.
use Rattle.std.specs.Prelude.{ℕ, List, Option, option_map, string_bytes}
use Rattle.td_client_tokens.specs.declared.rights.Rights.{Rights}
use Rattle.td_client_tokens.specs.declared.token.ClientToken.{ClientToken}

-- what a client shows, whose it is, and what it lets do
pub record Entry : Type 0 where
  pub secret : List ℕ
  pub name : Option (List ℕ)
  pub rights : Rights

-- the value of a token
abbrev pub shown : ClientToken → Entry
shown t = record { secret = string_bytes t.secret; name = option_map string_bytes t.name; rights = t.rights }
