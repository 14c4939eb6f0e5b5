-- What a line says, as it is written there.
use Rattle.std.specs.Prelude.{ℕ, List, Option, option_map}
use Rattle.td_client_tokens.specs.declared.line.TokenLine.{TokenLine}
use Rattle.td_client_tokens.specs.Tokens.{Entry}

abbrev pub line_value : TokenLine → Entry
line_value t = record { secret = t.secret.now; name = option_map (λ n. n.now) t.name; rights = t.rights }
