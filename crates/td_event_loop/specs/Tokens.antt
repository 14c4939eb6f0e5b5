-- The tokens of events.
use Rattle.std.specs.Prelude.{ℕ, ◌+◌}
use Rattle.td_event_loop.specs.declared.tokens.EventSource.{EventSource}
use Rattle.td_event_loop.specs.declared.tokens.EventSource.TheVariants.{ClientListener, PeerListener, Console, Client, Peer}

-- three tokens of the listeners and the console, 64 of clients, and those of peers
abbrev pub token_of : EventSource → ℕ
token_of ClientListener = 0
token_of PeerListener = 1
token_of Console = 2
token_of (Client slot) = 3 + slot
token_of (Peer slot) = 67 + slot
