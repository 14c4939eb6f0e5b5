use Rattle.std.proofs.Common.{◌≡◌, ◌-◌}
use Rattle.td_grammar.specs.ForProofs.Reader.{Reader, list_from, list_at}
use Rattle.td_grammar.specs.ForProofs.Readings.{Follows}
use Rattle.td_grammar.proofs.lists.list.Given as goal

abbrev pub invariant-loop-turn : goal.invariant-loop-turn
invariant-loop-turn g l = (at : Reader _) → Follows at (goal.I-post g l.item) → list_at at l.initial.tokens ≡ list_from at (l._turn-end - l._turn) l.found l.tokens
