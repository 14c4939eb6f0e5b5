use Rattle.std.proofs.Common.{◌≡◌, ◌-◌}
use Rattle.td_grammar.specs.ForProofs.StatementReader.{keys_at, keys_from}
use Rattle.td_grammar.proofs.definitions.keys.Given as goal

abbrev pub invariant-loop-turn : goal.invariant-loop-turn
invariant-loop-turn l = keys_at l.initial.tokens ≡ keys_from (l._turn-end - l._turn) l.found l.tokens
