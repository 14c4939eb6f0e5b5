use Rattle.std.proofs.Common.{◌≡◌, ◌-◌, length, []}
use Rattle.td_grammar.specs.ForProofs.Reader.{reads}
use Rattle.td_grammar.specs.ForProofs.StatementReader.{definitions_from}
use Rattle.td_grammar.proofs.grammar.Grammar.definitions.Given as goal

abbrev pub invariant-loop-turn : goal.invariant-loop-turn
invariant-loop-turn g l = definitions_from (reads l.self.depth) l.self.levels (length l.initial.tokens) [] l.initial.tokens ≡ definitions_from (reads l.self.depth) l.self.levels (l._turn-end - l._turn) l.found l.tokens
