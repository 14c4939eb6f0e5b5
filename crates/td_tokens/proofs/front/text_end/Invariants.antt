use Rattle.std.proofs.Common.{◌≡◌, ◌+◌, drop, false}
use Rattle.td_tokens.specs.Lexer.{text_end}
use Rattle.td_tokens.proofs.front.text_end.Given as goal

-- the end is that of what is left
abbrev pub invariant-loop-at : goal.invariant-loop-at
invariant-loop-at l = text_end l.after_quote (1 + l.at) (drop l.at l.rest) ≡ text_end false 1 l.rest
