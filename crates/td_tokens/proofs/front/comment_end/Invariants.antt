use Rattle.std.proofs.Common.{◌≡◌, ◌+◌, drop, false}
use Rattle.td_tokens.specs.Lexer.{comment_end}
use Rattle.td_tokens.proofs.front.comment_end.Given as goal

-- the end is that of what is left
abbrev pub invariant-loop-at : goal.invariant-loop-at
invariant-loop-at l = comment_end l.after_star (2 + l.at) (drop l.at l.inside) ≡ comment_end false 2 l.inside
