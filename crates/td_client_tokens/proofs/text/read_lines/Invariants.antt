use Rattle.std.proofs.Common.{◌≡◌, [], drop, map, ◌+◌}
use Rattle.td_client_tokens.specs.Texts.{tokens_after}
use Rattle.td_client_tokens.specs.Tokens.{shown}
use Rattle.td_client_tokens.proofs.text.read_lines.Given as goal

abbrev pub invariant-loop-at : goal.invariant-loop-at
invariant-loop-at l = tokens_after (map (λ x. x.now) l.lines) 1 [] ≡ tokens_after (drop l.at (map (λ x. x.now) l.lines)) (l.at + 1) (map shown l.tokens.items)
