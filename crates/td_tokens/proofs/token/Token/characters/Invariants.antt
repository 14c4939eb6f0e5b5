use Rattle.std.proofs.Common.{◌≡◌, ◌++◌, false, string_bytes}
use Rattle.td_tokens.specs.Lexer.{undoubled, after_opening}
use Rattle.td_tokens.proofs.token.Token.characters.Given as goal

-- what is written, and then the characters of what is left
abbrev pub invariant-loop-c : goal.invariant-loop-c
invariant-loop-c l =
    string_bytes l.characters ++ undoubled l.after_quote l.c-iterator.rest.now ≡ undoubled false (after_opening l.self.text.now)
