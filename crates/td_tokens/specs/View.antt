-- What a token of the code stands for.
use Rattle.td_tokens.specs.declared.token.Token.{Token}
use Rattle.td_tokens.specs.Lex.{Lexeme, Spanned}
use Rattle.td_tokens.specs.Lexer.{lexeme}

-- what a token is
abbrev pub lexeme_of : Token → Lexeme
lexeme_of t = lexeme t.kind t.text.now

-- a token with its place
abbrev pub spanned_of : Token → Spanned
spanned_of t = record { lexeme = lexeme_of t; start = t.start; end = t.end }
