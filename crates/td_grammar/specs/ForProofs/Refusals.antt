-- Which refusal stands for which of a lower call.
use Rattle.td_tokens.specs.declared.error.TokenError.{TokenError}
use Rattle.td_tokens.specs.declared.error.TokenError.TheVariants as token_error
use Rattle.td_values.specs.declared.names.NameError.{NameError}
use Rattle.td_values.specs.declared.names.NameError.TheVariants as name_error
use Rattle.td_grammar.specs.declared.error.ReadError.{ReadError}
use Rattle.td_grammar.specs.declared.error.ReadError.TheVariants as read_error

abbrev pub read_token : TokenError → ReadError
read_token token_error.Syntax = read_error.Syntax
read_token token_error.OutOfMemory = read_error.OutOfMemory

abbrev pub read_name : NameError → ReadError
read_name name_error.BadName = read_error.Syntax
read_name name_error.OutOfMemory = read_error.OutOfMemory
