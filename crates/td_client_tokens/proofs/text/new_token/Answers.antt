use Rattle.std.proofs.Common.{◌≡◌, Err, ap, sym, ◌∙◌}
use Rattle.td_client_tokens.specs.Borrowed.{line_value}
use Rattle.td_client_tokens.proofs.Steps.{same_secret, same_name, one_more}
use Rattle.td_client_tokens.proofs.text.new_token.Goals as goal

pub returns-then-has_secret : goal.returns-then-has_secret
returns-then-has_secret c =
    same_secret c.args.tokens.now c.args.line.now (line_value c.in-Ok.token) (sym c.is_passed_over.ensures ∙ c.if-is_passed_over.false) c.in-Ok.ensures (sym c.has_secret.ensures ∙ c.if-has_secret.true)

pub returns-then-has_name : goal.returns-then-has_name
returns-then-has_name c =
    same_name c.args.tokens.now c.args.line.now (line_value c.in-Ok.token) (sym c.is_passed_over.ensures ∙ c.if-is_passed_over.false) c.in-Ok.ensures (sym c.has_secret.ensures ∙ c.if-has_secret.false) (sym c.has_name.ensures ∙ c.if-has_name.true)
    ∙ ap Err (sym c.twice.ensures)

pub returns : goal.returns
returns c =
    one_more c.args.tokens.now c.args.line.now (line_value c.in-Ok.token) (sym c.is_passed_over.ensures ∙ c.if-is_passed_over.false) c.in-Ok.ensures (sym c.has_secret.ensures ∙ c.if-has_secret.false) (sym c.has_name.ensures ∙ c.if-has_name.false)
