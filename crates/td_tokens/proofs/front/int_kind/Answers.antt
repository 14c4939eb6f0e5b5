use Rattle.std.proofs.Common.{◌≡◌, ap, sym, ◌∙◌, arith}
use Rattle.std.specs.Prelude.{option_and_then}
use Rattle.td_tokens.specs.Lexer.{int_kind}
use Rattle.td_tokens.proofs.Integers.{in_range, int_parsed, fits_range, past_range}
use Rattle.td_tokens.proofs.front.int_kind.Goals as goal
use Rattle.td_tokens.proofs.front.int_kind.Goals.{After-ok}

as_parsed : (c : After-ok) → int_kind c.args.run.now ≡ option_and_then in_range c.ok.result
as_parsed c = int_parsed c.args.run.now c.parse.result c.parse.ensures.value.0 c.requires ∙ ap (option_and_then in_range) (sym c.ok.ensures.value)

pub returns-in_err-value : goal.returns-in_err-value
returns-in_err-value c = c.from_residual.ensures ∙ sym (as_parsed (goal.at.returns-in_err-value c).After-ok ∙ ap (option_and_then in_range) c.in_err-value.was)

pub returns-then-value-le-LARGEST_INT : goal.returns-then-value-le-LARGEST_INT
returns-then-value-le-LARGEST_INT c =
    let small = c.if-value-le-LARGEST_INT.true in
    sym (as_parsed (goal.at.returns-then-value-le-LARGEST_INT c).After-ok ∙ ap (option_and_then in_range) c.in_ok-value.was ∙ fits_range c.in_ok-value.value (omega arith))

pub returns-else-value-le-LARGEST_INT : goal.returns-else-value-le-LARGEST_INT
returns-else-value-le-LARGEST_INT c =
    let large = c.if-value-le-LARGEST_INT.false in
    sym (as_parsed (goal.at.returns-else-value-le-LARGEST_INT c).After-ok ∙ ap (option_and_then in_range) c.in_ok-value.was ∙ past_range c.in_ok-value.value (omega arith))
