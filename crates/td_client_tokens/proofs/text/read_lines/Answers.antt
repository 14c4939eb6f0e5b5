use Rattle.std.proofs.Common.{◌≡◌, ⊎_elim, inl, inr, ◌∙◌, map}
use Rattle.td_client_tokens.specs.Tokens.{shown}
use Rattle.td_client_tokens.proofs.Steps.{next_line}
use Rattle.td_client_tokens.proofs.text.read_lines.Goals as goal

pub returns-in-Err-clause-fault : goal.returns-in-Err-clause-fault
returns-in-Err-clause-fault c =
    ⊎_elim (λ h. inl h) (λ h. inr (c.loop-at.invariant ∙ next_line c.args.lines.now c.loop-at.at _ (map shown c.loop-at.tokens.items) c.loop-at-test.true ∙ h _)) c.in-Err.ensures.fault

pub loop-at-preserved : goal.loop-at-preserved
loop-at-preserved c =
    c.loop-at.invariant ∙ next_line c.args.lines.now c.loop-at.at _ (map shown c.loop-at.tokens.items) c.loop-at-test.true ∙ c.in-Ok.ensures.added _
