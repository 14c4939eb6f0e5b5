use Rattle.td_client_tokens.proofs.Endings.{all_at_end, none_at_end}
use Rattle.td_client_tokens.proofs.line.split_rights.Goals as goal

pub returns-in-Some-strip_suffix-2 : goal.returns-in-Some-strip_suffix-2
returns-in-Some-strip_suffix-2 c = all_at_end _ _ c.in_default.ensures.cases c.in_default-strip_suffix.ensures.cases c.in-Some-strip_suffix-2.ensures.cases

pub returns : goal.returns
returns c = none_at_end _ c.in_default.ensures.cases c.in_default-strip_suffix.ensures.cases c.in_default-strip_suffix-2.ensures.cases
