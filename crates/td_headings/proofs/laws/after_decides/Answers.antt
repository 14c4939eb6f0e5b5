use Rattle.td_headings.proofs.Deciding.{after_is, is_after}
use Rattle.td_headings.proofs.laws.after_decides.Goals as goal

pub returns : goal.returns
returns c = λ a b x. (after_is a b x, is_after)
