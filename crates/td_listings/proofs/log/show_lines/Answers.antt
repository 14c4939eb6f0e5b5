use Rattle.td_listings.proofs.Lines.{log_end}
use Rattle.td_listings.proofs.log.show_lines.Goals as goal

pub returns-else-at-outcomes : goal.returns-else-at-outcomes
returns-else-at-outcomes c = log_end _ _ _ c.args.outcomes.now c.loop-at.at c.if-at-outcomes.false c.loop-at.invariant
