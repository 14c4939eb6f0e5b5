use Rattle.td_changes.proofs.Agreeing.{changes_agree}
use Rattle.td_changes.proofs.laws.changes_agree.Goals as goal

pub returns : goal.returns
returns c = changes_agree
