use Rattle.td_incremental.proofs.LostParts.{unmatched_gains_keep_references}
use Rattle.td_incremental.proofs.laws.unmatched_gains_keep_references.Goals as goal

pub returns : goal.returns
returns c = unmatched_gains_keep_references
