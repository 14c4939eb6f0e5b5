use Rattle.td_incremental.proofs.KeptParts.{kept_parts_keep_references}
use Rattle.td_incremental.proofs.laws.kept_parts_keep_references.Goals as goal

pub returns : goal.returns
returns c = kept_parts_keep_references
