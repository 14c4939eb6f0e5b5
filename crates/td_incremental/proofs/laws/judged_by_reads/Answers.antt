use Rattle.td_incremental.proofs.Narrowing.{judged_by_reads}
use Rattle.td_incremental.proofs.laws.judged_by_reads.Goals as goal

pub returns : goal.returns
returns c = judged_by_reads
