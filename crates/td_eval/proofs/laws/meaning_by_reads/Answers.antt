use Rattle.td_eval.proofs.Known.{by_reads}
use Rattle.td_eval.proofs.laws.meaning_by_reads.Goals as goal

pub returns : goal.returns
returns c = by_reads
