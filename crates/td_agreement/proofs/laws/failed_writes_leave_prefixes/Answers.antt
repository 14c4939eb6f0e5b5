use Rattle.td_agreement.proofs.CutWriters.{failed_answer_takes_some, failed_answer_writes_prefix}
use Rattle.td_agreement.proofs.CutWriters.{failed_reply_takes_some, failed_settle_writes_prefix}
use Rattle.td_agreement.proofs.laws.failed_writes_leave_prefixes.Goals as goal

pub returns : goal.returns
returns c = record {
  answer_bytes = failed_answer_writes_prefix;
  settle_bytes = failed_settle_writes_prefix;
  answer = failed_answer_takes_some;
  reply = failed_reply_takes_some;
}
