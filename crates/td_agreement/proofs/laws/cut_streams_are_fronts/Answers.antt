use Rattle.td_agreement.proofs.CutStreams.{cut_answer_takes_some, cut_finish_loses_none, cut_finish_takes_some}
use Rattle.td_agreement.proofs.CutStreams.{cut_reply_takes_some, cut_settle_loses_none, cut_settle_takes_some}
use Rattle.td_agreement.proofs.CutStreams.{cut_stream_is_front}
use Rattle.td_agreement.proofs.laws.cut_streams_are_fronts.Goals as goal

pub returns : goal.returns
returns c = record {
  stream = cut_stream_is_front;
  finish = cut_finish_takes_some;
  finish_loses_none = cut_finish_loses_none;
  settle = cut_settle_takes_some;
  settle_loses_none = cut_settle_loses_none;
  answer = cut_answer_takes_some;
  reply = cut_reply_takes_some;
}
