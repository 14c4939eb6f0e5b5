use Rattle.td_agreement.proofs.Interleaved.{keeps_all}
use Rattle.td_agreement.proofs.laws.interleaved_meeting_keeps_all.Goals as goal

pub returns : goal.returns
returns c = keeps_all
