use Rattle.td_agreement.proofs.Progress.{cut_meeting_brings_new, cut_meeting_keeps}
use Rattle.td_agreement.proofs.Progress.{cut_meetings_end, cut_meetings_progress}
use Rattle.td_agreement.proofs.laws.cut_meetings_make_progress.Goals as goal

pub returns : goal.returns
returns c = record {
  keeps = cut_meeting_keeps;
  new = cut_meeting_brings_new;
  progress = cut_meetings_progress;
  end = cut_meetings_end;
}
