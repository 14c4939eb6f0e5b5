use Rattle.td_trials.proofs.Trying.{issue_does_as_tried}
use Rattle.td_trials.proofs.laws.issue_does_as_tried.Goals as goal

pub returns : goal.returns
returns c = issue_does_as_tried
