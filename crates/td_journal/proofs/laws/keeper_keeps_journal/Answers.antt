use Rattle.td_journal.proofs.Grown.{issue_keeps, says_all, starts_journal, take_keeps}
use Rattle.td_journal.proofs.GoesOn.{reopened_has}
use Rattle.td_journal.proofs.Failed.{failed_issue, failed_take}
use Rattle.td_journal.proofs.KeptOn.{kept_has}
use Rattle.td_journal.proofs.laws.keeper_keeps_journal.Goals as goal

pub returns : goal.returns
returns c = record { start = starts_journal; issue = issue_keeps; take = take_keeps; failed_issue = failed_issue; failed_take = failed_take; says = says_all; reopened = reopened_has; kept = kept_has }
