use Rattle.td_checked_meetings.proofs.Joining.{by_site}
use Rattle.td_checked_meetings.proofs.laws.meeting_joins_by_site.Goals as goal

pub returns : goal.returns
returns c = by_site
