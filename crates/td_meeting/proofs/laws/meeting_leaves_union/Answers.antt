use Rattle.td_meeting.proofs.Unions.{leaves_union}
use Rattle.td_meeting.proofs.laws.meeting_leaves_union.Goals as goal

pub returns : goal.returns
returns c = leaves_union
