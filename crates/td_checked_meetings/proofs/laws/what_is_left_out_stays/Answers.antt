use Rattle.td_checked_meetings.proofs.Staying.{beyond_stays, left_out_stays}
use Rattle.td_checked_meetings.proofs.laws.what_is_left_out_stays.Goals as goal

pub returns : goal.returns
returns c = record { left_out = left_out_stays; beyond = beyond_stays }
