use Rattle.td_io.proofs.LineEnds.{raw_first, raw_last}
use Rattle.td_io.proofs.laws.lines_come_in_turn.Goals as goal

pub returns : goal.returns
returns c = record { first = raw_first; last = raw_last }
