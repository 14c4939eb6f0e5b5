use Rattle.td_replay.proofs.Counting as counting
use Rattle.td_replay.proofs.laws.runs_are_one.Goals as goal

pub returns-clause-one : goal.returns-clause-one
returns-clause-one c = counting.runs_are_one

pub returns-clause-there : goal.returns-clause-there
returns-clause-there c = counting.runs_are_there
