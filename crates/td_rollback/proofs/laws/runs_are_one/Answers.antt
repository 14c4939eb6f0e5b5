use Rattle.td_rollback.proofs.Counted.{runs_are_counted}
use Rattle.td_rollback.proofs.Counting.{runs_are_few, runs_are_one, runs_are_there}
use Rattle.td_rollback.proofs.laws.runs_are_one.Goals as goal

pub returns-clause-one : goal.returns-clause-one
returns-clause-one g c = λ o. runs_are_one (g.M.Machine.footprint o) (g.M.Machine.targets o)

pub returns-clause-few : goal.returns-clause-few
returns-clause-few g c = λ o. runs_are_few (g.M.Machine.footprint o) (g.M.Machine.targets o)

pub returns-clause-there : goal.returns-clause-there
returns-clause-there g c = λ o. runs_are_there (g.M.Machine.footprint o) (g.M.Machine.targets o)

pub returns-clause-counted : goal.returns-clause-counted
returns-clause-counted g c = λ o. runs_are_counted (g.M.Machine.footprint o) (g.M.Machine.targets o)
