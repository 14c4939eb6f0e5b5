use Rattle.td_answers.proofs.Placing.{Reaches}
use Rattle.td_answers.proofs.places.place_of.Given as goal

abbrev pub invariant-loop-at : goal.invariant-loop-at
invariant-loop-at g l = Reaches g.R.Replica.seen l.number l.sites l.at
