use Rattle.std.proofs.Common.{◌-◌, length}
use Rattle.td_graph.proofs.Walks.{IsWalk}
use Rattle.td_graph.proofs.walked.Given as goal

abbrev pub invariant-loop-at : goal.invariant-loop-at
invariant-loop-at g l = IsWalk (g.L.Leads.links l.links) l.starts l.at l.marks.items l.places.items

abbrev pub decreases-loop-at : goal.decreases-loop-at
decreases-loop-at g l = length (g.L.Leads.links l.links) - l.at
