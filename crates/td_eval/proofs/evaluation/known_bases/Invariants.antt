use Rattle.std.proofs.Common.{◌≡◌, ◌++◌, drop}
use Rattle.td_eval.specs.ForProofs.Environments.{bases_known}
use Rattle.td_eval.proofs.evaluation.known_bases.Given as goal

abbrev pub invariant-loop-base : goal.invariant-loop-base
invariant-loop-base g l = bases_known (g.L.Lookup.relvars l.lookup) l.bases ≡ l.known.items ++ bases_known (g.L.Lookup.relvars l.lookup) (drop l.base-index l.bases)
