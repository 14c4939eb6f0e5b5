use Rattle.td_algebra.proofs.Bridges.{matches_to}
use Rattle.td_integrity.proofs.losses.found_by.Goals as goal

pub returns : goal.returns
returns c = matches_to c.args.tuples.now c.args.relation.now c.rows_fit.ensures c.rows_fit-2.ensures c.in_ok-found.found c.in_ok-found.ensures
