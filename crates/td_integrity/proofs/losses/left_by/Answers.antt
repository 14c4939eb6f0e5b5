use Rattle.td_algebra.proofs.Bridges.{not_matches_to}
use Rattle.td_integrity.proofs.losses.left_by.Goals as goal

pub returns : goal.returns
returns c = not_matches_to c.args.tuples.now c.args.relation.now c.rows_fit.ensures c.rows_fit-2.ensures c.in_ok-rest.rest c.in_ok-rest.ensures
