use Rattle.td_operators.proofs.Decided.{fits_tested}
use Rattle.td_operators.proofs.tuples.has_heading.Goals as goal

pub returns-clause-test : goal.returns-clause-test
returns-clause-test c = fits_tested c.args.heading.now c.args.tuple.now c.fits.result c.fits.ensures
