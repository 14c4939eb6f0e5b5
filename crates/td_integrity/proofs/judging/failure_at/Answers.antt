use Rattle.td_integrity.proofs.Tested.{has_relvar}
use Rattle.td_integrity.proofs.judging.failure_at.Goals as goal

pub report-requires : goal.report-requires
report-requires g c = has_relvar c.args.catalogue.now c.requires.defined c.args.place c.args.test.now c.requires.test

pub report-requires-in-Err-Raised : goal.report-requires-in-Err-Raised
report-requires-in-Err-Raised g c = has_relvar c.args.catalogue.now c.requires.defined c.args.place c.args.test.now c.requires.test
