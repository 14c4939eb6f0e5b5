use Rattle.td_algebra.proofs.Ending.{placed}
use Rattle.td_algebra.proofs.closure.place_of.Goals as goal

pub returns-clause-found : goal.returns-clause-found
returns-clause-found c = placed c.args.ends.now c.args.end.now c.requires c.binary_search.result c.binary_search.ensures.bound c.binary_search.ensures.position c.ok.result c.ok.ensures.value
