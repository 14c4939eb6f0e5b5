use Rattle.std.proofs.Common.{◌∙◌}
use Rattle.td_tuples.proofs.Searches.{name_found}
use Rattle.td_tuples.proofs.names.is_among.Goals as goal

pub returns : goal.returns
returns c = c.is_ok.ensures.value ∙ name_found c.args.names.now c.args.name.now c.requires c.binary_search.result c.binary_search.ensures.bound c.binary_search.ensures.position
