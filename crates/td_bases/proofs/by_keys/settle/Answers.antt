use Rattle.td_relations.specs.Sets.{Has}
use Rattle.td_bases.proofs.Keyed.{kept_is}
use Rattle.td_bases.proofs.by_keys.settle.Goals as goal

pub returns-else-len-le-MANY-clause-of : goal.returns-else-len-le-MANY-clause-of
returns-else-len-le-MANY-clause-of c =
    kept_is c.args.relation.now (Has c.args.gone.now) c.args.index.now c.retain_those_of.new.self c.rows_fit.ensures.ascending c.requires.beyond c.retain_those_of.ensures.heading c.retain_those_of.ensures.tuples
