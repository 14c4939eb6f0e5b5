use Rattle.std.specs.FinMap as by_name
use Rattle.std.proofs.lemmas.List.Filters.{dedup_is}
use Rattle.td_relations.proofs.Listed.{listed}
use Rattle.td_algebra.proofs.closure.sort_distinct.Goals as goal

pub returns-clause-ascending : goal.returns-clause-ascending
returns-clause-ascending c = (listed by_name.empty _ _ _ c.sort_unstable.ensures.permutation c.sort_unstable.ensures.sorted (dedup_is _ _ _ c.dedup.ensures.filtered)).ascending

pub returns-clause-same : goal.returns-clause-same
returns-clause-same c = (listed by_name.empty _ _ _ c.sort_unstable.ensures.permutation c.sort_unstable.ensures.sorted (dedup_is _ _ _ c.dedup.ensures.filtered)).members
